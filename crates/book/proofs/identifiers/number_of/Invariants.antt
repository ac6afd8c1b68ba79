-- `identifiers::number_of` meets its contract. The invariant: of the bytes so far the number is made.
use mathlib.Core.Path.{◌≡◌}
use Rattle.guide.specs.meaning.Guide.{guide_of}
use Rattle.book.proofs.Digits.{number_of}
use Rattle.book.proofs.identifiers.number_of.Given as goal

abbrev pub invariant-loop-place : goal.invariant-loop-place
invariant-loop-place l = l.number ≡ number_of ((guide_of l.book).identifier_byte l.identifier) l.place
