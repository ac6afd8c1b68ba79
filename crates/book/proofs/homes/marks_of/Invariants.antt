-- `homes::marks_of` meets its contract. The invariant: a code's number is marked exactly when one of the line's codes so far is the same
-- eight bytes.
use Prim.Native.Nat.{◌+◌, ◌-◌, ◌≤◌}
use mathlib.Core.Path.{◌≡◌}
use lib.ListN.{length}
use Rattle.guide.specs.meaning.Guide.{guide_of}
use Rattle.book.proofs.Tables.{MarkedFrom}
use Rattle.book.proofs.homes.marks_of.Given as goal

abbrev pub invariant-loop-code : goal.invariant-loop-code
invariant-loop-code l = (l.first + l.count ≤ (guide_of l.codes.book.now).codes) × (length l.marks ≡ 8192) × MarkedFrom (guide_of l.codes.book.now) l.codes.numbers.now l.marks l.first (l.code - l.first)
