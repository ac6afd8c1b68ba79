-- `numbering::numbers_of` meets its contract. The invariant: of the codes so far the table `values` has the bytes, and `numbers` the first code
-- of the same bytes.
use Prim.Native.Nat.{ℕ, ◌<◌}
use mathlib.Core.Path.{◌≡◌}
use lib.ListN.{length, get_or}
use Rattle.guide.specs.meaning.Guide.{guide_of}
use Rattle.book.specs.method.Tables.{whole_code, FirstOf}
use Rattle.book.proofs.numbering.numbers_of.Given as goal

abbrev pub invariant-loop-code : goal.invariant-loop-code
invariant-loop-code l =
    (length l.values ≡ 8192) × (length l.numbers ≡ 8192)
    × ((i : ℕ) → i < l.code → get_or l.values i 0 ≡ whole_code (guide_of l.book) i) × ((i : ℕ) → i < l.code → FirstOf (whole_code (guide_of l.book)) i (get_or l.numbers i 0))
