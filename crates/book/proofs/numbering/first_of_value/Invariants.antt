-- `numbering::first_of_value` meets its contract. The invariant: no place that was passed has the value sought, and so the place itself
-- was not passed. The measure is what is left up to that place.
use Prim.Native.Nat.{ℕ, ◌-◌, ◌≤◌, ◌<◌}
use mathlib.Core.Path.{◌≡◌}
use lib.ListN.{get_or}
use Rattle.book.proofs.numbering.first_of_value.Given as goal

abbrev pub invariant-loop-first : goal.invariant-loop-first
invariant-loop-first l =
    (l.first ≤ l.place) × ((d : ℕ) → d < l.first → get_or l.values d 0 ≡ get_or l.values l.place 0 → ⊥)

abbrev pub decreases-loop-first : goal.decreases-loop-first
decreases-loop-first l = l.place - l.first
