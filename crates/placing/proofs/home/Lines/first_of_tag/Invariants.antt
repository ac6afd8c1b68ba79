-- `Lines::first_of_tag` meets its contract. The invariant: the least line of the tag is the least of those left.
use Prim.Native.Nat.{ℕ, ◌-◌}
use mathlib.Core.Path.{◌≡◌}
use mathlib.Core.Bool.{Bool}
use mathlib.Core.List.{List}
use lib.Dec.{eqb}
use lib.ListN.{length, get_or}
use Rattle.placing.specs.meaning.Fitting.{least}
use Rattle.placing.specs.method.Kept.{first_of_tag}
use Rattle.placing.proofs.home.Lines.first_of_tag.Given as goal

abbrev pub has : List ℕ → ℕ → ℕ → Bool
has tags tag l = eqb (get_or tags l 0) tag

abbrev pub invariant-loop-line : goal.invariant-loop-line
invariant-loop-line l = least (has l.self.tags.items l.tag) l.line (length l.self.tags.items - l.line) ≡ first_of_tag l.self.tags.items l.tag
