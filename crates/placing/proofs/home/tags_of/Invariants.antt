-- `home::tags_of` meets its contract. The invariant: of the lines so far the table has the tags.
use Prim.Native.Nat.{ℕ, ◌<◌}
use mathlib.Core.Path.{◌≡◌}
use lib.ListN.{length, get_or}
use Rattle.guide.specs.meaning.Guide.{guide_of}
use Rattle.placing.specs.method.Kept.{home_tag}
use Rattle.placing.proofs.home.tags_of.Given as goal

abbrev pub invariant-loop-line : goal.invariant-loop-line
invariant-loop-line l = record { length_is : length l.tags.items ≡ l.line; same : (k : ℕ) → k < l.line → get_or l.tags.items k 0 ≡ home_tag (guide_of l.book) k }
