-- `parts::skip_to_element` meets its contract. The invariant, `Skipping`: the elements behind this component are those behind the tag.
use lib.ListN.{length}
use Rattle.fields.proofs.Cutting.{Skipping}
use Rattle.fields.proofs.parts.skip_to_element.Given as goal

abbrev pub invariant-loop-next : goal.invariant-loop-next
invariant-loop-next l = Skipping l.service l.rest l.behind

abbrev pub decreases-loop-next : goal.decreases-loop-next
decreases-loop-next l = length l.behind
