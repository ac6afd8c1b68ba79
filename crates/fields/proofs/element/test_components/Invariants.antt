-- `element::test_components` meets its contract. The invariant, `Going`: the test from this component on is the test of all.
use lib.ListN.{length}
use Rattle.guide.specs.meaning.Guide.{guide_of}
use Rattle.fields.proofs.Stepping.{Going}
use Rattle.fields.proofs.element.test_components.Given as goal

abbrev pub invariant-loop-left : goal.invariant-loop-left
invariant-loop-left l = Going l.service (guide_of l.book) l.fn.rest l.some l.element l.fn.left l.component l.rest l.left

abbrev pub decreases-loop-left : goal.decreases-loop-left
decreases-loop-left l = length l.rest
