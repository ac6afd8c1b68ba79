use Rattle.guide.specs.meaning.Guide.{guide_of}
use Rattle.fields.proofs.Cutting.{next_smaller}
use Rattle.fields.proofs.Stepping.{going_on}
use Rattle.fields.proofs.element.test_components.Goals as goal

pub loop-left-smaller : goal.loop-left-smaller
loop-left-smaller c = next_smaller c.args.service c.loop-left.rest.now c.split_component.result.0.now c.split_component.result.1.now c.split_component.ensures c.in-Some.next.now c.in-Some.ensures

pub loop-left-preserved : goal.loop-left-preserved
loop-left-preserved c =
    going_on c.args.service (guide_of c.args.book.now) c.args.rest.now c.args.some c.args.element c.args.left c.loop-left.component c.loop-left.rest.now
    c.split_component.result.0.now c.split_component.result.1.now c.loop-left.left c.loop-left.invariant c.split_component.ensures c.in_ok-left.left c.in_ok-left.ensures.within c.in_ok-left.ensures.value
    c.in-Some.next.now c.in-Some.ensures
