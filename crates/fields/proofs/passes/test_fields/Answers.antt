use Rattle.guide.specs.meaning.Guide.{guide_of}
use Rattle.fields.proofs.Segments.{testing_found}
use Rattle.fields.proofs.passes.test_fields.Goals as goal

pub returns-in-Err-clause-value : goal.returns-in-Err-clause-value
returns-in-Err-clause-value c =
    testing_found c.args.service (guide_of c.args.book.now) c.args.message.now c.args.segments c.args.starts.now c.args.homes.now c.loop-before.before c.loop-before.invariant
    c.loop-before-test.true c.if-at-starts.false c.if-at-homes.false c.in-Err.fault c.in-Err.ensures.value
