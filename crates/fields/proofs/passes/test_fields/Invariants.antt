-- `passes::test_fields` meets its contract. The invariant, `Testing`: what is found from here on is what is found in all.
use Rattle.guide.specs.meaning.Guide.{guide_of}
use Rattle.fields.proofs.Segments.{Testing}
use Rattle.fields.proofs.passes.test_fields.Given as goal

abbrev pub invariant-loop-before : goal.invariant-loop-before
invariant-loop-before l = Testing l.service (guide_of l.book) l.message l.segments l.starts l.homes l.before
