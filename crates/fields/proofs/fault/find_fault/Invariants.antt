-- `fault::find_fault` meets its contract. The invariant, `Passing`: the test of the elements left is the test of all.
use lib.ListN.{length}
use Rattle.guide.specs.meaning.Guide.{guide_of}
use Rattle.fields.proofs.Stepping.{Passing}
use Rattle.fields.proofs.fault.find_fault.Given as goal

abbrev pub invariant-loop-rest : goal.invariant-loop-rest
invariant-loop-rest l = Passing l.service (guide_of l.book) l.message l.at l.line l.element l.behind l.left

abbrev pub decreases-loop-rest : goal.decreases-loop-rest
decreases-loop-rest l = length l.behind
