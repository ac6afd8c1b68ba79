-- `passes::test_placing` meets its contract. The invariant, `Testing`: the walk has come through the homes seen, and what is found from
-- here on is what is found in all.
use Rattle.placing.specs.method.Walking.{open_lines}
use Rattle.placing.proofs.Passing.{Testing}
use Rattle.placing.proofs.passes.test_placing.Given as goal

abbrev pub invariant-loop-passed : goal.invariant-loop-passed
invariant-loop-passed l = Testing l.service l.message l.book l.segments (open_lines l.walk) l.stop l.passed l.cursor.at
