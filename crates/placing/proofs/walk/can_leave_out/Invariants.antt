-- `walk::can_leave_out` meets its contract. The invariant: what is left decides as all does.
use mathlib.Core.Path.{◌≡◌}
use Rattle.guide.specs.meaning.Plan.{plan_in}
use Rattle.placing.proofs.Loops.{Left}
use Rattle.placing.proofs.walk.can_leave_out.Given as goal

abbrev pub invariant-loop-line : goal.invariant-loop-line
invariant-loop-line l = Left (plan_in l.book) l.depth l.end l.outside l.line ≡ Left (plan_in l.book) l.depth l.end l.outside l.first
