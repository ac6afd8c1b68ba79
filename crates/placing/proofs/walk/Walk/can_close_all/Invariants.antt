-- `Walk::can_close_all` meets its contract. The invariant: what is left can be closed exactly when all can.
use lib.ListN.{drop}
use mathlib.Core.Path.{◌≡◌}
use Rattle.guide.specs.meaning.Plan.{plan_in}
use Rattle.placing.specs.method.Walking.{can_close_all, open_lines}
use Rattle.placing.proofs.walk.Walk.can_close_all.Given as goal

abbrev pub invariant-loop-at : goal.invariant-loop-at
invariant-loop-at l = can_close_all (plan_in l.book) l.at (drop l.at (open_lines l.self)) ≡ can_close_all (plan_in l.book) l.depth (drop l.depth (open_lines l.self))
