-- `owner_of` meets its contract: the line that is found is the nearest that lies higher.
use Rattle.std.proofs.Common.{◌-◌, sym, arith}
use Rattle.guide.specs.meaning.Plan.{plan_in}
use Rattle.rules.proofs.Owners.{owner_found}
use Rattle.rules.proofs.instances.owner_of.Goals as goal

pub returns-then-depth-clause-owner : goal.returns-then-depth-clause-owner
returns-then-depth-clause-owner c =
    sym (owner_found (plan_in c.args.book.now) c.args.line (c.loop-before.before - 1) (omega arith) (omega arith) (omega (arith, c.depth-depth.ensures.0, c.depth.ensures.0, c.if-depth.true))
    (λ k x y. let h = c.loop-before.invariant k (omega arith) y in let q = c.depth-depth.ensures.0 in omega arith))
