-- `walk::can_close` meets its contract: no line stands behind the last one; else the lines behind are looked at.
use Rattle.guide.specs.meaning.Plan.{plan_in}
use Rattle.placing.proofs.Steps.{close_last}
use Rattle.placing.proofs.walk.can_close.Goals as goal

pub returns-then-lines-level : goal.returns-then-lines-level
returns-then-lines-level c = close_last (plan_in c.args.book.now) c.args.depth c.args.level c.lines-lines.result c.lines-lines.ensures.0 c.if-lines-level.true
