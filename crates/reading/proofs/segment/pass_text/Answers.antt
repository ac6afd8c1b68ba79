use mathlib.Core.Path.{sym, ◌∙◌}
use Rattle.reading.proofs.Ending.{passed_on}
use Rattle.reading.proofs.segment.pass_text.Goals as goal

pub loop-at-preserved : goal.loop-at-preserved
loop-at-preserved c = passed_on _ _ _ _ c.loop-at-test.true c.loop-at.invariant (sym c.is_text.ensures ∙ c.if-not-is_text.false)
