use mathlib.Core.Path.{sym, ◌∙◌}
use Rattle.pieces.proofs.Passing.{over_text, over_released}
use Rattle.pieces.proofs.piece.pass_data.Goals as goal

pub loop-at-preserved-then-is_text : goal.loop-at-preserved-then-is_text
loop-at-preserved-then-is_text c = over_text _ _ _ _ _ _ c.loop-at.invariant c.loop-at-test.true (sym c.is_text.ensures ∙ c.if-is_text.true) _ c.after_text-held.ensures

pub loop-at-preserved : goal.loop-at-preserved
loop-at-preserved c = over_released _ _ _ _ _ _ c.loop-at.invariant c.loop-at-test.true c.if-byte-service.true (sym c.is_released.ensures ∙ c.if-is_released.true)
