use mathlib.Core.Path.{sym, ◌∙◌}
use Rattle.reading.specs.declared.machine.State.TheVariants.{Start}
use Rattle.pieces.proofs.Passing.{stopping_here, stopping_on, stopping_out}
use Rattle.pieces.proofs.piece.pass_bytes.Goals as goal

pub returns-then-is_stop : goal.returns-then-is_stop
returns-then-is_stop c = stopping_here _ _ _ _ _ _ _ c.loop-at.invariant c.loop-at-test.true c.step-next.ensures (sym c.is_stop.ensures ∙ c.if-is_stop.true)

pub loop-at-preserved : goal.loop-at-preserved
loop-at-preserved c = stopping_on _ _ _ _ _ _ _ c.loop-at.invariant c.loop-at-test.true c.step-next.ensures (sym c.is_stop.ensures ∙ c.if-is_stop.false) _ c.pass_data-passed.ensures

pub returns : goal.returns
returns c = stopping_out _ _ _ _ _ Start _ c.loop-at.invariant c.loop-at-test.false
