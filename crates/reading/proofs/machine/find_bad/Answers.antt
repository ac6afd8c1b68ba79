use mathlib.Core.Path.{sym, ◌∙◌}
use Rattle.reading.proofs.Scanning.{looking_bad}
use Rattle.reading.proofs.machine.find_bad.Goals as goal

pub returns-then-is_dead : goal.returns-then-is_dead
returns-then-is_dead c = looking_bad _ _ _ _ _ c.loop-at.at c.loop-at-test.true c.loop-at.invariant c.step-state.ensures (sym c.is_dead.ensures ∙ c.if-is_dead.true)
