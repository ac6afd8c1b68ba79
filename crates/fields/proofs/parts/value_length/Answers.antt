use mathlib.Core.Path.{sym}
use Rattle.fields.proofs.Fitting.{measuring_two, measuring_last}
use Rattle.fields.proofs.parts.value_length.Goals as goal

pub loop-at-preserved : goal.loop-at-preserved
loop-at-preserved c = measuring_two c.args.service c.args.part.now c.loop-at.releases c.loop-at.rest.now c.loop-at.invariant c.in-Some.at (sym c.in-Some.ensures)

pub loop-at-preserved-in_default-2 : goal.loop-at-preserved-in_default-2
loop-at-preserved-in_default-2 c = measuring_last c.args.service c.args.part.now c.loop-at.releases c.loop-at.rest.now c.loop-at.invariant c.in-Some.at (sym c.in-Some.ensures) c.in_default-2.len_below
