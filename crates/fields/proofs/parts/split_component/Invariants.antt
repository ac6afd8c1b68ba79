-- `parts::split_component` meets its contract. The invariant, `Reading`: what has been read and what is left make the component.
use Prim.Native.Nat.{◌-◌}
use mathlib.Core.Bool.{false}
use lib.ListN.{length}
use Rattle.fields.proofs.Cutting.{Reading}
use Rattle.fields.proofs.parts.split_component.Given as goal

abbrev pub invariant-loop-at : goal.invariant-loop-at
invariant-loop-at l = Reading l.service l.rest false l.at

abbrev pub decreases-loop-at : goal.decreases-loop-at
decreases-loop-at l = length l.rest - l.at
