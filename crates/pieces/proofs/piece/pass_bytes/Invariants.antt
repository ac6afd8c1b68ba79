-- `piece::pass_bytes` meets its contract. The invariant, `Stopping`: the machine stops from here on where it stops from the beginning.
use Prim.Native.Nat.{◌-◌}
use lib.ListN.{length}
use Rattle.pieces.proofs.Passing.{Stopping}
use Rattle.pieces.proofs.piece.pass_bytes.Given as goal

abbrev pub invariant-loop-at : goal.invariant-loop-at
invariant-loop-at l = Stopping l.service l.initial.held l.from l.piece l.held l.at

abbrev pub decreases-loop-at : goal.decreases-loop-at
decreases-loop-at l = length l.piece - l.at
