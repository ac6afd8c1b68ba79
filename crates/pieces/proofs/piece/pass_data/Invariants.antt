-- `piece::pass_data` meets its contract: the machine has come over data, `OverData`.
use Prim.Native.Nat.{◌-◌}
use lib.ListN.{length}
use Rattle.pieces.proofs.Passing.{OverData}
use Rattle.pieces.proofs.piece.pass_data.Given as goal

abbrev pub invariant-loop-at : goal.invariant-loop-at
invariant-loop-at l = OverData l.service l.piece l.initial.held l.from l.held l.at

abbrev pub decreases-loop-at : goal.decreases-loop-at
decreases-loop-at l = length l.piece - l.at
