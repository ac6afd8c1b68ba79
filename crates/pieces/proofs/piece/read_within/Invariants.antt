-- `piece::read_within` meets its contract. The invariant, `Along`: what is left of the piece makes of progress and table what the whole does.
use Prim.Native.Nat.{◌-◌}
use lib.ListN.{length}
use Rattle.pieces.proofs.Passing.{Along}
use Rattle.pieces.proofs.piece.read_within.Given as goal

abbrev pub invariant-loop-at : goal.invariant-loop-at
invariant-loop-at l = Along l.service l.initial.come l.initial.starts l.piece l.come l.starts l.at

abbrev pub decreases-loop-at : goal.decreases-loop-at
decreases-loop-at l = length l.piece - l.at
