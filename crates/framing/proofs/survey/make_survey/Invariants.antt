-- `survey::make_survey` meets its contract. The invariant, `Surveying`: what is left to scan answers as the whole does, and the frame
-- will be what the segments so far and those to come make it.
use Prim.Native.Nat.{◌-◌}
use lib.ListN.{length}
use Rattle.framing.proofs.Frames.{Surveying}
use Rattle.framing.proofs.survey.make_survey.Given as goal

abbrev pub invariant-loop-at : goal.invariant-loop-at
invariant-loop-at l = Surveying l.service l.message l.segments l.misplaced l.last l.at

abbrev pub decreases-loop-at : goal.decreases-loop-at
decreases-loop-at l = length l.message - l.at
