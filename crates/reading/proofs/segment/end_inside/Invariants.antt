-- `segment::end_inside` meets its contract. The invariant, `Ending`: what is found from here on, in the state that the flags stand for, is
-- what is found from the beginning.
use Prim.Native.Nat.{◌-◌}
use lib.ListN.{length}
use Rattle.reading.proofs.Ending.{Ending}
use Rattle.reading.proofs.segment.end_inside.Given as goal

abbrev pub invariant-loop-next : goal.invariant-loop-next
invariant-loop-next l = Ending l.service l.message l.from l.opened l.parted l.next

abbrev pub decreases-loop-next : goal.decreases-loop-next
decreases-loop-next l = length l.message - l.next
