-- `segment::pass_text` meets its contract. The invariant, `Passed`, is the promise: only text has been passed so far.
use Prim.Native.Nat.{◌-◌}
use lib.ListN.{length}
use Rattle.reading.specs.method.Kept.{Passed}
use Rattle.reading.proofs.segment.pass_text.Given as goal

abbrev pub invariant-loop-at : goal.invariant-loop-at
invariant-loop-at l = Passed l.service l.message l.from l.at

abbrev pub decreases-loop-at : goal.decreases-loop-at
decreases-loop-at l = length l.message - l.at
