-- `Watch::scan` meets its contract. The invariant, `Passes`: from the segment that has been come to, what is found is what is found in all.
use Rattle.rules.proofs.Passing.{Passes}
use Rattle.rules.proofs.watch.Watch.scan.Given as goal

abbrev pub invariant-loop-at : goal.invariant-loop-at
invariant-loop-at l = Passes l.self l.line l.homes l.instance l.seen l.at
