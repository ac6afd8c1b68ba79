-- `machine::find_bad` meets its contract. The invariant, `Looking`: what is found from here on is what is found from the beginning.
use Rattle.reading.proofs.Scanning.{Looking}
use Rattle.reading.proofs.machine.find_bad.Given as goal

abbrev pub invariant-loop-at : goal.invariant-loop-at
invariant-loop-at l = Looking l.service l.message l.from l.state l.at
