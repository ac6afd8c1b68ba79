-- `lookup::seek_from` meets its contract. The invariant, `Seeking`: the search from here ends as the whole does, and its numbers
-- cannot wrap.
use Rattle.reading.specs.method.Machine.{seek}
use Rattle.reading.proofs.Seeking.{Seeking}
use Rattle.reading.proofs.lookup.seek_from.Given as goal

abbrev pub invariant-loop-at : goal.invariant-loop-at
invariant-loop-at l = Seeking l.service l.message l.from l.element l.component (seek l.elements l.components l.start l.released) l.at
