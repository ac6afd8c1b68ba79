-- `parts::value_length` meets its contract. The invariant, `Measuring`: what has been counted and the value of what is left make all.
use lib.ListN.{length}
use Rattle.fields.proofs.Fitting.{Measuring}
use Rattle.fields.proofs.parts.value_length.Given as goal

abbrev pub invariant-loop-at : goal.invariant-loop-at
invariant-loop-at l = Measuring l.service l.part l.releases l.rest

abbrev pub decreases-loop-at : goal.decreases-loop-at
decreases-loop-at l = length l.rest
