-- `passes::write_tree` meets its contract. The invariant, `Writing`: what is still to be written leads to the whole tables.
use Rattle.placing.proofs.Passing.{Writing}
use Rattle.placing.proofs.passes.write_tree.Given as goal

abbrev pub invariant-loop-entry : goal.invariant-loop-entry
invariant-loop-entry l = Writing l.service l.message l.book l.segments l.initial.starts l.initial.homes l.initial.parents l.starts l.homes l.parents l.cursor.at l.trail.triggers l.entry
