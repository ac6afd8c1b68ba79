use Prim.Native.Nat.{ℕ}
use mathlib.Core.Path.{sym, ap, ◌∙◌}
use Rattle.std.specs.Prelude.{Option}
use Rattle.std.specs.Option.{unwrap_or}
use Rattle.reading.proofs.Starts.{found_within}
use Rattle.placing.proofs.OrNone.{or_zero}
use Rattle.placing.proofs.Passing.{found_home, write_begin, write_on, write_nothing, write_end}
use Rattle.placing.proofs.passes.write_tree.Goals as goal

pub loop-entry-init : goal.loop-entry-init
loop-entry-init c = write_begin c.args.service c.args.message.now c.args.book.now c.args.segments _ _ _ _ _ c.first-cursor.ensures c.begin-trail.ensures

pub at-segment-requires : goal.at-segment-requires
at-segment-requires c = found_within c.args.service c.args.message.now c.loop-entry.cursor.at _ _ (sym c.in-Some.is ∙ c.next_segment.ensures)

pub loop-entry-preserved : goal.loop-entry-preserved
loop-entry-preserved c =
    let home =
    c.unwrap_or-home.ensures
    ∙ ap (λ (r : Option ℕ). unwrap_or r 0) (found_home c.args.service c.args.message.now c.args.book.now _ _ _ _ c.loop-entry.cursor.at _ c.find_home.ensures c.at-segment.ensures.service c.at-segment.ensures.message c.at-segment.ensures.at c.of-lines.ensures) ∙ or_zero _ in
    write_on c.args.service c.args.message.now c.args.book.now c.args.segments _ _ _ _ _ _ _ _ c.loop-entry.entry c.loop-entry.invariant _ _ _ _ _ _ _ _ _ c.loop-entry-test.true (sym c.in-Some.is ∙ c.next_segment.ensures)
    c.entry_of.ensures home c.parent_of.ensures c.put.ensures c.put-in-loop-entry.ensures c.put-in-loop-entry-2.ensures c.open_instance.ensures

pub returns-in_default : goal.returns-in_default
returns-in_default c =
    let written = write_nothing c.args.service c.args.message.now c.args.book.now c.args.segments _ _ _ _ _ _ _ _ c.loop-entry.entry c.loop-entry.invariant (sym c.in_default.is ∙ c.next_segment.ensures) in
    record { starts = written.0; homes = written.1; parents = written.2 }

pub returns : goal.returns
returns c =
    let written = write_end c.args.service c.args.message.now c.args.book.now c.args.segments _ _ _ _ _ _ _ _ c.loop-entry.entry c.loop-entry.invariant c.loop-entry-test.false in
    record { starts = written.0; homes = written.1; parents = written.2 }
