-- `Segments::next` moves on: a cursor that has found a segment stands behind it, and within the text.
use Rattle.std.proofs.Common.{rules, sym, ◌∙◌}
use Rattle.reading.proofs.Starts.{moves_within}
use Rattle.printed_examples.proofs.SegmentsIterator.next.Goals as goal

pub returns-clause-goes : goal.returns-clause-goes
returns-clause-goes c =
    let moved = moves_within _ _ _ _ _ (sym c.in_ok-span.was ∙ c.next_segment.ensures) in search rules
