-- `Cursor::next_segment` meets its contract: an end lies within the message, so the place behind it fits.
use native.Mathlib.Omega.{arith}
use mathlib.Core.Path.{◌∙◌, sym}
use Rattle.reading.proofs.Ending.{end_within}
use Rattle.reading.proofs.cursor.Cursor.next_segment.Goals as goal

pub overflow_add-result : goal.overflow_add-result
overflow_add-result c = omega (arith, (end_within _ _ _ _ (sym c.find_end.ensures ∙ c.in_ok-end.was)).inside)
