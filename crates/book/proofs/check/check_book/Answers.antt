-- `check::check_book` meets its contract: what the three tests found decides whether the book is good.
use mathlib.Core.Path.{sym, ◌∙◌}
use Rattle.book.proofs.Checking.{header_small, records_within, header_bad, records_bad, frame_bad, all_good}
use Rattle.book.proofs.check.check_book.Goals as goal
use Rattle.book.proofs.check.check_book.Goals.{else-header_is_good-via-then-header_is_good+then-records_are_good+else-frame_is_good, else-header_is_good-via-then-header_is_good+else-records_are_good, else-header_is_good-via-else-header_is_good}

pub records_are_good-requires : goal.records_are_good-requires
records_are_good-requires c = header_small _ (sym c.header_is_good.ensures ∙ c.if-header_is_good.true)

pub frame_is_good-requires : goal.frame_is_good-requires
frame_is_good-requires c =
    records_within _
    (header_small _ (sym c.header_is_good.ensures ∙ c.if-header_is_good.true))
    (sym c.records_are_good.ensures ∙ c.if-records_are_good.true)

pub returns-then-frame_is_good : goal.returns-then-frame_is_good
returns-then-frame_is_good c =
    all_good _ (sym c.header_is_good.ensures ∙ c.if-header_is_good.true) (sym c.records_are_good.ensures ∙ c.if-records_are_good.true)
    (sym c.frame_is_good.ensures ∙ c.if-frame_is_good.true)

pub returns : goal.returns
returns c =
    elim c.else-header_is_good.branch [
      | else-header_is_good-via-then-header_is_good+then-records_are_good+else-frame_is_good w ↦ frame_bad _ (sym w.frame_is_good.ensures ∙ w.if-frame_is_good.false)
      | else-header_is_good-via-then-header_is_good+else-records_are_good w ↦ records_bad _ (sym w.records_are_good.ensures ∙ w.if-records_are_good.false)
      | else-header_is_good-via-else-header_is_good w ↦ header_bad _ (sym c.header_is_good.ensures ∙ w.if-header_is_good.false)
    ]
