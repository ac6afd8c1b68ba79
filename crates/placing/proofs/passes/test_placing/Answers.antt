use mathlib.Core.Path.{refl, sym, ◌∙◌}
use Rattle.guide.specs.meaning.Guide.{guide_of}
use Rattle.reading.proofs.Starts.{found_within}
use Rattle.placing.proofs.OrNone.{some_number, no_number}
use Rattle.placing.proofs.Finding.{home_line}
use Rattle.placing.proofs.Passing.{found_home, test_begin, test_homeless, test_on, test_nothing, test_end}
use Rattle.placing.proofs.passes.test_placing.Goals as goal

pub loop-passed-init : goal.loop-passed-init
loop-passed-init c = test_begin c.args.service c.args.message.now c.args.book.now c.args.segments _ _ c.begin-walk.ensures c.first-cursor.ensures

pub at-segment-requires : goal.at-segment-requires
at-segment-requires c = found_within c.args.service c.args.message.now c.loop-passed.cursor.at _ _ (sym c.in-Some.is ∙ c.next_segment.ensures)

pub returns-in_default-find_home : goal.returns-in_default-find_home
returns-in_default-find_home c =
    let none = no_number _ (sym c.in_default-find_home.is ∙ found_home c.args.service c.args.message.now c.args.book.now _ _ _ _ c.loop-passed.cursor.at _ c.find_home.ensures c.at-segment.ensures.service c.at-segment.ensures.message c.at-segment.ensures.at c.of-lines.ensures) in
    test_homeless c.args.service c.args.message.now c.args.book.now c.args.segments _ c.loop-passed.stop c.loop-passed.passed _ c.loop-passed.invariant _ _ 0 c.loop-passed-test.true (sym c.in-Some.is ∙ c.next_segment.ensures) (sym none) refl

pub advance-requires : goal.advance-requires
advance-requires c =
    let home = some_number _ _ (sym c.in-Some-find_home.is ∙ found_home c.args.service c.args.message.now c.args.book.now _ _ _ _ c.loop-passed.cursor.at _ c.find_home.ensures c.at-segment.ensures.service c.at-segment.ensures.message c.at-segment.ensures.at c.of-lines.ensures) in
    home_line (guide_of c.args.book.now) c.args.service c.args.message.now _ _ home.0 home.1

pub loop-passed-preserved : goal.loop-passed-preserved
loop-passed-preserved c =
    let home = some_number _ _ (sym c.in-Some-find_home.is ∙ found_home c.args.service c.args.message.now c.args.book.now _ _ _ _ c.loop-passed.cursor.at _ c.find_home.ensures c.at-segment.ensures.service c.at-segment.ensures.message c.at-segment.ensures.at c.of-lines.ensures) in
    test_on c.args.service c.args.message.now c.args.book.now c.args.segments _ c.loop-passed.stop c.loop-passed.passed _ c.loop-passed.invariant _ _ _ c.loop-passed-test.true (sym c.in-Some.is ∙ c.next_segment.ensures) home.0
    _ _ _ home.1 c.advance.ensures c.is_alive.ensures c.first_stop-stop.ensures

pub returns-in_default : goal.returns-in_default
returns-in_default c =
    c.outcome_of.ensures
    ∙ test_nothing c.args.service c.args.message.now c.args.book.now c.args.segments _ c.loop-passed.stop c.loop-passed.passed _ c.loop-passed.invariant (sym c.in_default.is ∙ c.next_segment.ensures)

pub returns : goal.returns
returns c = c.outcome_of-2.ensures ∙ test_end c.args.service c.args.message.now c.args.book.now c.args.segments _ c.loop-passed.stop c.loop-passed.passed _ c.loop-passed.invariant c.loop-passed-test.false
