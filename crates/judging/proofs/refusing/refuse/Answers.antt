-- `refusing::refuse` meets its contract: the first stage that answers a fault is the answer.
use Rattle.std.proofs.lemmas.Result.{err_from_is_err_and}
use Rattle.judging.proofs.Refusals.{book_bad, book_good, refused_book, refused_conditions, refused_message, refused_placing, passed_all}
use Rattle.judging.proofs.refusing.refuse.Goals as goal

pub returns-in_err-check_book : goal.returns-in_err-check_book
returns-in_err-check_book c =
    let p = err_from_is_err_and c.from_residual.result c.from_residual.ensures.1 in
    rw (p.1, p.2) (refused_book _ _ _ _ _ (book_bad _ c.in_err-check_book.ensures))

pub returns-then-not-are_conditions : goal.returns-then-not-are_conditions
returns-then-not-are_conditions c = refused_conditions _ _ _ _ _ (book_good _ c.in_ok-check_book.ensures) _ c.are_conditions.ensures c.if-not-are_conditions.true

pub returns-in_err-segments : goal.returns-in_err-segments
returns-in_err-segments c =
    let p = err_from_is_err_and c.from_residual-in_err-segments.result c.from_residual-in_err-segments.ensures.1 in
    rw (p.1, p.2)
    (refused_message _ _ _ _ _ (book_good _ c.in_ok-check_book.ensures) _ c.are_conditions.ensures c.if-not-are_conditions.false _ c.in_err-segments.ensures)

pub returns-in_err-test_placing : goal.returns-in_err-test_placing
returns-in_err-test_placing c =
    let p = err_from_is_err_and c.from_residual-in_err-test_placing.result c.from_residual-in_err-test_placing.ensures.1 in
    rw (p.1, p.2)
    (refused_placing _ _ _ _ _ (book_good _ c.in_ok-check_book.ensures) _ c.are_conditions.ensures c.if-not-are_conditions.false _ c.in_ok-segments.ensures _ c.in_err-test_placing.ensures)

pub returns : goal.returns
returns c = passed_all _ _ _ _ _ (book_good _ c.in_ok-check_book.ensures) _ c.are_conditions.ensures c.if-not-are_conditions.false _ c.in_ok-segments.ensures c.in_ok-test_placing.ensures
