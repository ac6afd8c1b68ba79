-- `message::message_stage` meets its contract.
use mathlib.Core.Path.{sym, ap, ◌∙◌}
use mathlib.Core.Bool.{true, false}
use Rattle.std.proofs.lemmas.Result.{err_from_is_err_and}
use Rattle.framing.specs.method.Stages.{frame_stage}
use Rattle.framing.proofs.Messages.{message_unsized, message_bad, message_counted, count_high, count_low}
use Rattle.framing.proofs.message.message_stage.Goals as goal

pub returns-then-not-is_sized : goal.returns-then-not-is_sized
returns-then-not-is_sized c = message_unsized _ _ _ _ c.if-not-is_sized.true c.is_sized.ensures

pub returns-in_err-survey : goal.returns-in_err-survey
returns-in_err-survey c =
    let p = err_from_is_err_and c.from_residual.result c.from_residual.ensures.1 in
    rw (p.1, p.2) (message_bad _ _ _ _ c.if-not-is_sized.false c.is_sized.ensures _ c.in_err-survey.ensures)

pub returns-then-segments-gt-LIMIT_SEGMENTS : goal.returns-then-segments-gt-LIMIT_SEGMENTS
returns-then-segments-gt-LIMIT_SEGMENTS c =
    count_high _ _ _ _ c.if-segments-gt-LIMIT_SEGMENTS.true
    ∙ (message_counted _ _ _ _ c.if-not-is_sized.false c.is_sized.ensures _ c.in_ok-survey.ensures).0

pub returns-then-not-holds : goal.returns-then-not-holds
returns-then-not-holds c =
    count_low _ _ _ _ _ false c.if-segments-gt-LIMIT_SEGMENTS.false c.holds.ensures c.if-not-holds.true
    ∙ (message_counted _ _ _ _ c.if-not-is_sized.false c.is_sized.ensures _ c.in_ok-survey.ensures).0

pub returns-in_err-last : goal.returns-in_err-last
returns-in_err-last c =
    let p = err_from_is_err_and c.from_residual-in_err-last.result c.from_residual-in_err-last.ensures.1 in
    let counted = message_counted _ _ _ _ c.if-not-is_sized.false c.is_sized.ensures _ c.in_ok-survey.ensures in
    rw (p.1, p.2)
    (ap (frame_stage c.args.service c.args.message.now c.in_ok-survey.survey.segments) (sym c.in_err-last.was ∙ counted.1)
    ∙ count_low _ _ _ _ _ true c.if-segments-gt-LIMIT_SEGMENTS.false c.holds.ensures c.if-not-holds.false ∙ counted.0)

pub returns : goal.returns
returns c =
    let counted = message_counted _ _ _ _ c.if-not-is_sized.false c.is_sized.ensures _ c.in_ok-survey.ensures in
    c.closing_stage.ensures ∙ ap (frame_stage c.args.service c.args.message.now c.in_ok-survey.survey.segments) (sym c.in_ok-last.was ∙ counted.1)
    ∙ count_low _ _ _ _ _ true c.if-segments-gt-LIMIT_SEGMENTS.false c.holds.ensures c.if-not-holds.false ∙ counted.0
