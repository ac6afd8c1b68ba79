use native.Mathlib.Omega.{arith}
use mathlib.Core.Path.{sym, ap, ◌∙◌}
use Prim.Native.Nat.{◌+◌}
use lib.Dec.{eqb}
use lib.ListN.{length}
use Rattle.reading.proofs.Scanning.{scanning_bad}
use Rattle.framing.specs.method.Stages.{is_misplaced_at}
use Rattle.reading.proofs.Ending.{end_within}
use Rattle.framing.proofs.Frames.{bad_within, surveying_begin, surveying_on, surveying_bad, surveying_empty, surveying_end}
use Rattle.framing.proofs.survey.make_survey.Goals as goal

pub loop-at-init : goal.loop-at-init
loop-at-init c = surveying_begin c.args.service c.args.message.now

pub overflow_add-at : goal.overflow_add-at
overflow_add-at c = omega (arith, (end_within _ _ _ _ (sym c.find_end.ensures ∙ c.in-Some.is)).inside, c.well_formed.1.0.1)

pub loop-at-smaller : goal.loop-at-smaller
loop-at-smaller c = omega (arith, (end_within _ _ _ _ (sym c.find_end.ensures ∙ c.in-Some.is)).behind, c.loop-at-test.true)

pub loop-at-preserved : goal.loop-at-preserved
loop-at-preserved c =
    rw (c.or-misplaced.ensures, c.then_some.ensures)
    (surveying_on _ _ _ _ _ _ c.loop-at.invariant _ _ c.loop-at-test.true (sym c.find_end.ensures ∙ c.in-Some.is)
    (c.is_misplaced-is_here.ensures ∙ ap (is_misplaced_at (eqb (c.loop-at.segments + 1) 1) (eqb (c.in-Some.end + 1) (length c.args.message.now))) c.tag_at-tag.ensures.0))

pub overflow_cast-result : goal.overflow_cast-result
overflow_cast-result c =
    let bad = scanning_bad _ _ _ _ c.loop-at-test.true c.loop-at.invariant.scanning (sym c.find_end.ensures ∙ c.in_default.is) in
    omega (arith, bad_within _ _ _ (sym bad), c.find_bad.ensures, c.requires)

pub returns-in_default : goal.returns-in_default
returns-in_default c = surveying_bad _ _ _ _ _ _ c.loop-at.invariant _ c.loop-at-test.true (sym c.find_end.ensures ∙ c.in_default.is) c.find_bad.ensures

pub returns-then-segments-eq0 : goal.returns-then-segments-eq0
returns-then-segments-eq0 c = surveying_empty _ _ _ _ _ _ c.loop-at.invariant c.loop-at-test.false c.if-segments-eq0.true

pub returns : goal.returns
returns c = surveying_end _ _ _ _ _ _ c.loop-at.invariant c.loop-at-test.false c.if-segments-eq0.false _ c.frame.ensures
