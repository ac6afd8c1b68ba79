use mathlib.Core.Path.{refl, sym, ◌∙◌}
use mathlib.Core.Bool.{false}
use mathlib.Core.Logic.{⊎_elim}
use Rattle.reading.specs.declared.bytes.Kind.TheVariants.{Release, Plain, Other}
use Rattle.fields.proofs.Cutting.{reading_pair, reading_data, reading_text}
use Rattle.fields.proofs.parts.split_component.Goals as goal
use Rattle.fields.proofs.parts.split_component.Goals.{then-must_release+in-Release, then-must_release+in-Plain, else-must_release}

pub loop-at-preserved : goal.loop-at-preserved
loop-at-preserved c =
    let bs = c.args.rest.now in
    let step = reading_data c.args.service bs c.loop-at.at c.loop-at-test.true in
    elim c.if-must_release.branch [
      | then-must_release+in-Release w ↦
          rw w.at-is (reading_pair c.args.service bs c.loop-at.at c.loop-at-test.true Release (sym w.in-Release.is ∙ w.kind_of.ensures) refl refl c.loop-at.invariant)
      | then-must_release+in-Plain w ↦
          rw w.at-is
          (⊎_elim (λ e. step Plain (sym e ∙ w.kind_of.ensures) c.loop-at.invariant false refl refl)
          (λ e. step Other (sym e ∙ w.kind_of.ensures) c.loop-at.invariant false refl refl) w.in-Plain.is)
      | else-must_release w ↦
          rw w.at-is (reading_text c.args.service bs c.loop-at.at c.loop-at-test.true (sym c.must_release.ensures ∙ w.if-must_release.false) c.loop-at.invariant)
    ]
