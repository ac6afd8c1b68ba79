use mathlib.Core.Path.{refl, sym, ◌∙◌}
use mathlib.Core.Logic.{⊎_elim}
use Rattle.reading.specs.declared.bytes.Kind.TheVariants.{Element, Terminator, Release, Plain, Other}
use Rattle.fields.proofs.Cutting.{some_here}
use Rattle.fields.proofs.parts.has_bytes.Goals as goal

pub returns-in-Element : goal.returns-in-Element
returns-in-Element c =
    let here = some_here c.args.service c.args.rest.now c.loop-byte.byte-index in
    ⊎_elim (λ e. here Element c.loop-byte-test.true (sym e ∙ c.kind_of.ensures) refl ∙ c.loop-byte.invariant)
    (λ e. here Terminator c.loop-byte-test.true (sym e ∙ c.kind_of.ensures) refl ∙ c.loop-byte.invariant) c.in-Element.is

pub returns-in-Release : goal.returns-in-Release
returns-in-Release c =
    let here = some_here c.args.service c.args.rest.now c.loop-byte.byte-index in
    ⊎_elim (λ e. here Release c.loop-byte-test.true (sym e ∙ c.kind_of.ensures) refl ∙ c.loop-byte.invariant)
    (⊎_elim (λ e. here Plain c.loop-byte-test.true (sym e ∙ c.kind_of.ensures) refl ∙ c.loop-byte.invariant)
    (λ e. here Other c.loop-byte-test.true (sym e ∙ c.kind_of.ensures) refl ∙ c.loop-byte.invariant)) c.in-Release.is
