-- `check::fields_rise` meets its contract: it asks of each field of the line but the last.
use Prim.Native.Nat.{ℕ, ◌+◌, ◌-◌}
use mathlib.Core.Path.{ap, ap₂, ◌∙◌}
use Rattle.book.specs.meaning.Rule.{every}
use Rattle.book.specs.method.Run.{run}
use native.Mathlib.Omega.{arith}
use borrow.Author.Tests.{tests}
use Rattle.std.proofs.Common.{rules}
use Rattle.guide.specs.meaning.Guide.{guide_of}
use Rattle.book.specs.meaning.GoodBook.{rising_fields_rule, field_rises}
use Rattle.book.proofs.Asked.{every_asked}
use Rattle.book.proofs.check.fields_rise.Goals as goal

pub returns : goal.returns
unfolding rising_fields_rule
returns c =
    let g = guide_of c.args.book.now in
    every_asked (field_rises g) c.first_field-first.result (c.first_field-first.result + c.saturating_sub-steps.result) c.saturating_sub-steps.result _ _ c.all.result c.all.ensures.ran (omega arith)
    (λ x b q k. search (rules, tests))
    ∙ ap₂ (λ (first steps : ℕ). run (every first steps (field_rises g))) c.first_field-first.ensures.0 (c.saturating_sub-steps.ensures ∙ ap (λ (n : ℕ). n - 1) c.field_count.ensures.0)
