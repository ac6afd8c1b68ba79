-- `number::count_figures` meets its contract: each figure counts one.
use Rattle.std.specs.Prelude.{◌≡◌, not, ◌||◌, eqb, count_by}
use borrow.Author.Rules.{rules}
use mathlib.Core.Path.{◌∙◌}
use Rattle.fields.specs.meaning.Number.{minus}
use Rattle.fields.proofs.Counting.{figures_counted}
use Rattle.fields.proofs.number.count_figures.Goals as goal

pub returns : goal.returns
returns c =
    let counted : c.count.result ≡ count_by (λ b. not (eqb b minus || eqb b c.args.service.decimal)) c.args.part.now = search rules in
    counted ∙ figures_counted c.args.service c.args.part.now
