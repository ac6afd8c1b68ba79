-- `check::is_around` meets its contract: it asks of each line between.
use Prim.Native.Nat.{◌+◌, ◌-◌}
use mathlib.Core.Path.{sym, ◌∙◌}
use Rattle.book.proofs.Rules.{goes_on}
use native.Mathlib.Omega.{arith}
use borrow.Author.Tests.{tests, le-leb}
use Rattle.std.proofs.Common.{rules}
use Rattle.guide.specs.meaning.Guide.{guide_of}
use Rattle.book.specs.meaning.GoodBook.{around_rule, deeper_rule}
use Rattle.book.proofs.Asked.{every_asked}
use Rattle.book.proofs.check.is_around.Goals as goal

pub returns-then-line-other : goal.returns-then-line-other
unfolding around_rule
returns-then-line-other c =
    goes_on _ _ _ (sym c.is_group.ensures ∙ c.if-line-other.true.0)
    (goes_on _ _ _ (le-leb (c.args.line + 1) c.args.other (omega (arith, c.if-line-other.true.1)))
    (every_asked (deeper_rule (guide_of c.args.book.now) c.args.line) (c.args.line + 1) (c.args.other + 1) (c.args.other - c.args.line) _ _ c.all.result c.all.ensures.ran (omega arith)
    (λ x b q k. search (rules, tests))))
