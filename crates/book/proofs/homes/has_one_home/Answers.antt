-- `homes::has_one_home` meets its contract: it asks of each line from the first of the tag on.
use Prim.Native.Nat.{ℕ, ◌-◌}
use mathlib.Core.Path.{refl, ◌∙◌}
use borrow.Author.Tests.{tests}
use Rattle.std.proofs.Common.{rules}
use Rattle.guide.specs.meaning.Guide.{guide_of}
use Rattle.book.specs.meaning.GoodBook.{pair_rule}
use Rattle.book.specs.method.Each.{home_rule}
use Rattle.book.proofs.Asked.{every_asked}
use Rattle.book.proofs.homes.has_one_home.Goals as goal

pub returns : goal.returns
unfolding home_rule
returns c =
    every_asked (λ (earlier : ℕ). pair_rule (guide_of c.args.codes.now.book.now) earlier c.args.line) c.in-Some.first c.args.line (c.args.line - c.in-Some.first) _ _ c.all.result c.all.ensures.ran refl (λ x b q k. search (rules, tests))
    ∙ c.in-Some.ensures.same
