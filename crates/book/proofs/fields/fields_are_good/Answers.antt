-- `fields::fields_are_good` meets its contract: it asks of each.
use native.Mathlib.Omega.{arith}
use borrow.Author.Tests.{tests}
use Rattle.std.proofs.Common.{rules}
use Rattle.guide.specs.meaning.Guide.{guide_of}
use Rattle.book.specs.meaning.GoodBook.{field_rule}
use Rattle.book.proofs.Asked.{every_asked}
use Rattle.book.proofs.fields.fields_are_good.Goals as goal

pub returns : goal.returns
returns c = every_asked (field_rule (guide_of c.args.book.now)) 0 c.fields.result (guide_of c.args.book.now).fields _ _ c.all.result c.all.ensures.ran (omega (arith, c.fields.ensures.0)) (λ x b q k. search (rules, tests))
