-- `codes::codes_are_good` meets its contract: it asks of each.
use native.Mathlib.Omega.{arith}
use borrow.Author.Tests.{tests}
use Rattle.std.proofs.Common.{rules}
use Rattle.guide.specs.meaning.Guide.{guide_of}
use Rattle.book.specs.meaning.GoodBook.{code_rule}
use Rattle.book.proofs.Asked.{every_asked}
use Rattle.book.proofs.codes.codes_are_good.Goals as goal

pub returns : goal.returns
returns c = every_asked (code_rule (guide_of c.args.book.now)) 0 c.codes.result (guide_of c.args.book.now).codes _ _ c.all.result c.all.ensures.ran (omega (arith, c.codes.ensures.0)) (λ x b q k. search (rules, tests))
