-- `identifiers::identifiers_are_good` meets its contract: it asks of each.
use native.Mathlib.Omega.{arith}
use borrow.Author.Tests.{tests}
use Rattle.std.proofs.Common.{rules}
use Rattle.guide.specs.meaning.Guide.{guide_of}
use Rattle.book.specs.method.Each.{identifier_rule}
use Rattle.book.proofs.Asked.{every_asked}
use Rattle.book.proofs.identifiers.identifiers_are_good.Goals as goal

pub returns : goal.returns
returns c = every_asked (identifier_rule (guide_of c.args.book.now)) 0 c.identifiers.result (guide_of c.args.book.now).identifiers _ _ c.all.result c.all.ensures.ran (omega (arith, c.identifiers.ensures.0)) (λ x b q k. search (rules, tests))
