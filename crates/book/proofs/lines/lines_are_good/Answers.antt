-- `lines::lines_are_good` meets its contract: it asks of each.
use Prim.Native.Nat.{◌+◌}
use native.Mathlib.Omega.{arith}
use borrow.Author.Tests.{tests}
use Rattle.std.proofs.Common.{rules}
use Rattle.guide.specs.meaning.Guide.{guide_of}
use Rattle.book.specs.method.Each.{line_rule}
use Rattle.book.proofs.Asked.{every_asked}
use Rattle.book.proofs.lines.lines_are_good.Goals as goal

pub returns : goal.returns
returns c = every_asked (line_rule (guide_of c.args.book.now)) 1 (c.lines.result + 1) (guide_of c.args.book.now).lines _ _ c.all.result c.all.ensures.ran (omega (arith, c.lines.ensures.0)) (λ x b q k. search (rules, tests))
