-- `rows::rows_are_good` meets its contract: it asks of each.
use Prim.Native.Nat.{◌*◌}
use native.Mathlib.Omega.{arith}
use mathlib.Core.Path.{◌≡◌, ap₂}
use borrow.Author.Tests.{tests}
use Rattle.std.proofs.Common.{rules}
use Rattle.guide.specs.meaning.Guide.{guide_of}
use Rattle.book.specs.method.Each.{row_rule}
use Rattle.book.proofs.Asked.{every_asked}
use Rattle.book.proofs.rows.rows_are_good.Goals as goal

pub returns : goal.returns
returns c =
    let g = guide_of c.args.book.now in
    let rows : c.identifiers.result * c.lines.result ≡ g.identifiers * g.lines = ap₂ ◌*◌ c.identifiers.ensures.0 c.lines.ensures.0 in
    every_asked (row_rule g) 0 _ _ _ _ c.all.result c.all.ensures.ran (omega arith) (λ x b q k. search (rules, tests))
