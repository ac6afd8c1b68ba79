-- `code::is_any_code` meets its contract: it asks of each code of the range.
use Prim.Native.Nat.{◌+◌}
use mathlib.Core.Path.{◌∙◌}
use native.Mathlib.Omega.{arith}
use borrow.Author.Tests.{tests}
use Rattle.std.proofs.Common.{rules}
use Rattle.std.proofs.lemmas.Iterator.{YieldsList-from_range}
use Rattle.std.proofs.lemmas.Iterator.Search.{any_from_yields_List}
use Rattle.guide.specs.meaning.Guide.{guide_of}
use Rattle.guide.proofs.Codes.{spells_code, any_code}
use Rattle.guide.proofs.code.is_any_code.Goals as goal

pub returns : goal.returns
returns c =
    any_from_yields_List (spells_code (guide_of c.args.book.now) c.args.part.now) _ _ _ c.any.ensures.ran
    (YieldsList-from_range c.args.first (c.args.first + c.args.count) c.args.count (search rules) (omega arith))
    (λ x b q k. search (rules, tests))
    ∙ any_code (guide_of c.args.book.now) c.args.part.now c.args.count c.args.first
