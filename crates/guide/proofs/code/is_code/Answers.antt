-- `code::is_code` meets its contract: it compares each byte.
use mathlib.Core.Path.{◌∙◌, refl}
use native.Mathlib.Omega.{arith}
use borrow.Author.Tests.{tests, ne_eqb}
use Rattle.std.proofs.Common.{rules}
use Rattle.std.proofs.lemmas.Iterator.{YieldsList-from_range}
use Rattle.std.proofs.lemmas.Iterator.Search.{all_from_yields_List}
use Rattle.guide.specs.meaning.Guide.{guide_of}
use Rattle.guide.proofs.Codes.{same_byte, spelt, code_spelt, code_other_length}
use Rattle.guide.proofs.code.is_code.Goals as goal

pub returns-then-part-length : goal.returns-then-part-length
returns-then-part-length c =
    let byte = (guide_of c.args.book.now).code_byte c.args.code in
    code_spelt (guide_of c.args.book.now) c.args.code _ c.args.part.now c.all.result c.code_length-length.ensures.0 c.if-part-length.true
    (all_from_yields_List (same_byte byte c.args.part.now) _ _ c.all.result c.all.ensures.ran
    (YieldsList-from_range 0 c.code_length-length.result c.code_length-length.result refl (omega arith))
    (λ x b q k. search (rules, tests))
    ∙ spelt byte c.args.part.now c.code_length-length.result 0 (omega (arith, c.if-part-length.true)))

pub returns-else-part-length : goal.returns-else-part-length
returns-else-part-length c =
    ne_eqb _ _ c.if-part-length.false
    ∙ code_other_length (guide_of c.args.book.now) c.args.code _ c.args.part.now c.code_length-length.ensures.0 c.if-part-length.false
