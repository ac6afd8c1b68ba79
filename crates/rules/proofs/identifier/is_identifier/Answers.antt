-- `is_identifier` meets its contract: the chain tests each byte.
use Rattle.std.proofs.Common.{rules, tests, eqb, get_or, refl, ◌∙◌}
use Rattle.std.proofs.lemmas.Iterator.{YieldsList-from_range}
use Rattle.std.proofs.lemmas.Iterator.Search.{all_from_yields_List}
use Rattle.guide.specs.meaning.Guide.{guide_of}
use Rattle.rules.proofs.Identifiers.{same_bytes}
use Rattle.rules.proofs.identifier.is_identifier.Goals as goal

pub returns-then-value-eq-DIGITS : goal.returns-then-value-eq-DIGITS
returns-then-value-eq-DIGITS c =
    all_from_yields_List (λ k. eqb (get_or c.args.value.now k 0) ((guide_of c.args.book.now).identifier_byte c.args.identifier k)) _ _ _ c.all.ensures.ran
    (YieldsList-from_range 0 5 5 (cc) refl) (λ x b q k. search (rules, tests))
    ∙ same_bytes ((guide_of c.args.book.now).identifier_byte c.args.identifier) c.args.value.now c.if-value-eq-DIGITS.true
