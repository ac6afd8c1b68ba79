-- `identifiers::form_is_good` meets its contract: it asks of each of the five digits, and of the three zeros.
use Prim.Native.Nat.{ℕ}
use mathlib.Core.Path.{sym, ◌∙◌}
use native.Mathlib.Omega.{arith}
use borrow.Author.Tests.{tests}
use Rattle.std.proofs.Common.{rules}
use Rattle.guide.specs.meaning.Guide.{guide_of}
use Rattle.book.specs.meaning.Rule.{◌≐◌}
use Rattle.book.specs.method.Run.{run}
use Rattle.book.specs.meaning.GoodBook.{digit, identifier_form_rule}
use Rattle.book.proofs.Rules.{goes_on, stops}
use Rattle.book.proofs.Asked.{every_asked, three, five}
use Rattle.book.proofs.identifiers.form_is_good.Goals as goal

pub returns-then-all : goal.returns-then-all
unfolding identifier_form_rule
returns-then-all c =
    let byte = (guide_of c.args.book.now).identifier_byte c.args.identifier in
    goes_on _ _ _
    (sym (every_asked (λ (place : ℕ). digit (byte place)) 0 5 5 _ _ c.all.result c.all.ensures.ran (omega arith) (λ x b q k. search (rules, tests)) ∙ five (λ (place : ℕ). run (digit (byte place)))) ∙ c.if-all.true)
    (every_asked (λ (place : ℕ). byte place ≐ 0) 5 8 3 _ _ c.all-then-all.result c.all-then-all.ensures.ran (omega arith) (λ x b q k. search (rules, tests)) ∙ three (λ (place : ℕ). run (byte place ≐ 0)) 5)

pub returns-else-all : goal.returns-else-all
unfolding identifier_form_rule
returns-else-all c =
    let byte = (guide_of c.args.book.now).identifier_byte c.args.identifier in
    stops _ _ _
    (every_asked (λ (place : ℕ). digit (byte place)) 0 5 5 _ _ c.all.result c.all.ensures.ran (omega arith) (λ x b q k. search (rules, tests)) ∙ five (λ (place : ℕ). run (digit (byte place))))
    c.if-all.false
