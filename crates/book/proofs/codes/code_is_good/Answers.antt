-- `codes::code_is_good` meets its contract: it asks of each of the six bytes.
use Prim.Native.Nat.{ℕ}
use mathlib.Core.Path.{◌≡◌, ◌∙◌}
use mathlib.Core.Bool.{true}
use native.Mathlib.Omega.{arith}
use borrow.Author.Tests.{tests}
use Rattle.std.proofs.Common.{rules}
use Rattle.guide.specs.meaning.Guide.{guide_of}
use Rattle.book.specs.method.Run.{run}
use Rattle.book.specs.meaning.GoodBook.{code_byte_rule, code_ends_rule, code_rule}
use Rattle.book.proofs.Rules.{goes_on}
use Rattle.book.proofs.Asked.{every_asked, six}
use Rattle.book.proofs.codes.code_is_good.Goals as goal

pub returns-then-code_end-eq0 : goal.returns-then-code_end-eq0
unfolding code_rule
returns-then-code_end-eq0 c =
    let byte = code_byte_rule (guide_of c.args.book.now) c.args.code in
    let ends : run (code_ends_rule (guide_of c.args.book.now) c.args.code) ≡ true = search (rules, tests) in
    goes_on _ _ _ ends (every_asked byte 0 6 6 _ _ c.all.result c.all.ensures.ran (omega arith) (λ x b q k. search (rules, tests)) ∙ six (λ (place : ℕ). run (byte place)))
