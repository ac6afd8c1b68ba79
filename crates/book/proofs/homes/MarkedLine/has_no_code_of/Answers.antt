-- `MarkedLine::has_no_code_of` meets its contract: the marks tell of each code whether it is among the other line's.
use Prim.Native.Nat.{ℕ, ◌+◌}
use native.Mathlib.Omega.{arith}
use mathlib.Core.Path.{ap₂, ◌∙◌}
use mathlib.Core.Bool.{Bool, false, not}
use lib.ListN.{get_or}
use borrow.Author.Tests.{tests}
use Rattle.std.proofs.Common.{rules}
use Rattle.guide.specs.meaning.Guide.{guide_of}
use Rattle.book.specs.meaning.Rule.{every}
use Rattle.book.specs.method.Run.{run}
use Rattle.book.specs.meaning.GoodBook.{not_among_rule}
use Rattle.book.proofs.Asked.{all_asked, all_alike}
use Rattle.book.proofs.homes.MarkedLine.has_no_code_of.Goals as goal

pub returns : goal.returns
returns c =
    let others = not_among_rule (guide_of c.args.self.now.codes.now.book.now) c.args.self.now.line in
    let first = c.first_code-first.result in
    let count = c.code_count-count.result in
    let unmarked : ℕ → Bool = λ (code : ℕ). not (get_or c.args.self.now.marks (get_or c.args.self.now.codes.now.numbers.now code 0) false) in
    all_asked unmarked first (first + count) count _ _ c.all.result c.all.ensures.ran (omega arith) (λ x b q k. search (rules, tests))
    ∙ all_alike unmarked (λ (code : ℕ). run (others code)) count first (λ code a b. c.args.self.now.marked.free code (omega (arith, c.requires, c.first_code-first.ensures.0, c.code_count-count.ensures.0)))
    ∙ ap₂ (λ (x n : ℕ). run (every x n others)) c.first_code-first.ensures.0 c.code_count-count.ensures.0
