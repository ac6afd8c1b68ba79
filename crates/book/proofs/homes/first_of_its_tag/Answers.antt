-- `homes::first_of_its_tag` meets its contract: a line of another tag is passed over, since nothing is asked of the pair.
use Prim.Native.Nat.{ℕ}
use mathlib.Core.Path.{◌≡◌, sym, ◌∙◌}
use mathlib.Core.Bool.{true, false}
use borrow.Author.Tests.{tests}
use Rattle.std.proofs.Common.{rules}
use Rattle.guide.specs.meaning.Guide.{guide_of}
use Rattle.std.proofs.lemmas.Iterator.{first_from_Range}
use Rattle.book.specs.method.Run.{run}
use Rattle.book.specs.meaning.GoodBook.{same_tag_rule}
use Rattle.book.proofs.Passing.{passed_found, passed_group}
use Rattle.book.proofs.homes.first_of_its_tag.Goals as goal

pub returns-then-not-is_segment : goal.returns-then-not-is_segment
returns-then-not-is_segment c = passed_group (guide_of c.args.book.now) c.args.line c.requires (sym c.is_segment.ensures ∙ c.if-not-is_segment.true)

pub returns : goal.returns
unfolding same_tag_rule
returns c =
    let g = guide_of c.args.book.now in
    passed_found g c.args.line c.find.result c.requires
    (first_from_Range (record { start = 1; end = c.args.line }) _ _ c.find.result (λ (l : ℕ). run (same_tag_rule g l c.args.line) ≡ true) (λ (l : ℕ). run (same_tag_rule g l c.args.line) ≡ false) c.find.ensures.ran
    (λ x q k. search (rules, tests)) (λ x q k. search (rules, tests)))
