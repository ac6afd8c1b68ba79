use Prim.Native.Nat.{ℕ}
use native.Mathlib.Omega.{arith}
use mathlib.Core.Path.{◌≡◌, refl}
use lib.ListN.{length-set}
use borrow.Author.Count.{below_none}
use Rattle.std.proofs.Common.{rules}
use Rattle.guide.specs.meaning.Guide.{guide_of}
use Rattle.guide.proofs.WideNumbers.{code_low_small}
use Rattle.book.specs.method.Tables.{whole_code, FirstOf}
use Rattle.book.proofs.Tables.{stored, first_agrees, numbered}
use Rattle.book.proofs.numbering.numbers_of.Goals as goal

pub loop-code-init : goal.loop-code-init
loop-code-init c = (refl, refl, below_none _, below_none _)

pub loop-code-preserved : goal.loop-code-preserved
loop-code-preserved c =
    let g = guide_of c.args.book.now in
    let inv = c.loop-code.invariant in
    let read = stored (λ (i x : ℕ). x ≡ whole_code g i) c.loop-code.values c.loop-code.code c.whole_code.result (search rules) inv.2 c.whole_code.ensures in (
      simp length-set inv.0,
      simp length-set inv.1,
      read,
      stored (FirstOf (whole_code g)) c.loop-code.numbers c.loop-code.code c.first_of_value.result (search rules) inv.3 (first_agrees _ (whole_code g) c.loop-code.code _ read c.first_of_value.ensures),
    )

pub returns : goal.returns
returns c = numbered _ _ (code_low_small _ (λ k. omega (arith, c.type_inv.book k))) (λ d h. c.loop-code.invariant.3 d (omega (arith, c.codes-code-end.ensures.0, c.loop-code-test.false))) c.requires
