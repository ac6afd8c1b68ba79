use Rattle.std.proofs.Common.{rules}
use Prim.Native.Nat.{ℕ}
use native.Mathlib.Omega.{arith}
use lib.ListN.{get_or}
use borrow.Author.Count.{below_none, below_more}
use Rattle.book.proofs.Tables.{not_there}
use Rattle.book.proofs.numbering.first_of_value.Goals as goal

pub loop-first-init : goal.loop-first-init
loop-first-init c = (search rules, below_none _)

pub overflow_add-first : goal.overflow_add-first
overflow_add-first c = let h = not_there (λ (i : ℕ). get_or c.args.values.now i 0) _ _ c.loop-first.invariant.0 c.loop-first-test.true in omega arith

pub loop-first-smaller : goal.loop-first-smaller
loop-first-smaller c = let h = not_there (λ (i : ℕ). get_or c.args.values.now i 0) _ _ c.loop-first.invariant.0 c.loop-first-test.true in omega arith

pub loop-first-preserved : goal.loop-first-preserved
loop-first-preserved c =
    let loop = c.loop-first in
    let args = c.args in
    let h = not_there (λ (i : ℕ). get_or args.values.now i 0) _ _ loop.invariant.0 c.loop-first-test.true in
    (omega arith, below_more _ _ loop.invariant.1 c.loop-first-test.true)

pub returns : goal.returns
returns c = record { at_most = c.loop-first.invariant.0; same = c.loop-first-test.false; none_before = c.loop-first.invariant.1 }
