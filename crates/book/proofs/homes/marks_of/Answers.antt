use native.Mathlib.Omega.{arith}
use mathlib.Core.Path.{refl}
use mathlib.Core.Bool.{false}
use lib.ListN.{length-set, replicate, get_or-replicate}
use Rattle.book.proofs.Tables.{mark_start, mark_next, mark_all}
use Rattle.book.proofs.homes.marks_of.Goals as goal

pub loop-code-init : goal.loop-code-init
loop-code-init c =
    (omega (arith, c.first_code-first.ensures.0, c.code_count-count.ensures.0, c.requires), refl, mark_start _ _ c.args.codes.now.numbered (replicate 8192 false) _ (λ i h. get_or-replicate 8192 i false false h))

pub loop-code-preserved : goal.loop-code-preserved
loop-code-preserved c =
    let inv = c.loop-code.invariant in
    (inv.0, simp length-set inv.1, rw c.number_of.ensures.value (mark_next _ _ c.args.codes.now.numbered c.loop-code.marks _ _ (omega arith) (omega arith) inv.1 inv.2))

pub returns : goal.returns
returns c =
    mark_all _ _ c.args.codes.now.numbered c.loop-code.marks _ c.first_code-first.result _ c.first_code-first.ensures.0
    (omega (arith, c.code_count-count.ensures.0, c.loop-code-test.false, c.loop-code.auto.code-end))
    c.loop-code.invariant.2
