use mathlib.Core.Path.{sym, ap, ◌∙◌}
use lib.Dec.{eqb}
use native.Mathlib.Omega.{arith}
use Rattle.framing.proofs.Decimals.{digit_range, making_no_digit, making_high, making_on, making_done}
use Rattle.framing.proofs.message.makes.Goals as goal

pub returns-then-not-is_digit : goal.returns-then-not-is_digit
returns-then-not-is_digit c = making_no_digit _ _ _ _ c.loop-byte.invariant c.loop-byte-test.true (sym c.if-not-is_digit.true ∙ c.is_digit.ensures)

pub overflow_sub-byte : goal.overflow_sub-byte
overflow_sub-byte c = (digit_range _ (sym c.if-not-is_digit.false ∙ c.is_digit.ensures)).0

pub returns-then-wanted-made : goal.returns-then-wanted-made
returns-then-wanted-made c =
    making_high _ _ _ _ c.loop-byte.invariant c.loop-byte-test.true (sym c.if-not-is_digit.false ∙ c.is_digit.ensures)
    (omega (arith, c.if-wanted-made.true, c.from.ensures, c.from-wanted.ensures))

pub loop-byte-preserved : goal.loop-byte-preserved
loop-byte-preserved c =
    rw c.from.ensures
    (making_on _ _ _ _ c.loop-byte.invariant c.loop-byte-test.true (sym c.if-not-is_digit.false ∙ c.is_digit.ensures)
    (omega (arith, c.if-wanted-made.false, c.from.ensures, c.from-wanted.ensures)))

pub returns : goal.returns
returns c = ap (eqb c.loop-byte.made) c.from-wanted.ensures ∙ making_done _ _ _ _ c.loop-byte.invariant c.loop-byte-test.false
