-- Law decimal: the test says yes exactly to digits, the first not 0, that make the number.
use Prim.Native.Nat.{ℕ, ◌+◌, ◌*◌, ◌-◌, ◌≤◌}
use native.Mathlib.Omega.{arith}
use mathlib.Core.Path.{◌≡◌, refl, ap, ◌∙◌}
use mathlib.Core.List.{List, [], ◌∷◌}
use mathlib.Core.Bool.{Bool, true, false, false≢true, not, ◌&&◌}
use mathlib.Core.Logic.{◌↔◌}
use lib.Dec.{eqb, leb}
use borrow.Author.Tests.{eq-eqb, ne_eqb, eqb-true, eqb-false, le-leb}
use Rattle.reading.specs.meaning.Service.{All}
use Rattle.reading.specs.meaning.Digit.{is_digit}
use Rattle.framing.specs.meaning.Decimal.{made_from, InDecimal}
use Rattle.framing.specs.method.Decimal.{is_decimal_from, leads, is_decimal}

made_rises : (made : ℕ) (bs : List ℕ) → made ≤ made_from made bs
unfolding made_from
made_rises made [] = omega arith
made_rises made (b ∷ bs) = let h = made_rises (10 * made + (b - 0x30)) bs in omega arith

digits_of : (n made : ℕ) (bs : List ℕ) → is_decimal_from n made bs ≡ true → All (λ b. is_digit b ≡ true) bs × (made_from made bs ≡ n)
unfolding is_decimal_from made_from
digits_of n made [] e = (tt, eqb-true made n e)
digits_of n made (b ∷ bs) e = go (is_digit b) (leb (10 * made + (b - 0x30)) n) refl (digits_of n (10 * made + (b - 0x30)) bs) e
  where
    go : (x y : Bool) → is_digit b ≡ x
        → (is_decimal_from n (10 * made + (b - 0x30)) bs ≡ true → All (λ c. is_digit c ≡ true) bs × (made_from (10 * made + (b - 0x30)) bs ≡ n))
        → (x && (y && is_decimal_from n (10 * made + (b - 0x30)) bs)) ≡ true
        → All (λ c. is_digit c ≡ true) (b ∷ bs) × (made_from (10 * made + (b - 0x30)) bs ≡ n)
    go true true p ih h = let k = ih h in ((p, k.0), k.1)
    go true false p ih h = absurd (false≢true h)
    go false y p ih h = absurd (false≢true h)

tests_of : (n made : ℕ) (bs : List ℕ) → All (λ b. is_digit b ≡ true) bs → made_from made bs ≡ n → is_decimal_from n made bs ≡ true
unfolding is_decimal_from made_from
tests_of n made [] a e = eq-eqb made n e
tests_of n made (b ∷ bs) a e =
    let h = made_rises (10 * made + (b - 0x30)) bs in
    rw (a.0, le-leb (10 * made + (b - 0x30)) n (omega arith), tests_of n (10 * made + (b - 0x30)) bs a.1 e)

pub decimal : (n : ℕ) (v : List ℕ) → (is_decimal n v ≡ true) ↔ InDecimal n v
decimal n v = (to v, from v)
  where
    to : (w : List ℕ) → is_decimal n w ≡ true → InDecimal n w
    to [] e = absurd (false≢true e)
    to (b ∷ bs) e = go (eqb b 0x30) refl e
      where
        go : (x : Bool) → eqb b 0x30 ≡ x → (not x && is_decimal_from n 0 (b ∷ bs)) ≡ true → InDecimal n (b ∷ bs)
        go true p h = absurd (false≢true h)
        go false p h =
            let k = digits_of n 0 (b ∷ bs) h in
            record { first = b; others = bs; same = refl; digits = k.0; no_zero = eqb-false b 0x30 p; value = k.1 }

    from : (w : List ℕ) → InDecimal n w → is_decimal n w ≡ true
    from w d =
        let lead : leads w ≡ true = ap leads d.same ∙ rw (ne_eqb d.first 0x30 d.no_zero) in
        rw (lead, tests_of n 0 w d.digits d.value)
