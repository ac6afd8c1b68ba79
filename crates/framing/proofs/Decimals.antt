-- The test of a decimal: the steps of its loop. What it says of a value is the law decimal of framing_laws.
use Prim.Native.Nat.{ℕ, ◌+◌, ◌*◌, ◌-◌, ◌≤◌, ◌<◌}
use native.Mathlib.Omega.{arith}
use native.Mathlib.Numerals.{add-one}
use mathlib.Core.Path.{◌≡◌, refl, sym, ◌∙◌}
use mathlib.Core.List.{List}
use mathlib.Core.Bool.{Bool, true, false, true≢false, ◌&&◌}
use lib.Dec.{eqb, leb}
use lib.ListN.{length, get_or, drop, drop_of_length-le}
use lib.Seq.{drop-cons}
use borrow.Author.Tests.{le-leb, lt-leb, leb-true}
use Rattle.reading.specs.meaning.Digit.{is_digit}
use Rattle.framing.specs.method.Decimal.{is_decimal_from}

-- what is left to be tested decides as the whole does
pub record Making (n : ℕ) (v : List ℕ) (made at : ℕ) : Type 0 where
  pub same : is_decimal_from n made (drop at v) ≡ is_decimal_from n 0 v
  pub low : made ≤ n
  pub within : at ≤ length v

pub digit_range : (b : ℕ) → true ≡ is_digit b → (0x30 ≤ b) × (b ≤ 0x39)
unfolding is_digit
digit_range b e = go (leb 0x30 b) (leb b 0x39) refl refl e
  where
    go : (x y : Bool) → leb 0x30 b ≡ x → leb b 0x39 ≡ y → true ≡ (x && y) → (0x30 ≤ b) × (b ≤ 0x39)
    go true true p q h = (leb-true 0x30 b p, leb-true b 0x39 q)
    go true false p q h = absurd (true≢false h)
    go false y p q h = absurd (true≢false h)

module _ (n : ℕ) (v : List ℕ) where
  pub making_begin : Making n v 0 0
  making_begin = record { same = refl; low = omega arith; within = omega arith }

  module _ (made at : ℕ) (m : Making n v made at) where
    abbrev next : ℕ
    next = 10 * made + (get_or v at 0 - 0x30)

    turn : at < length v → is_decimal_from n 0 v ≡ is_digit (get_or v at 0) && (leb next n && is_decimal_from n next (drop (at + 1) v))
    unfolding is_decimal_from
    turn h = sym m.same ∙ rw (drop-cons v at 0 h, add-one)

    pub making_no_digit : at < length v → false ≡ is_digit (get_or v at 0) → false ≡ is_decimal_from n 0 v
    making_no_digit h e = sym (turn h ∙ rw (sym e))

    pub making_high : at < length v → true ≡ is_digit (get_or v at 0) → n < next → false ≡ is_decimal_from n 0 v
    making_high h e i = sym (turn h ∙ rw (sym e, lt-leb next n i))

    pub making_on : at < length v → true ≡ is_digit (get_or v at 0) → next ≤ n → Making n v next (at + 1)
    making_on h e i = record { same = sym (turn h ∙ rw (sym e, le-leb next n i)); low = i; within = omega arith }

    pub making_done : length v ≤ at → eqb made n ≡ is_decimal_from n 0 v
    unfolding is_decimal_from
    making_done h = rw (drop_of_length-le v h) at m.same
