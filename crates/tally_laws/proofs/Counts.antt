-- Four bytes hold any count below 2 ^ 32, and a store of one count moves no other.
use Prim.Native.Nat.{ℕ, zero, suc, ◌+◌, ◌*◌, ◌/◌, ◌%◌, ◌≤◌, ◌<◌}
use native.Mathlib.Nat.{div-div-eq-div-mul, mod-add-div, mod-eq_of_lt}
use native.Mathlib.Omega.{arith}
use mathlib.Core.Path.{◌≡◌, refl, sym, ◌∙◌}
use mathlib.Core.Logic.{◌⊎◌, inl, inr}
use mathlib.Core.Bool.{Bool, true, false}
use mathlib.Core.List.{List, [], ◌∷◌, ◌++◌}
use lib.ListN.{length, get_or, set, length-set, get_or-append}
use lib.Seq.{get_or-set_same, get_or-set_other}
use lib.Dec.{ltb}
use borrow.Author.Tests.{ltb-true, ltb-false}
use Rattle.tally.specs.meaning.Tally.{count_place, count_of, with_count, full}

-- no byte is above 255
abbrev pub Bytes : List ℕ → Type 0
Bytes bytes = (at : ℕ) → get_or bytes at 0 < 256

-- ---- four bytes in a row

set_bytes : (bytes : List ℕ) (i byte : ℕ) → byte < 256 → Bytes bytes → Bytes (set bytes i byte)
set_bytes [] i byte h b at = b at
set_bytes (x ∷ xs) zero byte h b zero = h
set_bytes (x ∷ xs) zero byte h b (suc at) = b (suc at)
set_bytes (x ∷ xs) (suc i) byte h b zero = b zero
set_bytes (x ∷ xs) (suc i) byte h b (suc at) = set_bytes xs i byte h (λ k. b (suc k)) at

module _ (bytes : List ℕ) (place w x y z : ℕ) where
  abbrev one : List ℕ
  one = set bytes place w

  abbrev two : List ℕ
  two = set one (place + 1) x

  abbrev three : List ℕ
  three = set two (place + 2) y

  abbrev four : List ℕ
  four = set three (place + 3) z

  length_four : length four ≡ length bytes
  length_four = simp length-set

  bytes_four : w < 256 → x < 256 → y < 256 → z < 256 → Bytes bytes → Bytes four
  bytes_four h i j k b = set_bytes three (place + 3) z k (set_bytes two (place + 2) y j (set_bytes one (place + 1) x i (set_bytes bytes place w h b)))

  -- a byte before them or behind them
  apart : (at : ℕ) → (at < place) ⊎ (place + 4 ≤ at) → get_or four at 0 ≡ get_or bytes at 0
  apart at outside =
      get_or-set_other three (place + 3) at z 0 (elsewhere outside 3 (omega arith))
      ∙ get_or-set_other two (place + 2) at y 0 (elsewhere outside 2 (omega arith))
      ∙ get_or-set_other one (place + 1) at x 0 (elsewhere outside 1 (omega arith))
      ∙ get_or-set_other bytes place at w 0 (λ e. elsewhere outside 0 (omega arith) (omega (arith, e)))
    where
      elsewhere : (at < place) ⊎ (place + 4 ≤ at) → (k : ℕ) → k < 4 → at ≡ place + k → ⊥
      elsewhere (inl h) k b e = omega (arith, e)
      elsewhere (inr h) k b e = omega (arith, e)

  weighed_four : place + 4 ≤ length bytes
      → get_or four place 0 + 256 * get_or four (place + 1) 0 + 65536 * get_or four (place + 2) 0 + 16777216 * get_or four (place + 3) 0 ≡ w + 256 * x + 65536 * y + 16777216 * z
  weighed_four inside =
      let long-one : length one ≡ length bytes = simp length-set in
      let long-two : length two ≡ length bytes = simp length-set in
      let long-three : length three ≡ length bytes = simp length-set in
      let fourth : get_or four (place + 3) 0 ≡ z = get_or-set_same three (place + 3) z 0 (omega arith) in
      let third : get_or four (place + 2) 0 ≡ y =
      get_or-set_other three (place + 3) (place + 2) z 0 (λ e. omega (arith, e)) ∙ get_or-set_same two (place + 2) y 0 (omega arith) in
      let second : get_or four (place + 1) 0 ≡ x =
      get_or-set_other three (place + 3) (place + 1) z 0 (λ e. omega (arith, e))
      ∙ get_or-set_other two (place + 2) (place + 1) y 0 (λ e. omega (arith, e))
      ∙ get_or-set_same one (place + 1) x 0 (omega arith) in
      let first : get_or four place 0 ≡ w =
      get_or-set_other three (place + 3) place z 0 (λ e. omega (arith, e))
      ∙ get_or-set_other two (place + 2) place y 0 (λ e. omega (arith, e))
      ∙ get_or-set_other one (place + 1) place x 0 (λ e. omega (arith, e))
      ∙ get_or-set_same bytes place w 0 (omega arith) in
      rw (first, second, third, fourth)

-- ---- a count in four bytes

four_digits : (count : ℕ) → count ≤ full → count % 256 + 256 * (count / 256 % 256) + 65536 * (count / 65536 % 256) + 16777216 * (count / 16777216 % 256) ≡ count
four_digits count small =
    let third : count / 65536 ≡ count / 256 / 256 = sym (div-div-eq-div-mul count 256 256) in
    let fourth : count / 16777216 ≡ count / 65536 / 256 = sym (div-div-eq-div-mul count 65536 256) in
    let highest : count / 16777216 % 256 ≡ count / 16777216 = mod-eq_of_lt (omega (arith, small)) in
    omega (arith, mod-add-div count 256, mod-add-div (count / 256) 256, mod-add-div (count / 65536) 256, third, fourth, highest)

pub count_small : (bytes : List ℕ) → Bytes bytes → (number : ℕ) → count_of bytes number ≤ full
count_small bytes b number = omega (arith, b (count_place number), b (count_place number + 1), b (count_place number + 2), b (count_place number + 3))

module _ (bytes : List ℕ) (number count : ℕ) where
  pub length_with_count : length (with_count bytes number count) ≡ length bytes
  length_with_count = length_four bytes (count_place number) _ _ _ _

  pub bytes_with_count : Bytes bytes → Bytes (with_count bytes number count)
  bytes_with_count = bytes_four bytes (count_place number) _ _ _ _ (omega arith) (omega arith) (omega arith) (omega arith)

  pub own_count : count_place number + 4 ≤ length bytes → count ≤ full → count_of (with_count bytes number count) number ≡ count
  own_count inside small = weighed_four bytes (count_place number) _ _ _ _ inside ∙ four_digits count small

  -- two numbers have no byte in common
  other_byte : (other at : ℕ) → (other ≡ number → ⊥) → count_place other ≤ at → at < count_place other + 4 → get_or (with_count bytes number count) at 0 ≡ get_or bytes at 0
  other_byte other at differs from before = apart bytes (count_place number) _ _ _ _ at (outside (ltb at (count_place number)) refl)
    where
      outside : (t : Bool) → ltb at (count_place number) ≡ t → (at < count_place number) ⊎ (count_place number + 4 ≤ at)
      outside true e = inl (ltb-true at (count_place number) e)
      outside false e = inr (omega (arith, ltb-false at (count_place number) e, differs))

  pub other_count : (other : ℕ) → (other ≡ number → ⊥) → count_of (with_count bytes number count) other ≡ count_of bytes other
  other_count other differs =
      rw (other_byte other (count_place other) differs (omega arith) (omega arith), other_byte other (count_place other + 1) differs (omega arith) (omega arith), other_byte other (count_place other + 2) differs (omega arith) (omega arith), other_byte other (count_place other + 3) differs (omega arith) (omega arith))

-- ---- counts of a tally that stands before other bytes

pub count_before : (bytes rest : List ℕ) (number : ℕ) → count_place number + 4 ≤ length bytes → count_of (bytes ++ rest) number ≡ count_of bytes number
count_before bytes rest number inside =
    rw (get_or-append bytes rest 0 (count_place number) (omega arith), get_or-append bytes rest 0 (count_place number + 1) (omega arith), get_or-append bytes rest 0 (count_place number + 2) (omega arith), get_or-append bytes rest 0 (count_place number + 3) (omega arith))
