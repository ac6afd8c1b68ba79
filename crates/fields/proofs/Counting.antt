-- The steps of the functions that test a number: each says what the first byte makes of the test, or a whole pass over the bytes.
use Prim.Native.Nat.{ℕ, suc, ◌+◌, ◌-◌, ◌≤◌, ◌<◌}
use native.Mathlib.Omega.{arith}
use mathlib.Core.Path.{◌≡◌, refl, sym, ap, ◌∙◌}
use mathlib.Core.List.{List, [], ◌∷◌}
use mathlib.Core.Bool.{Bool, true, false, cond, not, ◌&&◌, ◌||◌}
use lib.Dec.{eqb}
use lib.ListN.{length, get_or, take, drop}
use borrow.Author.Tests.{eq-eqb, ne_eqb}
use Rattle.std.specs.Prelude.{count_by, nat_eq}
use Rattle.std.proofs.lemmas.List.Sums.{sum_by-cons}
use Rattle.std.proofs.lemmas.List.{take_rest}
use Rattle.std.specs.List.{prefix_len}
use Rattle.reading.specs.declared.service.Service.{Service}
use Rattle.reading.specs.meaning.Digit.{is_digit}
use Rattle.fields.specs.meaning.Number.{minus, figures}
use Rattle.fields.specs.method.Number.{starts_digit, after_digits, is_none, are_digits, ends_number, without_sign}

-- ---- digits

pub starts_none : (bs : List ℕ) → length bs < 1 → false ≡ starts_digit bs
unfolding starts_digit
starts_none [] h = refl
starts_none (b ∷ bs) h = absurd (omega arith)

pub starts_first : (bs : List ℕ) (r : Bool) → 1 ≤ length bs → r ≡ is_digit (get_or bs 0 0) → r ≡ starts_digit bs
unfolding starts_digit
starts_first [] r h e = absurd (omega arith)
starts_first (b ∷ bs) r h e = e

drop_digits : (bs : List ℕ) → drop (prefix_len is_digit bs) bs ≡ after_digits bs
unfolding after_digits
drop_digits [] = refl
drop_digits (b ∷ bs) = go (is_digit b) (drop_digits bs)
  where
    n : ℕ
    n = prefix_len is_digit bs

    go : (t : Bool) → drop n bs ≡ after_digits bs → drop (cond t (1 + n) 0) (b ∷ bs) ≡ cond t (after_digits bs) (b ∷ bs)
    go true h = let m : 1 + n ≡ suc n = omega arith in ap (λ (k : ℕ). drop k (b ∷ bs)) m ∙ h
    go false h = refl

pub digits_passed : (bs : List ℕ) (n : ℕ) → n ≡ prefix_len is_digit bs → take (length bs - n) (drop n bs) ≡ after_digits bs
digits_passed bs n e = take_rest bs n ∙ ap (λ (k : ℕ). drop k bs) e ∙ drop_digits bs

pub none_left : (bs : List ℕ) → nat_eq (length bs) 0 ≡ is_none bs
unfolding is_none
none_left [] = refl
none_left (b ∷ bs) = ne_eqb (suc (length bs)) 0 (λ h. absurd (omega arith))

-- ---- behind the first digits

module _ (s : Service) where
  pub ends_none : (bs : List ℕ) → length bs < 1 → true ≡ ends_number s bs
  unfolding ends_number
  ends_none [] h = refl
  ends_none (b ∷ bs) h = absurd (omega arith)

  pub ends_mark : (bs : List ℕ) (r : Bool) → 1 ≤ length bs → get_or bs 0 0 ≡ s.decimal → r ≡ are_digits (take (length bs - 1) (drop 1 bs)) → r ≡ ends_number s bs
  unfolding ends_number
  ends_mark [] r h e k = absurd (omega arith)
  ends_mark (b ∷ bs) r h e k = k ∙ ap are_digits (take_rest (b ∷ bs) 1) ∙ sym (ap (λ (t : Bool). t && are_digits bs) (eq-eqb b s.decimal e))

  pub ends_other : (bs : List ℕ) → 1 ≤ length bs → (get_or bs 0 0 ≡ s.decimal → ⊥) → eqb (get_or bs 0 0) s.decimal ≡ ends_number s bs
  unfolding ends_number
  ends_other [] h n = absurd (omega arith)
  ends_other (b ∷ bs) h n = ne_eqb b s.decimal n ∙ sym (ap (λ (t : Bool). t && are_digits bs) (ne_eqb b s.decimal n))

-- ---- the sign

pub sign_none : (bs : List ℕ) → length bs < 1 → bs ≡ without_sign bs
unfolding without_sign
sign_none [] h = refl
sign_none (b ∷ bs) h = absurd (omega arith)

pub sign_minus : (bs : List ℕ) → 1 ≤ length bs → get_or bs 0 0 ≡ minus → take (length bs - 1) (drop 1 bs) ≡ without_sign bs
unfolding without_sign
sign_minus [] h e = absurd (omega arith)
sign_minus (b ∷ bs) h e = take_rest (b ∷ bs) 1 ∙ sym (ap (λ (t : Bool). cond t bs (b ∷ bs)) (eq-eqb b minus e))

pub sign_other : (bs : List ℕ) → 1 ≤ length bs → (get_or bs 0 0 ≡ minus → ⊥) → bs ≡ without_sign bs
unfolding without_sign
sign_other [] h n = absurd (omega arith)
sign_other (b ∷ bs) h n = sym (ap (λ (t : Bool). cond t bs (b ∷ bs)) (ne_eqb b minus n))

-- ---- figures

pub figures_counted : (s : Service) (bs : List ℕ) → count_by (λ b. not (eqb b minus || eqb b s.decimal)) bs ≡ figures s bs
unfolding figures
figures_counted s [] = refl
figures_counted s (b ∷ bs) = sum_by-cons (λ x. cond (not (eqb x minus || eqb x s.decimal)) 1 0) b bs ∙ go (eqb b minus || eqb b s.decimal) (figures_counted s bs)
  where
    go : (t : Bool) → count_by (λ x. not (eqb x minus || eqb x s.decimal)) bs ≡ figures s bs
        → cond (not t) 1 0 + count_by (λ x. not (eqb x minus || eqb x s.decimal)) bs ≡ cond t (figures s bs) (suc (figures s bs))
    go true h = omega arith
    go false h = omega arith

-- ---- the steps of each function

pub ruleset starting = (starts_none, starts_first)

pub ruleset ending = (ends_none, ends_mark, ends_other)

pub ruleset sign = (sign_none, sign_minus, sign_other)
