-- Sums over numbers: how often each of them stands in a list sums to the list's length.
use Prim.Native.Nat.{ℕ, zero, suc, ◌+◌, ◌<◌}
use native.Mathlib.Omega.{arith}
use mathlib.Core.Path.{◌≡◌, refl, ◌∙◌}
use mathlib.Core.Bool.{Bool, true, false, cond}
use mathlib.Core.List.{List, [], ◌∷◌}
use lib.ListN.{length}
use lib.Dec.{eqb}
use borrow.Author.Tests.{ne_eqb, eqb-true, eqb-false}
use Rattle.tally.specs.statements.AddsUp.{how_often, sum_of}

-- the numbers are all of the first so many
abbrev pub Below : ℕ → List ℕ → Type 0
Below n [] = Unit {0}
Below n (x ∷ xs) = (x < n) × Below n xs

pub sum_alike : (n : ℕ) (f g : ℕ → ℕ) → ((k : ℕ) → k < n → f k ≡ g k) → sum_of n f ≡ sum_of n g
unfolding sum_of
sum_alike zero f g h = refl
sum_alike (suc n) f g h =
    let rest = sum_alike n f g (λ k b. h k (omega arith)) in
    let last = h n (omega arith) in
    omega arith

pub sum_both : (n : ℕ) (f g : ℕ → ℕ) → sum_of n (λ k. f k + g k) ≡ sum_of n f + sum_of n g
unfolding sum_of
sum_both zero f g = refl
sum_both (suc n) f g = let rest = sum_both n f g in omega arith

sum_nothing : (n : ℕ) (f : ℕ → ℕ) → ((k : ℕ) → k < n → f k ≡ 0) → sum_of n f ≡ 0
unfolding sum_of
sum_nothing n f h = sum_alike n f (λ k. 0) h ∙ none n
  where
    none : (n : ℕ) → sum_of n (λ k. 0) ≡ 0
    none zero = refl
    none (suc n) = let rest = none n in omega arith

-- a number stands once among those from 0 on
once : (n x : ℕ) → x < n → sum_of n (λ k. cond (eqb k x) 1 0) ≡ 1
unfolding sum_of
once zero x h = omega arith
once (suc n) x h = by (eqb n x) refl (once n x)
  where
    by : (t : Bool) → eqb n x ≡ t → (x < n → sum_of n (λ k. cond (eqb k x) 1 0) ≡ 1) → sum_of n (λ k. cond (eqb k x) 1 0) + cond (eqb n x) 1 0 ≡ 1
    by true e earlier =
        let before : sum_of n (λ k. cond (eqb k x) 1 0) ≡ 0 =
        sum_nothing n (λ k. cond (eqb k x) 1 0) (λ k b. rw (ne_eqb k x (λ q. omega (arith, q, eqb-true n x e)))) in
        rw (before, e)
    by false e earlier = rw (earlier (omega (arith, eqb-false n x e)), e)

pub sum_how_often : (n : ℕ) (xs : List ℕ) → Below n xs → sum_of n (λ k. how_often k xs) ≡ length xs
unfolding how_often
sum_how_often n [] h = sum_nothing n (λ k. 0) (λ k b. refl)
sum_how_often n (x ∷ xs) h =
    let first = once n x h.0 in
    let rest = sum_how_often n xs h.1 in
    let both = sum_both n (λ k. cond (eqb k x) 1 0) (λ k. how_often k xs) in
    omega arith
