-- Numbers put into a lent table one after the other are as many of them as fit.
use Prim.Native.Nat.{ℕ, zero, suc, ◌+◌}
use native.Mathlib.Omega.{arith}
use mathlib.Core.Path.{◌≡◌, refl, sym, ap, ◌∙◌, subst}
use mathlib.Core.List.{List, [], ◌∷◌, ◌++◌, append-nil, append_assoc}
use lib.ListN.{length, set, take, drop, length-append}
use Rattle.std.proofs.Common.{min}
use Rattle.slices.specs.meaning.Lent.{as_many_as_fit}

-- numbers put one after the other, the first at this place
abbrev pub Puts : ℕ → List ℕ → List ℕ → List ℕ → Type 0
Puts at [] before after = before ≡ after
Puts at (number ∷ numbers) before after = (next : List ℕ) × (next ≡ set before at number) × Puts (suc at) numbers next after

-- one number more, behind those that were put there
one_more_fits : (numbers table : List ℕ) (number : ℕ) → set (as_many_as_fit numbers table) (length numbers) number ≡ as_many_as_fit (numbers ++ (number ∷ [])) table
unfolding as_many_as_fit
one_more_fits [] [] number = refl
one_more_fits [] (entry ∷ table) number = refl
one_more_fits (x ∷ numbers) [] number = refl
one_more_fits (x ∷ numbers) (entry ∷ table) number = ap (◌∷◌ x) (one_more_fits numbers table number)

puts_behind : (front numbers table before after : List ℕ) → before ≡ as_many_as_fit front table → Puts (length front) numbers before after → after ≡ as_many_as_fit (front ++ numbers) table
puts_behind front [] table before after e p = sym p ∙ e ∙ ap (λ (l : List ℕ). as_many_as_fit l table) (sym (append-nil front))
puts_behind front (number ∷ numbers) table before after e (next, f, p) =
    let fits : next ≡ as_many_as_fit (front ++ (number ∷ [])) table =
    f ∙ ap (λ (t : List ℕ). set t (length front) number) e ∙ one_more_fits front table number in
    let long : length (front ++ (number ∷ [])) ≡ length front + 1 = length-append front (number ∷ []) in
    let one-longer : suc (length front) ≡ length (front ++ (number ∷ [])) = omega arith in
    let rest : Puts (length (front ++ (number ∷ []))) numbers next after = subst (λ (k : ℕ). Puts k numbers next after) one-longer p in
    puts_behind (front ++ (number ∷ [])) numbers table next after fits rest ∙ ap (λ (l : List ℕ). as_many_as_fit l table) (append_assoc front (number ∷ []) numbers)

-- as many puts as there are numbers
pub puts_fit : (numbers before after : List ℕ) → Puts 0 numbers before after → after ≡ as_many_as_fit numbers before
unfolding as_many_as_fit
puts_fit numbers before after p = puts_behind [] numbers before before after refl p

-- a copy into the front of a table, as long as both reach
pub front_fits : (numbers table : List ℕ) (k : ℕ) → k ≡ min (length numbers) (length table) → take k numbers ++ drop k table ≡ as_many_as_fit numbers table
unfolding as_many_as_fit
front_fits [] table zero e = refl
front_fits [] table (suc k) e = absurd (omega arith)
front_fits (x ∷ numbers) [] zero e = refl
front_fits (x ∷ numbers) [] (suc k) e = absurd (omega arith)
front_fits (x ∷ numbers) (y ∷ table) zero e = absurd (omega arith)
front_fits (x ∷ numbers) (y ∷ table) (suc k) e = ap (◌∷◌ x) (front_fits numbers table k (omega arith))
