-- The first segment of a line, as it is looked for in a table.
use Prim.Native.Nat.{ℕ, suc, ◌+◌}
use native.Mathlib.Omega.{arith}
use native.Mathlib.Numerals.{add-one}
use mathlib.Core.Path.{◌≡◌, refl, sym, ap, ◌∙◌}
use mathlib.Core.List.{List, [], ◌∷◌}
use mathlib.Core.Bool.{Bool, true, false, cond}
use lib.Dec.{eqb}
use Rattle.std.specs.Prelude.{Some}
use Rattle.std.specs.Option.{option_map}
use Rattle.std.specs.List.{position, position_from}
use Rattle.std.proofs.lemmas.Iterator.Adapters.{position_from-zero}
use Rattle.placing.specs.method.Tables.{place_from, or_none}
use Rattle.placing.proofs.OrNone.{is_some_number}

place_is : (l k : ℕ) (hs : List ℕ) → or_none (place_from l k hs) ≡ option_map (λ i. i + 1) (position_from (λ h. eqb h l) k hs)
unfolding place_from
place_is l k [] = refl
place_is l k (h ∷ hs) = go (eqb h l) (place_is l (suc k) hs)
  where
    go : (v : Bool) → or_none (place_from l (suc k) hs) ≡ option_map (λ i. i + 1) (position_from (λ x. eqb x l) (suc k) hs)
        → or_none (cond v (suc k) (place_from l (suc k) hs)) ≡ option_map (λ i. i + 1) (cond v (Some k) (position_from (λ x. eqb x l) (k + 1) hs))
    go true e = sym (is_some_number (suc k) (suc k) (omega arith) refl) ∙ ap Some (sym (add-one k))
    go false e = e ∙ ap (λ (n : ℕ). option_map (λ i. i + 1) (position_from (λ x. eqb x l) n hs)) (sym (add-one k))

pub first_place : (l : ℕ) (hs : List ℕ) → or_none (place_from l 0 hs) ≡ option_map (λ i. i + 1) (position (λ h. eqb h l) hs)
first_place l hs = place_is l 0 hs ∙ ap (option_map (λ (i : ℕ). i + 1)) (sym (position_from-zero (λ h. eqb h l) hs))
