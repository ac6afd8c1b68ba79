-- The conditions of a row, one after the other: what is left to read comes to what all of them come to. One law for where the loop
-- ends, one for each early answer, one for going on.
use Rattle.std.proofs.Common.{ℕ, zero, suc, ◌+◌, ◌-◌, ◌≤◌, ◌<◌, List, [], ◌∷◌, map, Bool, true, false, not, cond, eqb, ◌≡◌, refl, sym, ap, ◌∙◌, add-one, arith, Some, None, is_some}
use borrow.Author.Tests.{eq-eqb, ne_eqb}
use Rattle.guide.specs.meaning.Guide.{Guide}
use Rattle.guide.specs.meaning.View.{in_use, row_numbered}
use Rattle.rules.specs.meaning.Conditions.{told, is_unknown}
use Rattle.rules.specs.meaning.Rows.{condition_number, conditions_of}
use Rattle.rules.specs.method.Conditions.{known}
use Rattle.rules.specs.method.Scanning.{guessed, joined, reading, read_row, first_unknown}

-- so many values of a function, from k on
unfoldable pub values_from : (ℕ → ℕ) → ℕ → ℕ → List ℕ
values_from f k zero = []
values_from f k (suc n) = f k ∷ values_from f (suc k) n

values_next : (f : ℕ → ℕ) (k end : ℕ) → k < end → values_from f k (end - k) ≡ f k ∷ values_from f (k + 1) (end - (k + 1))
unfolding values_from
values_next f k end h =
    let e : end - k ≡ suc (end - (k + 1)) = omega arith in
    ap (values_from f k) e ∙ ap (λ (j : ℕ). f k ∷ values_from f j (end - (k + 1))) (sym (add-one k))

values_end : (f : ℕ → ℕ) (k end : ℕ) → end ≤ k → values_from f k (end - k) ≡ []
unfolding values_from
values_end f k end h = let e : end - k ≡ 0 = omega arith in ap (values_from f k) e

in_use_none : (x : ℕ) (xs : List ℕ) → x ≡ 0 → in_use (x ∷ xs) ≡ []
in_use_none x xs e = simp (eq-eqb x 0 e)

in_use_next : (x : ℕ) (xs : List ℕ) → (x ≡ 0 → ⊥) → in_use (x ∷ xs) ≡ x ∷ in_use xs
in_use_next x xs n = simp (ne_eqb x 0 n)

joined_decided : (any v w : Bool) → v ≡ any → joined any v w ≡ any
joined_decided true true w e = refl
joined_decided true false w e = absurd (cc)
joined_decided false true w e = absurd (cc)
joined_decided false false w e = refl

joined_on : (any v w : Bool) → (v ≡ any → ⊥) → joined any v w ≡ w
joined_on true true w n = absurd (n refl)
joined_on true false w n = refl
joined_on false true w n = refl
joined_on false false w n = absurd (n refl)

module _ (any : Bool) (cs : List ℕ) (guess : Bool) (f : ℕ → ℕ) where
  abbrev pub reading_from : ℕ → ℕ → Bool
  reading_from k end = reading any cs guess (in_use (values_from f k (end - k)))

  pub reading_end : (k end : ℕ) → end ≤ k → not any ≡ reading_from k end
  unfolding reading
  reading_end k end h = rw (values_end f k end h)

  pub reading_unused : (k end : ℕ) → k < end → f k ≡ 0 → not any ≡ reading_from k end
  unfolding reading
  reading_unused k end h e = rw (values_next f k end h, in_use_none (f k) (values_from f (k + 1) (end - (k + 1))) e)

  reading_next : (k end : ℕ) → k < end → (f k ≡ 0 → ⊥) → reading_from k end ≡ joined any (guessed cs guess (f k)) (reading_from (k + 1) end)
  unfolding reading
  reading_next k end h n =
      ap (λ (xs : List ℕ). reading any cs guess (in_use xs)) (values_next f k end h)
      ∙ ap (reading any cs guess) (in_use_next (f k) (values_from f (k + 1) (end - (k + 1))) n)

  pub reading_decided : (k end : ℕ) → k < end → (f k ≡ 0 → ⊥) → guessed cs guess (f k) ≡ any → any ≡ reading_from k end
  reading_decided k end h n e =
      sym (reading_next k end h n ∙ joined_decided any (guessed cs guess (f k)) (reading_from (k + 1) end) e)

  pub reading_on : (k end : ℕ) → k < end → (f k ≡ 0 → ⊥) → (guessed cs guess (f k) ≡ any → ⊥) → reading_from (k + 1) end ≡ reading_from k end
  reading_on k end h n e = sym (reading_next k end h n ∙ joined_on any (guessed cs guess (f k)) (reading_from (k + 1) end) e)

pub reading_all : (cs : List ℕ) (guess : Bool) (g : Guide) (r : ℕ) → reading_from (eqb (g.joint r) 2) cs guess (g.condition r) 0 3 ≡ read_row cs guess (row_numbered g r)
unfolding values_from
reading_all cs guess g r = refl

module _ (cs : List ℕ) (f : ℕ → ℕ) where
  abbrev pub lowest_from : ℕ → ℕ → ℕ
  lowest_from k end = first_unknown cs (map condition_number (in_use (values_from f k (end - k))))

  pub lowest_end : (k end : ℕ) → end ≤ k → 0 ≡ lowest_from k end
  unfolding first_unknown
  lowest_end k end h = rw (values_end f k end h)

  pub lowest_unused : (k end : ℕ) → k < end → f k ≡ 0 → 0 ≡ lowest_from k end
  unfolding first_unknown
  lowest_unused k end h e = rw (values_next f k end h, in_use_none (f k) (values_from f (k + 1) (end - (k + 1))) e)

  lowest_next : (k end : ℕ) → k < end → (f k ≡ 0 → ⊥)
      → lowest_from k end ≡ cond (is_unknown cs (condition_number (f k))) (condition_number (f k)) (lowest_from (k + 1) end)
  unfolding first_unknown
  lowest_next k end h n =
      ap (λ (xs : List ℕ). first_unknown cs (map condition_number (in_use xs))) (values_next f k end h)
      ∙ ap (λ (xs : List ℕ). first_unknown cs (map condition_number xs)) (in_use_next (f k) (values_from f (k + 1) (end - (k + 1))) n)

  pub lowest_here : (k end : ℕ) → k < end → (f k ≡ 0 → ⊥) → is_unknown cs (condition_number (f k)) ≡ true → condition_number (f k) ≡ lowest_from k end
  lowest_here k end h n e = sym (lowest_next k end h n ∙ ap (λ (t : Bool). cond t (condition_number (f k)) (lowest_from (k + 1) end)) e)

  pub lowest_on : (k end : ℕ) → k < end → (f k ≡ 0 → ⊥) → is_unknown cs (condition_number (f k)) ≡ false → lowest_from (k + 1) end ≡ lowest_from k end
  lowest_on k end h n e = sym (lowest_next k end h n ∙ ap (λ (t : Bool). cond t (condition_number (f k)) (lowest_from (k + 1) end)) e)

pub lowest_all : (cs : List ℕ) (g : Guide) (r : ℕ) → lowest_from cs (g.condition r) 0 3 ≡ first_unknown cs (conditions_of (row_numbered g r))
unfolding values_from
lowest_all cs g r = refl

-- what is said of an unknown condition is none, and of no other
pub unknown_said : (cs : List ℕ) (k : ℕ) → is_some (known cs k) ≡ false → is_unknown cs k ≡ true
unknown_said cs k = go (is_unknown cs k)
  where
    go : (b : Bool) → is_some (cond b None (Some (told cs k))) ≡ false → b ≡ true
    go true e = refl
    go false e = absurd (cc)

pub known_said : (cs : List ℕ) (k : ℕ) → is_some (known cs k) ≡ true → is_unknown cs k ≡ false
known_said cs k = go (is_unknown cs k)
  where
    go : (b : Bool) → is_some (cond b None (Some (told cs k))) ≡ true → b ≡ false
    go true e = absurd (cc)
    go false e = refl

pub ruleset reads = (reading_all, reading_end, reading_unused, reading_decided, reading_on)

pub ruleset lowest = (lowest_all, lowest_end, lowest_unused, lowest_here, lowest_on, unknown_said, known_said)
