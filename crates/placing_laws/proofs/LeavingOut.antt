-- What the scans over lines find.
use Prim.Native.Nat.{ℕ, zero, suc, ◌+◌, ◌≤◌, ◌<◌}
use native.Mathlib.Omega.{arith}
use mathlib.Core.Path.{◌≡◌, refl, sym, ap, subst}
use mathlib.Core.Bool.{Bool, true, false, cond, not, ◌&&◌}
use lib.Dec.{eqb, ltb}
use borrow.Author.Tests.{eq-eqb, eqb-true, eqb-false, ltb-true, ltb-false, le-ltb}
use Rattle.guide.specs.meaning.Plan.{Plan}
use Rattle.placing.specs.method.Walking.{is_wanted, is_clear, is_passed}
use Rattle.reading.proofs.Booleans.{both, left, right, denied}

-- nothing is wanted at line x, where it is of depth d
unwanted : (b : Plan) (d x : ℕ) → is_wanted b d x ≡ false → b.depth x ≡ d → b.required x ≡ false
unwanted b d x h e = simp (eq-eqb (b.depth x) d e) at h

not_wanted : (b : Plan) (d x : ℕ) → (b.depth x ≡ d → b.required x ≡ false) → is_wanted b d x ≡ false
not_wanted b d x h = go (eqb (b.depth x) d) refl
  where
    go : (t : Bool) → eqb (b.depth x) d ≡ t → (t && b.required x) ≡ false
    go true e = h (eqb-true (b.depth x) d e)
    go false e = refl

module _ (b : Plan) (d : ℕ) where
  -- line l stands among those that `is_clear` looks at
  pub record Met (x l : ℕ) : Type 0 where
    pub after : x ≤ l
    pub level : b.depth l ≡ d
    pub between : (y : ℕ) → x ≤ y → y ≤ l → d ≤ b.depth y

  abbrev ClearNone : ℕ → ℕ → Type 0
  ClearNone x n = (l : ℕ) → Met x l → l < x + n → b.required l ≡ false

  clear_none_on : (x n : ℕ) → (is_clear b d (suc x) n ≡ true → ClearNone (suc x) n) → (t : Bool) → ltb (b.depth x) d ≡ t
      → cond t true (not (is_wanted b d x) && is_clear b d (suc x) n) ≡ true → ClearNone x (suc n)
  clear_none_on x n ih true e f l m k = absurd (let u = ltb-true (b.depth x) d e in let v = m.between x (omega arith) m.after in omega arith)
  clear_none_on x n ih false e f l m k = on (eqb l x) refl
    where
      on : (e : Bool) → eqb l x ≡ e → b.required l ≡ false
      on true e = subst (λ (y : ℕ). b.required y ≡ false) (sym (eqb-true l x e))
          (unwanted b d x (denied (is_wanted b d x) (left (not (is_wanted b d x)) (is_clear b d (suc x) n) f)) (subst (λ (y : ℕ). b.depth y ≡ d) (eqb-true l x e) m.level))
      on false e =
          let ne = eqb-false l x e in
          let a = m.after in
          ih (right (not (is_wanted b d x)) (is_clear b d (suc x) n) f) l (record { after = omega arith; level = m.level; between = λ y p q. m.between y (omega arith) q }) (omega arith)

  pub clear_none : (x n : ℕ) → is_clear b d x n ≡ true → ClearNone x n
  unfolding is_clear
  clear_none x zero h l m k = absurd (let a = m.after in omega arith)
  clear_none x (suc n) h l m k = clear_none_on x n (λ q. clear_none (suc x) n q) (ltb (b.depth x) d) refl h l m k

  clear_yes_on : (x n : ℕ) → (ClearNone (suc x) n → is_clear b d (suc x) n ≡ true) → ClearNone x (suc n) → (t : Bool) → ltb (b.depth x) d ≡ t
      → cond t true (not (is_wanted b d x) && is_clear b d (suc x) n) ≡ true
  clear_yes_on x n ih h true e = refl
  clear_yes_on x n ih h false e =
      both
      (ap not (not_wanted b d x (λ q. h x (record { after = omega arith; level = q; between = λ y i j. here y (omega arith) }) (omega arith))))
      (ih (λ l m k. h l (record { after = let a = m.after in omega arith; level = m.level; between = λ y i j. near l m y i j (eqb y x) refl }) (omega arith)))
    where
      here : (y : ℕ) → x ≡ y → d ≤ b.depth y
      here y q = subst (λ (z : ℕ). d ≤ b.depth z) q (ltb-false (b.depth x) d e)

      near : (l : ℕ) → Met (suc x) l → (y : ℕ) → x ≤ y → y ≤ l → (t : Bool) → eqb y x ≡ t → d ≤ b.depth y
      near l m y i j true q = here y (sym (eqb-true y x q))
      near l m y i j false q = let ne = eqb-false y x q in m.between y (omega arith) j

  pub clear_yes : (x n : ℕ) → ClearNone x n → is_clear b d x n ≡ true
  unfolding is_clear
  clear_yes x zero h = refl
  clear_yes x (suc n) h = clear_yes_on x n (clear_yes (suc x) n) h (ltb (b.depth x) d) refl

  -- line y may be left out
  pub record Skipped (y : ℕ) : Type 0 where
    pub inside : d ≤ b.depth y
    pub free : b.depth y ≡ d → b.required y ≡ false

  pub passes_all : (x n : ℕ) → is_passed b d x n ≡ true → (y : ℕ) → x ≤ y → y < x + n → Skipped y
  unfolding is_passed
  passes_all x zero h y i j = absurd (omega arith)
  passes_all x (suc n) h y i j = go (passes_all (suc x) n (right (not (is_wanted b d x)) (is_passed b d (suc x) n) (right (not (ltb (b.depth x) d)) (not (is_wanted b d x) && is_passed b d (suc x) n) h)) y) (eqb y x) refl
    where
      go : (suc x ≤ y → y < suc x + n → Skipped y) → (t : Bool) → eqb y x ≡ t → Skipped y
      go ih true e = subst (λ (z : ℕ). Skipped z) (sym (eqb-true y x e))
          (record {
            inside = ltb-false (b.depth x) d (denied (ltb (b.depth x) d) (left (not (ltb (b.depth x) d)) (not (is_wanted b d x) && is_passed b d (suc x) n) h));
            free =
                unwanted b d x
                (denied (is_wanted b d x) (left (not (is_wanted b d x)) (is_passed b d (suc x) n) (right (not (ltb (b.depth x) d)) (not (is_wanted b d x) && is_passed b d (suc x) n) h)));
          })
      go ih false e = let ne = eqb-false y x e in ih (omega arith) (omega arith)

  pub passes_yes : (x n : ℕ) → ((y : ℕ) → x ≤ y → y < x + n → Skipped y) → is_passed b d x n ≡ true
  unfolding is_passed
  passes_yes x zero h = refl
  passes_yes x (suc n) h =
      let here = h x (omega arith) (omega arith) in
      both (ap not (le-ltb (b.depth x) d here.inside))
      (both (ap not (not_wanted b d x here.free)) (passes_yes (suc x) n (λ y i j. h y (omega arith) (omega arith))))
