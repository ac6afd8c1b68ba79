-- The Prüfidentifikator that is found is the book's, and the only one with this value: in a good book they rise strictly.
use Prim.Native.Nat.{ℕ, zero, suc, ◌+◌, ◌*◌, ◌-◌, ◌≤◌, ◌<◌}
use native.Mathlib.Omega.{arith}
use native.Mathlib.Decide.{dec_lt}
use mathlib.Core.Path.{◌≡◌, refl, sym, ap, ◌∙◌, subst}
use mathlib.Core.Logic.{dite}
use mathlib.Core.List.{List}
use mathlib.Core.Bool.{Bool, true, false, cond, true≢false}
use lib.ListN.{get_or}
use Rattle.guide.specs.meaning.Guide.{Guide, guide_of}
use Rattle.book.specs.meaning.GoodBook.{GoodBook, identifier_number, identifier_rises}
use Rattle.book_laws.proofs.Clauses.{identifier_rule_lem}
use Rattle.reading.specs.meaning.Component.{same_component}
use Rattle.reading.proofs.Comparing.{same_bytes_true}
use Rattle.reading_laws.proofs.OneReading.{same_bytes_refl}
use Rattle.rules.specs.meaning.Identifiers.{identifier_value}
use Rattle.rules.specs.method.Identifiers.{identified_from, identified}
use Rattle.std.specs.Prelude.{Option, Some, None}

known_foreign : (p : ℕ) → Some p ≡ None → ⊥
known_foreign p e = let z : ◌≡◌ {A = ℕ} 0 1 = cc in omega arith

same_known : (p q : ℕ) → Some p ≡ Some q → p ≡ q
same_known p q e = cc

module _ (g : Guide) (value : List ℕ) where
  known_from : (p : ℕ) (from count : ℕ) → identified_from g value from count ≡ Some p → (p < from + count) × (value ≡ identifier_value g p)
  unfolding identified_from
  known_from p from zero e = absurd (known_foreign p (sym e))
  known_from p from (suc count) e = go (same_component value (identifier_value g from)) refl e (known_from p (suc from) count)
    where
      go : (t : Bool) → same_component value (identifier_value g from) ≡ t → cond t (Some from) (identified_from g value (suc from) count) ≡ Some p
          → (identified_from g value (suc from) count ≡ Some p → (p < suc from + count) × (value ≡ identifier_value g p))
          → (p < from + suc count) × (value ≡ identifier_value g p)
      go true s q r =
          let z : from ≡ p = same_known from p q in
          (omega arith, same_bytes_true value (identifier_value g from) s ∙ ap (identifier_value g) z)
      go false s q r = let h = r q in (omega arith, h.1)

  foreign_from : (from count : ℕ) → identified_from g value from count ≡ None → (p : ℕ) → from ≤ p → p < from + count → value ≡ identifier_value g p → ⊥
  unfolding identified_from
  foreign_from from zero e p i j v = omega arith
  foreign_from from (suc count) e p i j v = go (same_component value (identifier_value g from)) refl e (λ q k. foreign_from (suc from) count q p k (omega arith) v)
    where
      go : (t : Bool) → same_component value (identifier_value g from) ≡ t → cond t (Some from) (identified_from g value (suc from) count) ≡ None
          → (identified_from g value (suc from) count ≡ None → suc from ≤ p → ⊥) → ⊥
      go true s q r = known_foreign from q
      go false s q r =
          dite (dec_lt from p) (λ k. r q k)
          (λ k. let z : p ≡ from = omega arith in
          true≢false (sym (same_bytes_refl value) ∙ ap (same_component value) (v ∙ ap (identifier_value g) z) ∙ s))

  pub identified_known : (p : ℕ) → identified g value ≡ Some p → (p < g.identifiers) × (value ≡ identifier_value g p)
  identified_known p e = let h = known_from p 0 g.identifiers e in (omega arith, h.1)

  pub identified_foreign : identified g value ≡ None → (p : ℕ) → p < g.identifiers → value ≡ identifier_value g p → ⊥
  identified_foreign e p h v = foreign_from 0 g.identifiers e p (omega arith) (omega arith) v

-- ---- in a good book

-- the number that the five bytes of a value make
abbrev number_of : List ℕ → ℕ
number_of bs = (((get_or bs 0 0 * 256 + get_or bs 1 0) * 256 + get_or bs 2 0) * 256 + get_or bs 3 0) * 256 + get_or bs 4 0

module _ (book : List ℕ) (good : GoodBook book) where
  abbrev number : ℕ → ℕ
  number p = identifier_number (guide_of book) p

  rises_next : (p : ℕ) → suc p < (guide_of book).identifiers → number p < number (suc p)
  unfolding identifier_rises
  rises_next p h =
      let e : p + 1 ≡ suc p = omega arith in
      let r : number p + 1 ≤ number (p + 1) = (identifier_rule_lem book good p (omega arith)).1 (omega arith) in
      let q : number (p + 1) ≡ number (suc p) = ap number e in
      omega arith

  rises_by : (k p : ℕ) → p + suc k < (guide_of book).identifiers → number p < number (p + suc k)
  rises_by zero p h = let e : suc p ≡ p + 1 = omega arith in subst (λ (q : ℕ). number p < number q) e (rises_next p (omega arith))
  rises_by (suc k) p h =
      let i = rises_by k p (omega arith) in
      let j = rises_next (p + suc k) (omega arith) in
      let e : suc (p + suc k) ≡ p + suc (suc k) = omega arith in
      let q : number (suc (p + suc k)) ≡ number (p + suc (suc k)) = ap number e in
      omega arith

  rises : (p q : ℕ) → p < q → q < (guide_of book).identifiers → number p < number q
  rises p q h l =
      let e : p + suc (q - suc p) ≡ q = omega arith in
      subst (λ (r : ℕ). number p < number r) e (rises_by (q - suc p) p (omega arith))

  -- no two Prüfidentifikatoren have the same value
  pub one_value : (p q : ℕ) → p < (guide_of book).identifiers → q < (guide_of book).identifiers → identifier_value (guide_of book) p ≡ identifier_value (guide_of book) q → p ≡ q
  one_value p q h k e =
      let n : number p ≡ number q = ap number_of e in
      dite (dec_lt p q) (λ i. absurd (let r = rises p q i k in omega arith)) (λ i. dite (dec_lt q p) (λ j. absurd (let r = rises q p j h in omega arith)) (λ j. omega arith))

  pub known_identified : (p : ℕ) (value : List ℕ) → p < (guide_of book).identifiers → value ≡ identifier_value (guide_of book) p → identified (guide_of book) value ≡ Some p
  known_identified p value h v = go (identified (guide_of book) value) refl
    where
      go : (i : Option ℕ) → identified (guide_of book) value ≡ i → i ≡ Some p
      go (Some q) e =
          let k = identified_known (guide_of book) value q e in
          ap Some (one_value q p k.0 h (sym k.1 ∙ v))
      go None e = absurd (identified_foreign (guide_of book) value e p h v)
