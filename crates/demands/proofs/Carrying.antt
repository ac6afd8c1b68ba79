-- The Prüfidentifikator's segment: it is found, it is the only one, and its start is where its component is looked up.
use Prim.Native.Nat.{ℕ, suc, ◌+◌, ◌≤◌}
use native.Mathlib.Omega.{arith}
use mathlib.Core.Path.{◌≡◌, refl, sym, ap, ◌∙◌, subst}
use mathlib.Core.List.{List, [], ◌∷◌, ◌++◌, map, append_assoc}
use mathlib.Core.Bool.{Bool, true, false, cond}
use mathlib.Core.Logic.{inl, inr}
use lib.Dec.{eqb}
use lib.ListN.{length, get_or, length-append}
use borrow.Author.Tests.{eqb-true, eqb-false, eq-eqb, ne_eqb}
use Rattle.guide.specs.meaning.Guide.{Guide}
use Rattle.reading.specs.meaning.Service.{All, GoodService}
use Rattle.reading.specs.meaning.Message.{Segment, Message, ValidSegment, write_segments, render}
use Rattle.reading.specs.meaning.WellFormed.{WellFormed, SegmentAt}
use Rattle.reading.specs.declared.service.Service.{Service}
use Rattle.reading_laws.proofs.Cursors.{written_at}
use Rattle.placing.specs.meaning.Fitting.{home_of}
use Rattle.placing_laws.specs.laws.Occurrences.{occurrences}
use Rattle.reading.specs.meaning.Starts.{starts_in, starts_of}
use Rattle.placing.specs.method.Tables.{place_from}
use Rattle.demands.specs.meaning.Table.{IsOf}

-- there is one at most
pub one_of : (l k : ℕ) (m : Message) (hs : List ℕ) (p q : ℕ) (x y : Segment) → IsOf l k m hs p x → IsOf l k m hs q y → (p ≡ q) × (x ≡ y)
one_of l k [] hs p q x y a b = absurd a
one_of l k (g ∷ gs) [] p q x y a b = absurd a
one_of l k (g ∷ gs) (h ∷ hs) p q x y (inl (e, i, f)) (inl (d, j, c)) = (i ∙ sym j, sym f ∙ c)
one_of l k (g ∷ gs) (h ∷ hs) p q x y (inl (e, i, f)) (inr (n, b)) = absurd (n e)
one_of l k (g ∷ gs) (h ∷ hs) p q x y (inr (n, a)) (inl (d, j, c)) = absurd (n d)
one_of l k (g ∷ gs) (h ∷ hs) p q x y (inr (n, a)) (inr (o, b)) = one_of l (suc k) gs hs p q x y a b

module _ (s : Service) (service : GoodService s) (b : Guide) (l : ℕ) where
  -- of a message of which k segments have been passed
  pub record Carried (bs : List ℕ) (k : ℕ) (m : Message) (starts : List ℕ) : Type 0 where
    pub segment : Segment
    pub index : ℕ
    pub is : IsOf l k m (map (home_of b) m) (suc (k + index)) segment
    pub place : place_from l k (map (home_of b) m) ≡ suc (k + index)
    pub there : SegmentAt s bs (get_or starts index 0) segment

  here_carried : (bs : List ℕ) (k at : ℕ) (g : Segment) (gs : Message) (starts : List ℕ) → home_of b g ≡ l → SegmentAt s bs at g → Carried bs k (g ∷ gs) (at ∷ starts)
  unfolding place_from
  here_carried bs k at g gs starts e i =
      let nought : suc k ≡ suc (k + 0) = omega arith in
      record {
        segment = g;
        index = 0;
        is = inl (e, sym nought, refl);
        place = ap (λ (v : Bool). cond v (suc k) (place_from l (suc k) (map (home_of b) gs))) (eq-eqb (home_of b g) l e) ∙ nought;
        there = i;
      }

  later_carried : (bs : List ℕ) (k at : ℕ) (g : Segment) (gs : Message) (starts : List ℕ) → (home_of b g ≡ l → ⊥) → Carried bs (suc k) gs starts → Carried bs k (g ∷ gs) (at ∷ starts)
  unfolding place_from
  later_carried bs k at g gs starts n c =
      let next : suc (suc k + c.index) ≡ suc (k + suc c.index) = omega arith in
      record {
        segment = c.segment;
        index = suc c.index;
        is = inr (n, subst (λ (p : ℕ). IsOf l (suc k) gs (map (home_of b) gs) p c.segment) next c.is);
        place = ap (λ (v : Bool). cond v (suc k) (place_from l (suc k) (map (home_of b) gs))) (ne_eqb (home_of b g) l n) ∙ c.place ∙ next;
        there = c.there;
      }

  carried_in : (m before : Message) (k : ℕ) → length before ≡ k → All ValidSegment m → 1 ≤ occurrences l (map (home_of b) m) → Carried (render s (before ++ m)) k m (starts_in s before m)
  unfolding starts_in occurrences
  carried_in [] before k e v o = absurd (omega arith)
  carried_in (g ∷ gs) before k e v o = go (eqb (home_of b g) l) refl o (carried_in gs (before ++ (g ∷ [])) (suc k) (length-append before (g ∷ []) ∙ omega arith) v.1)
    where
      same : (before ++ (g ∷ [])) ++ gs ≡ before ++ (g ∷ gs)
      same = append_assoc before (g ∷ []) gs

      go : (t : Bool) → eqb (home_of b g) l ≡ t → 1 ≤ cond t 1 0 + occurrences l (map (home_of b) gs)
          → (1 ≤ occurrences l (map (home_of b) gs) → Carried (render s ((before ++ (g ∷ [])) ++ gs)) (suc k) gs (starts_in s (before ++ (g ∷ [])) gs))
          → Carried (render s (before ++ (g ∷ gs))) k (g ∷ gs) (length (render s before) ∷ starts_in s (before ++ (g ∷ [])) gs)
      go true h i later =
          here_carried (render s (before ++ (g ∷ gs))) k (length (render s before)) g gs (starts_in s (before ++ (g ∷ [])) gs) (eqb-true (home_of b g) l h)
          (written_at s service before g gs v.0)
      go false h i later =
          later_carried (render s (before ++ (g ∷ gs))) k (length (render s before)) g gs (starts_in s (before ++ (g ∷ [])) gs) (eqb-false (home_of b g) l h)
          (subst (λ (x : Message). Carried (render s x) (suc k) gs (starts_in s (before ++ (g ∷ [])) gs)) same (later (omega arith)))

  pub carried : (bs : List ℕ) (w : WellFormed s bs) → 1 ≤ occurrences l (map (home_of b) w.message) → Carried bs 0 w.message (starts_of s w.message)
  unfolding write_segments
  carried bs w o =
      subst (λ (xs : List ℕ). Carried xs 0 w.message (starts_of s w.message)) (sym w.same) (carried_in w.message [] 0 refl w.valid.segments o)
