-- In a good book every line below the root has one parent, the last group before it with a depth one less; and groups nest.
use Prim.Native.Nat.{ℕ, zero, suc, ◌+◌, ◌-◌, ◌≤◌, ◌<◌}
use native.Mathlib.Omega.{arith}
use native.Mathlib.Decide.{dec_lt}
use native.Mathlib.Numerals.{add-one}
use mathlib.Core.Path.{◌≡◌, refl, sym}
use mathlib.Core.List.{List}
use mathlib.Core.Logic.{◌⊎◌, inl, inr, dite}
use Rattle.guide.specs.meaning.Words.{segment_kind, group_kind}
use Rattle.guide.specs.meaning.Guide.{Guide, guide_of}
use Rattle.book.specs.meaning.GoodBook.{GoodBook, frame_rule, trigger_rule, fall_rule}
use Rattle.book_laws.proofs.Clauses.{line_kind, first_frame, group_trigger, line_falls}

-- ---- which groups a line lies in. 01, "Structure" and "Placing and judging"

-- a group is around a later line where all lines from its next one up to that line lie deeper
pub record Encloses (g : Guide) (p l : ℕ) : Type 0 where
  pub group : g.kind p ≡ group_kind
  pub first : 1 ≤ p
  pub before : p < l
  pub deeper : (x : ℕ) → p < x → x ≤ l → g.depth p < g.depth x

-- the group that a line lies in directly
pub record ParentOf (g : Guide) (p l : ℕ) : Type 0 where
  pub encloses : Encloses g p l
  pub one_less : g.depth l ≡ g.depth p + 1

-- ---- neighbouring lines

module _ (bs : List ℕ) (good : GoodBook bs) where
  pub first_at_root : (guide_of bs).depth 1 ≡ 0
  unfolding frame_rule
  first_at_root = (first_frame bs good).1.1.0

  pub trigger_deeper : (l : ℕ) → 1 ≤ l → l ≤ (guide_of bs).lines → (guide_of bs).kind l ≡ group_kind → (guide_of bs).depth (l + 1) ≡ (guide_of bs).depth l + 1
  unfolding trigger_rule
  trigger_deeper l a b k = (group_trigger bs good l a b k).1.1.0

  pub stays_or_falls : (l : ℕ) → 1 ≤ l → l + 1 ≤ (guide_of bs).lines → (guide_of bs).kind l ≡ segment_kind → (guide_of bs).depth (l + 1) ≤ (guide_of bs).depth l
  unfolding fall_rule
  stays_or_falls l a b k = line_falls bs good l a (omega arith) (k, b)

  -- ---- at every lesser depth there is a group around a line

  record At (d l : ℕ) : Type 0 where
    group : ℕ
    encloses : Encloses (guide_of bs) group l
    depth : (guide_of bs).depth group ≡ d

  next_in : (d l : ℕ) → d < (guide_of bs).depth (l + 1) → At d l → At d (l + 1)
  next_in d l h at =
      let e = at.encloses in
      let b = e.before in
      let same = at.depth in
      record {
        group = at.group;
        encloses =
            record {
              group = e.group;
              first = e.first;
              before = omega arith;
              deeper = λ x p q. dite (dec_lt x (l + 1)) (λ m. e.deeper x p (omega arith)) (λ m. let z : x ≡ l + 1 = omega arith in rw z (omega arith));
            };
        depth = at.depth;
      }

  own_group : (l : ℕ) → 1 ≤ l → (guide_of bs).kind l ≡ group_kind → (guide_of bs).depth (l + 1) ≡ (guide_of bs).depth l + 1 → At ((guide_of bs).depth l) (l + 1)
  own_group l a k e =
      record {
        group = l;
        encloses =
            record {
              group = k;
              first = a;
              before = omega arith;
              deeper = λ x p q. let z : x ≡ l + 1 = omega arith in rw (z, e) (omega arith);
            };
        depth = refl;
      }

  step : (l d : ℕ) → 1 ≤ l → l + 1 ≤ (guide_of bs).lines → d < (guide_of bs).depth (l + 1) → (d < (guide_of bs).depth l → At d l) → At d (l + 1)
  step l d a b h before = go (line_kind bs good l a (omega arith))
    where
      below : d < (guide_of bs).depth l → At d (l + 1)
      below m = next_in d l h (before m)

      go : ((guide_of bs).kind l ≡ segment_kind) ⊎ ((guide_of bs).kind l ≡ group_kind) → At d (l + 1)
      go (inl segment) = below (let f = stays_or_falls l a b segment in omega arith)
      go (inr group) =
          let e = trigger_deeper l a (omega arith) group in
          dite (dec_lt d ((guide_of bs).depth l)) below (λ n. let z : (guide_of bs).depth l ≡ d = omega arith in rw z at (own_group l a group e))

  around : (k d : ℕ) → suc k ≤ (guide_of bs).lines → d < (guide_of bs).depth (suc k) → At d (suc k)
  around zero d b h = let r = first_at_root in absurd (omega arith)
  around (suc k) d b h =
      rw (sym (add-one (suc k)))
      (step (suc k) d (omega arith) (omega arith) (rw (sym (add-one (suc k))) at h) (around k d (omega arith)))

  -- ---- the parent

  pub parent_exists : (l : ℕ) → 1 ≤ l → l ≤ (guide_of bs).lines → 0 < (guide_of bs).depth l → (p : ℕ) × ParentOf (guide_of bs) p l
  parent_exists zero a b h = absurd (omega arith)
  parent_exists (suc k) a b h =
      let at = around k ((guide_of bs).depth (suc k) - 1) b (omega arith) in
      (at.group, record { encloses = at.encloses; one_less = let d = at.depth in omega arith })

module _ (g : Guide) where
  later : (p q l : ℕ) → ParentOf g p l → ParentOf g q l → p < q → ⊥
  later p q l x y h =
      let d = x.encloses.deeper q h (let b = y.encloses.before in omega arith) in
      let a = x.one_less in let c = y.one_less in
      omega arith

  pub one_parent : (p q l : ℕ) → ParentOf g p l → ParentOf g q l → p ≡ q
  one_parent p q l x y = dite (dec_lt p q) (λ h. absurd (later p q l x y h)) (λ h. dite (dec_lt q p) (λ k. absurd (later q p l y x k)) (λ k. omega arith))

  -- no group between a parent and its line has a depth one less than the line's
  pub parent_is_last : (p l x : ℕ) → ParentOf g p l → p < x → x < l → g.depth l ≡ g.depth x + 1 → ⊥
  parent_is_last p l x y h k e = let d = y.encloses.deeper x h (omega arith) in let a = y.one_less in omega arith

  -- what is around a group is around the lines in it
  pub groups_nest : (q p l : ℕ) → Encloses g q p → Encloses g p l → Encloses g q l
  groups_nest q p l x y =
      let a = x.before in let b = y.before in let up = x.deeper p a (omega arith) in
      record {
        group = x.group;
        first = x.first;
        before = omega arith;
        deeper = λ z h k. dite (dec_lt p z) (λ m. let d = y.deeper z m k in omega arith) (λ m. x.deeper z h (omega arith));
      }
