-- What a good book's lines keep, in the words that the laws of placing use.
use Prim.Native.Nat.{ℕ, suc, ◌≤◌}
use native.Mathlib.Omega.{arith}
use native.Mathlib.Numerals.{add-one}
use mathlib.Core.Path.{◌≡◌, sym, ap, ◌∙◌, subst}
use mathlib.Core.List.{List}
use mathlib.Core.Logic.{◌⊎◌, inl, inr}
use mathlib.Core.Bool.{true, false, true≢false}
use borrow.Author.Tests.{eq-eqb, ne_eqb, eqb-true}
use Rattle.guide.specs.meaning.Words.{group_kind, segment_kind}
use Rattle.guide.specs.meaning.Guide.{guide_of}
use Rattle.book.specs.meaning.Rule.{Holds}
use Rattle.book.specs.meaning.GoodBook.{GoodBook, frame_rule, trigger_rule, fall_rule}
use Rattle.book_laws.proofs.Clauses.{counts, line_kind, line_depth, line_maximum, first_frame, last_frame, group_trigger, line_falls}
use Rattle.guide.specs.meaning.Plan.{Plan, plan_in}

-- a segment line that is required, once, at the root
pub record Frame (b : Plan) (l : ℕ) : Type 0 where
  pub segment : b.group l ≡ false
  pub root : b.depth l ≡ 0
  pub required : b.required l ≡ true
  pub once : b.maximum l ≡ 1

-- 01: "After a group of depth d comes a segment line of depth d+1, its trigger, required with maximum 1."
pub record Trigger (b : Plan) (g : ℕ) : Type 0 where
  pub within : suc g ≤ b.lines
  pub deeper : b.depth (suc g) ≡ suc (b.depth g)
  pub segment : b.group (suc g) ≡ false
  pub required : b.required (suc g) ≡ true
  pub once : b.maximum (suc g) ≡ 1

-- what placing needs of 01's rules
pub record Structured (b : Plan) : Type 0 where
  pub long : 2 ≤ b.lines
  pub first : Frame b 1
  pub last : Frame b b.lines
  pub deepest : (l : ℕ) → 1 ≤ l → l ≤ b.lines → b.depth l ≤ 7
  pub trigger : (g : ℕ) → 1 ≤ g → g ≤ b.lines → b.group g ≡ true → Trigger b g
  pub falls : (l : ℕ) → 1 ≤ l → suc l ≤ b.lines → b.group l ≡ false → b.depth (suc l) ≤ b.depth l
  pub room : (l : ℕ) → 1 ≤ l → l ≤ b.lines → 1 ≤ b.maximum l

module _ (bs : List ℕ) (good : GoodBook bs) where
  not_group : (l : ℕ) → (guide_of bs).kind l ≡ segment_kind → (plan_in bs).group l ≡ false
  not_group l e = ne_eqb ((guide_of bs).kind l) group_kind (λ z. let a : 1 ≡ 2 = sym e ∙ z in omega arith)

  frame : (l tag : ℕ) → Holds (frame_rule (guide_of bs) l tag) → Frame (plan_in bs) l
  unfolding frame_rule
  frame l tag h =
      record {
        segment = not_group l h.0;
        root = h.1.1.0;
        required = eq-eqb ((guide_of bs).required l) 1 h.1.1.1.0;
        once = h.1.1.1.1.0;
      }

  trigger_of : (g : ℕ) → 1 ≤ g → g ≤ (guide_of bs).lines → (guide_of bs).kind g ≡ group_kind → Trigger (plan_in bs) g
  unfolding trigger_rule
  trigger_of g a c k =
      let h = group_trigger bs good g a c k in
      record {
        within = let w = h.0 in omega arith;
        deeper = ap (guide_of bs).depth (sym (add-one g)) ∙ h.1.1.0 ∙ add-one ((guide_of bs).depth g);
        segment = not_group (suc g) (ap (guide_of bs).kind (sym (add-one g)) ∙ h.1.0);
        required = eq-eqb ((guide_of bs).required (suc g)) 1 (ap (guide_of bs).required (sym (add-one g)) ∙ h.1.1.1.0);
        once = ap (guide_of bs).maximum (sym (add-one g)) ∙ h.1.1.1.1;
      }

  falls_of : (l : ℕ) → 1 ≤ l → suc l ≤ (guide_of bs).lines → (plan_in bs).group l ≡ false → (guide_of bs).depth (suc l) ≤ (guide_of bs).depth l
  unfolding fall_rule
  falls_of l a c k = go (line_kind bs good l a (omega arith))
    where
      go : ((guide_of bs).kind l ≡ segment_kind) ⊎ ((guide_of bs).kind l ≡ group_kind) → (guide_of bs).depth (suc l) ≤ (guide_of bs).depth l
      go (inl e) = subst (λ (x : ℕ). (guide_of bs).depth x ≤ (guide_of bs).depth l) (add-one l) (line_falls bs good l a (omega arith) (e, omega arith))
      go (inr e) = absurd (true≢false (sym (eq-eqb ((guide_of bs).kind l) group_kind e) ∙ k))

  pub structured : Structured (plan_in bs)
  structured =
      record {
        long = (counts bs good).0;
        first = frame 1 _ (first_frame bs good);
        last = frame (guide_of bs).lines _ (last_frame bs good);
        deepest = λ l a c. line_depth bs good l a c;
        trigger = λ g a c k. trigger_of g a c (eqb-true ((guide_of bs).kind g) group_kind k);
        falls = falls_of;
        room = λ l a c. (line_maximum bs good l a c).0;
      }
