-- A required line is present in every instance of its parent: in an allowed sequence each instance holds at least one of it. So a
-- required line's row, which has mode 1, is never broken.
use Prim.Native.Nat.{ℕ, ◌≤◌}
use native.Mathlib.Omega.{arith}
use mathlib.Core.Path.{◌≡◌, refl, sym, ap, ◌∙◌, subst}
use mathlib.Core.List.{List}
use mathlib.Core.Bool.{Bool, true, false, not, cond, false≢true}
use borrow.Author.Tests.{eq-eqb, le-leb}
use Rattle.reading.specs.meaning.Service.{All}
use Rattle.guide.specs.meaning.Plan.{Plan, is_trigger}
use Rattle.placing.specs.meaning.Placement.{Contents, homes_of, count, Placed, parents_of}
use Rattle.guide.specs.meaning.Tree.{owner}
use Rattle.placing_laws.proofs.Structured.{Structured}
use Rattle.rules.specs.meaning.Instances.{instances_of, shown_by, first_in, first_of, is_present}
use Rattle.rules_laws.proofs.Lines.{trigger_owner, of_owner, group_owner}
use Rattle.rules_laws.proofs.InTree.{InTree, counted_in, trigger_in, each_instance, present_in}

present_seen : (seen : ℕ) → is_present seen ≡ true → seen ≡ 0 → ⊥
present_seen seen h e = false≢true (sym (ap not (eq-eqb seen 0 e)) ∙ h)

module _ (b : Plan) (s : Structured b) (hs : List ℕ) (placed : Placed b hs) (l : ℕ) (from : 1 ≤ l) (to : l ≤ b.lines) (required : b.required l ≡ true) where
  -- in instance t
  abbrev Shown : List ℕ → ℕ → Type 0
  Shown xs t = first_of b l t xs (parents_of placed.tree) ≡ 0 → ⊥

  shown : (t : ℕ) (x : Contents) → InTree placed.tree (owner b l) t x → (c : Bool) → is_trigger b l ≡ c
      → cond c t (first_in (shown_by b l) t 1 (homes_of placed.tree) (parents_of placed.tree)) ≡ 0 → ⊥
  shown t x i true e = λ z. let h = trigger_in placed.tree (owner b l) t x (trigger_owner b s l from to e) i in omega arith
  shown t x i false e =
      present_seen _ (present_in b s placed.tree placed.runs l from e (owner b l) t x i
      ∙ le-leb 1 (count l x) ((counted_in b placed.tree placed.runs placed.counted (owner b l) t x i l (of_owner b s l from to e)).1 required))

  pub required_present : All (λ t. first_of b l t hs (parents_of placed.tree) ≡ 0 → ⊥) (instances_of (owner b l) hs)
  required_present =
      subst (λ (xs : List ℕ). All (Shown xs) (instances_of (owner b l) xs)) placed.same
      (each_instance b s placed.tree placed.runs (Shown (homes_of placed.tree)) (owner b l) (group_owner b s l from to)
      (λ t x i. shown t x i (is_trigger b l) refl))
