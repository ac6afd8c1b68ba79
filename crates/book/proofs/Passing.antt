-- Lines of other tags are passed over before one home is asked: nothing is asked of such a pair.
use Prim.Native.Nat.{ℕ, zero, suc, ◌+◌, ◌-◌, ◌≤◌, ◌<◌}
use native.Mathlib.Omega.{arith}
use mathlib.Core.Path.{◌≡◌, refl, sym, ap, subst, ◌∙◌}
use mathlib.Core.Bool.{Bool, true, false, ◌&&◌}
use native.Mathlib.Numerals.{add-one}
use Rattle.std.specs.Prelude.{Option, None, Some, MatchOption}
use Rattle.guide.specs.meaning.Guide.{Guide}
use Rattle.book.specs.method.Run.{run, all}
use Rattle.book.specs.meaning.GoodBook.{segment, same_tag_rule, told_apart_rule, pair_rule}
use Rattle.book.specs.meaning.Rule.{◌≐◌}
use Rattle.book.specs.method.Each.{PassedTo, home_rule}
use Rattle.book.proofs.Rules.{all_on, all_end, when_false}

module _ (g : Guide) (m : ℕ) where
  abbrev test : ℕ → Bool
  test i = run (pair_rule g i m)

  other_tag : (l : ℕ) → run (same_tag_rule g l m) ≡ false → test l ≡ true
  unfolding pair_rule
  other_tag l e = sym (when_false (run (same_tag_rule g l m)) (run (told_apart_rule g l m)) e)

  passed_on : (l : ℕ) → l < m → run (same_tag_rule g l m) ≡ false → PassedTo g m l → PassedTo g m (l + 1)
  passed_on l h e i =
      let n : m - (l + 1) ≡ m - l - 1 = omega arith in
      record {
        some = omega arith;
        within = omega arith;
        same = ap (λ (k : ℕ). all (l + 1) k test) n ∙ all_on test l (m - l) (omega arith) (other_tag l e) ∙ i.same;
      }

  -- none of those before shares the tag
  passed_up : (l : ℕ) → 1 ≤ l → l ≤ m → ((k : ℕ) → 1 ≤ k → k < l → run (same_tag_rule g k m) ≡ false) → PassedTo g m l
  passed_up zero some within other = absurd (omega arith)
  passed_up (suc zero) some within other = record { some = some; within = within; same = refl }
  passed_up (suc (suc l)) some within other =
      subst (PassedTo g m) (add-one (suc l))
      (passed_on (suc l) within (other (suc l) (omega arith) (omega arith)) (passed_up (suc l) (omega arith) (omega arith) (λ k a b. other k a (omega arith))))

  -- none at all
  all_passed : PassedTo g m m → true ≡ run (home_rule g m)
  unfolding home_rule
  all_passed i = sym (all_end test m (m - m) (omega arith)) ∙ i.same

  -- a line that is no segment's has no tag to share
  other_kind : (l : ℕ) → run (segment g m) ≡ false → run (same_tag_rule g l m) ≡ false
  unfolding same_tag_rule
  other_kind l e = ap (λ (t : Bool). run (segment g l) && (t && run (g.tag l ≐ g.tag m))) e ∙ go (run (segment g l))
    where
      go : (t : Bool) → (t && false) ≡ false
      go true = refl
      go false = refl

  pub passed_group : 1 ≤ m → run (segment g m) ≡ false → true ≡ run (home_rule g m)
  passed_group some e = all_passed (passed_up m some (omega arith) (λ l a b. other_kind l e))

  -- what a search for the first line of the tag has found
  pub passed_found : (r : Option ℕ) → 1 ≤ m
      → MatchOption r ((k : ℕ) → 1 ≤ k → k < m → run (same_tag_rule g k m) ≡ false)
      (λ l. (1 ≤ l) × (l < m) × (run (same_tag_rule g l m) ≡ true) × ((k : ℕ) → 1 ≤ k → k < l → run (same_tag_rule g k m) ≡ false))
      → MatchOption r (true ≡ run (home_rule g m)) (PassedTo g m)
  passed_found None some h = all_passed (passed_up m some (omega arith) h)
  passed_found (Some l) some h = let before = h.1 in passed_up l h.0 (omega arith) h.3
