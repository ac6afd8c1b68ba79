-- The steps of the loop over lines that are left out.
use Prim.Native.Nat.{ℕ, ◌+◌, ◌-◌, ◌≤◌, ◌<◌}
use native.Mathlib.Omega.{arith}
use native.Mathlib.Numerals.{add-one}
use mathlib.Core.Path.{◌≡◌, refl, sym, ap, ◌∙◌}
use mathlib.Core.Bool.{Bool, true, false, cond, not, ◌&&◌}
use lib.Dec.{ltb}
use borrow.Author.Tests.{lt-ltb, le-ltb}
use Rattle.reading.proofs.Starts.{none_left, one_less}
use Rattle.guide.specs.meaning.Plan.{Plan}
use Rattle.placing.specs.method.Walking.{is_wanted, is_clear, is_passed}

module _ (b : Plan) (d end : ℕ) where
  clear_next : (x : ℕ) → x < end → is_clear b d x (end - x) ≡ cond (ltb (b.depth x) d) true (not (is_wanted b d x) && is_clear b d (x + 1) (end - (x + 1)))
  unfolding is_clear
  clear_next x h =
      ap (is_clear b d x) (one_less x end h)
      ∙ ap (λ (y : ℕ). cond (ltb (b.depth x) d) true (not (is_wanted b d x) && is_clear b d y (end - (x + 1)))) (sym (add-one x))

  passed_next : (x : ℕ) → x < end → is_passed b d x (end - x) ≡ (not (ltb (b.depth x) d) && (not (is_wanted b d x) && is_passed b d (x + 1) (end - (x + 1))))
  unfolding is_passed
  passed_next x h =
      ap (is_passed b d x) (one_less x end h)
      ∙ ap (λ (y : ℕ). not (ltb (b.depth x) d) && (not (is_wanted b d x) && is_passed b d y (end - (x + 1)))) (sym (add-one x))

  -- what is left, where a line outside the instance answers so
  abbrev pub Left : Bool → ℕ → Bool
  Left outside x = cond outside (is_clear b d x (end - x)) (is_passed b d x (end - x))

  left_next : (outside : Bool) (x : ℕ) → x < end → Left outside x ≡ cond (ltb (b.depth x) d) outside (not (is_wanted b d x) && Left outside (x + 1))
  left_next true x h = clear_next x h
  left_next false x h = passed_next x h ∙ go (ltb (b.depth x) d) (not (is_wanted b d x) && is_passed b d (x + 1) (end - (x + 1)))
    where
      go : (v r : Bool) → (not v && r) ≡ cond v false r
      go true r = refl
      go false r = refl

  pub left_end : (outside : Bool) (x : ℕ) → end ≤ x → Left outside x ≡ true
  unfolding is_clear is_passed
  left_end true x h = ap (is_clear b d x) (none_left x end h)
  left_end false x h = ap (is_passed b d x) (none_left x end h)

  pub left_shallow : (outside : Bool) (x r : ℕ) → x < end → r ≡ b.depth x → r < d → Left outside x ≡ outside
  left_shallow outside x r h e i = left_next outside x h ∙ ap (λ (v : Bool). cond v outside (not (is_wanted b d x) && Left outside (x + 1))) (lt-ltb (b.depth x) d (omega arith))

  pub left_awaited : (outside : Bool) (x r : ℕ) → x < end → r ≡ b.depth x → d ≤ r → Left outside x ≡ (not (is_wanted b d x) && Left outside (x + 1))
  left_awaited outside x r h e i = left_next outside x h ∙ ap (λ (v : Bool). cond v outside (not (is_wanted b d x) && Left outside (x + 1))) (le-ltb (b.depth x) d (omega arith))
