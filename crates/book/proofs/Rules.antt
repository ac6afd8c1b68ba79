-- The laws of rules: to run one decides it; and a test of every number goes on, ends, and has one number more.
use Prim.Native.Nat.{ℕ, zero, suc, ◌+◌, ◌-◌, ◌≤◌, ◌<◌}
use native.Mathlib.Omega.{arith}
use native.Mathlib.Numerals.{add-one}
use mathlib.Core.Path.{◌≡◌, refl, sym, ap, ap₂, ◌∙◌}
use mathlib.Core.Logic.{inl, inr}
use mathlib.Core.Bool.{Bool, true, false, true≢false, not, ◌&&◌, ◌||◌}
use lib.Dec.{eqb}
use borrow.Author.Tests.{eq-eqb, eqb-true, eqb-false, leb-true, le-leb}
use Rattle.reading.proofs.Booleans.{both, left, right, one_of, or_left, or_right, denied, refuted}
use Rattle.book.specs.meaning.Rule.{Rule, ◌≐◌, ◌≼◌, ◌and◌, ◌or◌, ◌⇒◌, never, every, Holds}
use Rattle.book.specs.method.Run.{run, all}

-- ---- Booleans

pub ends_in_false : (a b : Bool) → b ≡ false → (a && b) ≡ false
ends_in_false true b e = e
ends_in_false false b e = refl

pub ends_in_true : (a b : Bool) → b ≡ true → (a && b) ≡ a
ends_in_true true b e = e
ends_in_true false b e = refl

when : (a b : Bool) → (a ≡ true → b ≡ true) → (not a || b) ≡ true
when true b h = h refl
when false b h = refl

-- ---- a loop over numbers

module _ (test : ℕ → Bool) where
  pub all_end : (first count : ℕ) → count ≤ 0 → all first count test ≡ true
  unfolding all
  all_end first zero h = refl
  all_end first (suc count) h = absurd (omega arith)

  pub all_on : (first count : ℕ) → 0 < count → test first ≡ true → all (first + 1) (count - 1) test ≡ all first count test
  unfolding all
  all_on first zero h e = absurd (omega arith)
  all_on first (suc count) h e = ap₂ (λ (x n : ℕ). all x n test) (next first) (less count) ∙ sym (simp e)
    where
      next : (x : ℕ) → x + 1 ≡ suc x
      next x = omega arith

      less : (n : ℕ) → suc n - 1 ≡ n
      less n = omega arith

  -- one number more at the end
  all_suc : (first count : ℕ) → all first (suc count) test ≡ (all first count test && test (first + count))
  unfolding all
  all_suc first zero = ends_in_true (test first) true refl ∙ ap test (unmoved first)
    where
      unmoved : (a : ℕ) → a ≡ a + 0
      unmoved a = omega arith
  all_suc first (suc count) = regrouped (test first) (all (suc first) count test) (test (first + suc count)) (all_suc (suc first) count ∙ ap (λ (x : ℕ). all (suc first) count test && test x) (moved first count))
    where
      moved : (a b : ℕ) → suc a + b ≡ a + suc b
      moved a b = omega arith

      regrouped : (a b d : Bool) {c : Bool} → c ≡ (b && d) → (a && c) ≡ ((a && b) && d)
      regrouped true b d e = e
      regrouped false b d e = refl

  pub all_more : (first count : ℕ) → all first (count + 1) test ≡ (all first count test && test (first + count))
  all_more first count = ap (λ (n : ℕ). all first n test) (add-one count) ∙ all_suc first count

-- ---- every number of a range

all_holds : (P : ℕ → Type 0) (test : ℕ → Bool) → ((i : ℕ) → test i ≡ true → P i) → (count first : ℕ) → all first count test ≡ true
    → (i : ℕ) → first ≤ i → i < first + count → P i
unfolding all
all_holds P test f zero first e i p q = absurd (omega arith)
all_holds P test f (suc count) first e i p q =
    go (eqb i first) refl (all_holds P test f count (suc first) (right (test first) (all (suc first) count test) e) i)
  where
    go : (v : Bool) → eqb i first ≡ v → (suc first ≤ i → i < suc first + count → P i) → P i
    go true h ih = f i (rw (eqb-true i first h) (left (test first) (all (suc first) count test) e))
    go false h ih = let other = eqb-false i first h in ih (omega arith) (omega arith)

holds_all : (P : ℕ → Type 0) (test : ℕ → Bool) → ((i : ℕ) → P i → test i ≡ true) → (count first : ℕ)
    → ((i : ℕ) → first ≤ i → i < first + count → P i) → all first count test ≡ true
unfolding all
holds_all P test f zero first h = refl
holds_all P test f (suc count) first h =
    both (f first (h first (omega arith) (omega arith)))
    (holds_all P test f count (suc first) (λ i p q. h i (omega arith) (omega arith)))

-- ---- to run a rule decides it

mutual
  pub run_holds : (r : Rule) → run r ≡ true → Holds r
  run_holds (a ≐ b) e = eqb-true a b e
  run_holds (a ≼ b) e = leb-true a b e
  run_holds (r and s) e = (run_holds r (left (run r) (run s) e), run_holds s (right (run r) (run s) e))
  run_holds (r or s) e = elim (one_of (run r) (run s) e) [ inl x ↦ inl (run_holds r x) | inr x ↦ inr (run_holds s x) ]
  run_holds (r ⇒ s) e = λ h. elim (one_of (not (run r)) (run s) e) [ inl x ↦ absurd (true≢false (sym (holds_run r h) ∙ denied (run r) x)) | inr x ↦ run_holds s x ]
  run_holds (never r) e = λ h. true≢false (sym (holds_run r h) ∙ denied (run r) e)
  run_holds (every first count r) e = all_holds (λ i. Holds (r i)) (λ i. run (r i)) (λ i. run_holds (r i)) count first e

  pub holds_run : (r : Rule) → Holds r → run r ≡ true
  holds_run (a ≐ b) h = eq-eqb a b h
  holds_run (a ≼ b) h = le-leb a b h
  holds_run (r and s) h = both (holds_run r h.0) (holds_run s h.1)
  holds_run (r or s) h = elim h [ inl x ↦ or_left (run r) (run s) (holds_run r x) | inr x ↦ or_right (run r) (run s) (holds_run s x) ]
  holds_run (r ⇒ s) h = when (run r) (run s) (λ e. holds_run s (h (run_holds r e)))
  holds_run (never r) h = ap not (refuted (run r) (λ e. h (run_holds r e)))
  holds_run (every first count r) h = holds_all (λ i. Holds (r i)) (λ i. run (r i)) (λ i. holds_run (r i)) count first h

-- what is not run does not hold
pub run_fails : (r : Rule) → run r ≡ false → Holds r → ⊥
run_fails r e h = true≢false (sym (holds_run r h) ∙ e)

-- what does not hold is not run
pub fails_run : (r : Rule) → (Holds r → ⊥) → run r ≡ false
fails_run r h = refuted (run r) (λ e. h (run_holds r e))

-- where the first part of "if .. then" is known
pub when_false : (a b : Bool) → a ≡ false → true ≡ (not a || b)
when_false a b e = simp e

-- a test of several rules, one after the other: one that holds leaves the others, and one that does not decides
pub goes_on : (a b r : Bool) → a ≡ true → r ≡ b → r ≡ (a && b)
goes_on a b r e h = simp e h

pub stops : (a b r : Bool) → r ≡ a → r ≡ false → r ≡ (a && b)
stops true b r same e = absurd (true≢false (sym same ∙ e))
stops false b r same e = same
