-- Counts that stop one over the most, and small numbers as entries.
use Prim.Native.Nat.{ℕ, ◌+◌, ◌^◌, ◌≤◌, ◌<◌}
use native.Mathlib.Omega.{arith}
use mathlib.Core.Path.{◌≡◌, refl, sym, ◌∙◌}
use mathlib.Core.Bool.{Bool, true, false, cond}
use lib.Dec.{leb, ltb}
use borrow.Author.Tests.{leb-true, leb-false, le-leb, lt-leb, lt-ltb, le-ltb}
use Rattle.slices.specs.method.Entries.{entry}
use Rattle.pieces.specs.method.Progress.{one_more}

abbrev pub capped : ℕ → ℕ → ℕ
capped most n = cond (leb n most) n (most + 1)

pub small_entry : (x : ℕ) → x < 2 ^ 32 → entry x ≡ x
small_entry x h = omega arith

module _ (most n : ℕ) where
  pub capped_is : n ≤ most → capped most n ≡ n
  capped_is h = rw (le-leb n most h)

  -- a test that tells no numbers over the most apart says of it what it says of the number
  pub capped_test : (test : ℕ → Bool) → (most < n → test (most + 1) ≡ test n) → test (capped most n) ≡ test n
  capped_test test over = go (leb n most) refl
    where
      go : (t : Bool) → leb n most ≡ t → test (cond t n (most + 1)) ≡ test n
      go true e = refl
      go false e = over (leb-false n most e)

  pub capped_less : ltb (capped most n) most ≡ ltb n most
  capped_less = capped_test (λ k. ltb k most) (λ h. le-ltb (most + 1) most (omega arith) ∙ sym (le-ltb n most (omega arith)))

  pub capped_few : leb (capped most n) most ≡ leb n most
  capped_few = capped_test (λ k. leb k most) (λ h. lt-leb (most + 1) most (omega arith) ∙ sym (lt-leb n most h))

  pub capped_some : ltb 0 (capped most n) ≡ ltb 0 n
  capped_some = capped_test (ltb 0) (λ h. lt-ltb 0 (most + 1) (omega arith) ∙ sym (lt-ltb 0 n (omega arith)))

  -- one more of it is it of one more
  pub one_more_lem : one_more most (capped most n) ≡ capped most (n + 1)
  one_more_lem = go (leb n most) refl (leb (n + 1) most) refl
    where
      go : (t : Bool) → leb n most ≡ t → (u : Bool) → leb (n + 1) most ≡ u → one_more most (cond t n (most + 1)) ≡ cond u (n + 1) (most + 1)
      go true e true f = rw e
      go true e false f = rw e (omega (arith, leb-true n most e, leb-false (n + 1) most f))
      go false e true f = absurd (omega (arith, leb-false n most e, leb-true (n + 1) most f))
      go false e false f = rw (lt-leb (most + 1) most (omega arith))
