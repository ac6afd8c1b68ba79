-- Four bytes that are copied over a part of a list are four stores, one after the other.
use Prim.Native.Nat.{ℕ, zero, suc, ◌+◌, ◌≤◌}
use native.Mathlib.Nat.{le_of_suc-le-suc, not-suc-le-zero}
use native.Mathlib.Numerals.{unary_clauses}
use native.Mathlib.Omega.{arith}
use mathlib.Core.Path.{◌≡◌, refl, ap}
use mathlib.Core.List.{List, [], ◌∷◌, ◌++◌}
use lib.ListN.{length, drop, take, set}
use borrow.Rule.Slice.PartMut.{put_mid}

module _ (w x y z : ℕ) where
  stored : (bytes : List ℕ) (at : ℕ) → suc (suc (suc (suc at))) ≤ length bytes
      → take at bytes ++ (w ∷ x ∷ y ∷ z ∷ drop 4 (drop at bytes)) ≡ set (set (set (set bytes at w) (suc at) x) (suc (suc at)) y) (suc (suc (suc at))) z
  stored [] at h = absurd (not-suc-le-zero h)
  stored (_ ∷ []) zero h = absurd (omega (arith, h))
  stored (_ ∷ (_ ∷ [])) zero h = absurd (omega (arith, h))
  stored (_ ∷ (_ ∷ (_ ∷ []))) zero h = absurd (omega (arith, h))
  stored (_ ∷ (_ ∷ (_ ∷ (_ ∷ _)))) zero h = refl
  stored (first ∷ rest) (suc at) h = ap (◌∷◌ first) (stored rest at (le_of_suc-le-suc h))

  pub four_stored : (bytes : List ℕ) (at k : ℕ) → k ≡ 4 → at + 4 ≤ length bytes
      → put_mid at k bytes (w ∷ x ∷ y ∷ z ∷ []) ≡ set (set (set (set bytes at w) (at + 1) x) (at + 2) y) (at + 3) z
  four_stored bytes at k four long = rw four (simp unary_clauses (stored bytes at (omega (arith, long))))
