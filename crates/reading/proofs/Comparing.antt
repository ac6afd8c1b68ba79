-- Two lists of bytes compared, and what the comparison says.
use Prim.Native.Nat.{ℕ}
use mathlib.Core.Path.{◌≡◌, refl, sym, ap}
use mathlib.Core.List.{List, [], ◌∷◌}
use mathlib.Core.Bool.{Bool, true, false, ◌&&◌, false≢true}
use lib.ListN.{length}
use lib.Dec.{eqb}
use lib.Pointwise.{pointwise}
use borrow.Author.Tests.{eqb-true}
use Rattle.reading.specs.meaning.Component.{same_component}

-- yes says that the bytes are the same
pub same_bytes_true : (xs ys : List ℕ) → same_component xs ys ≡ true → xs ≡ ys
unfolding same_component
same_bytes_true [] [] e = refl
same_bytes_true [] (y ∷ ys) e = absurd (false≢true e)
same_bytes_true (x ∷ xs) [] e = absurd (false≢true e)
same_bytes_true (x ∷ xs) (y ∷ ys) e = go (eqb x y) refl (same_bytes_true xs ys) e
  where
    go : (t : Bool) → eqb x y ≡ t → (same_component xs ys ≡ true → xs ≡ ys) → t && same_component xs ys ≡ true → x ∷ xs ≡ y ∷ ys
    go true h same e = cc (eqb-true x y h, same e)
    go false h same e = absurd (false≢true e)

same_bytes_long : (xs ys : List ℕ) → (length xs ≡ length ys → ⊥) → same_component xs ys ≡ false
same_bytes_long xs ys h = go (same_component xs ys) refl
  where
    go : (t : Bool) → same_component xs ys ≡ t → t ≡ false
    go true e = absurd (h (ap length (same_bytes_true xs ys e)))
    go false e = refl

pub different_lengths : (xs ys : List ℕ) → (length xs ≡ length ys → ⊥) → false ≡ same_component xs ys
different_lengths xs ys h = sym (same_bytes_long xs ys h)

-- `==` of two slices of bytes
pub compared : (xs ys : List ℕ) → pointwise eqb xs ys ≡ same_component xs ys
unfolding same_component
compared [] [] = refl
compared [] (y ∷ ys) = refl
compared (x ∷ xs) [] = refl
compared (x ∷ xs) (y ∷ ys) = ap (λ (t : Bool). eqb x y && t) (compared xs ys)
