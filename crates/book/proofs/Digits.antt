-- Bytes read as one number, the first one highest.
use Prim.Native.Nat.{ℕ, zero, suc, ◌+◌, ◌*◌, ◌<◌, ◌^◌}
use native.Mathlib.Omega.{arith}
use native.Mathlib.Numerals.{add-one}
use mathlib.Core.Path.{◌≡◌, refl, ap}
use mathlib.Core.List.{List}
use Rattle.guide.specs.meaning.Numbers.{byte_at}
use Rattle.guide.specs.meaning.Guide.{guide_of}

module _ (byte : ℕ → ℕ) where
  unfoldable pub number_of : ℕ → ℕ
  number_of zero = 0
  number_of (suc n) = number_of n * 256 + byte n

  pub none : 0 ≡ number_of 0
  unfolding number_of
  none = refl

  pub one_more : (n : ℕ) → number_of (n + 1) ≡ number_of n * 256 + byte n
  unfolding number_of
  one_more n = ap number_of (add-one n)

  pub five : number_of 5 ≡ (((byte 0 * 256 + byte 1) * 256 + byte 2) * 256 + byte 3) * 256 + byte 4
  unfolding number_of
  five = omega arith

  pub small : ((n : ℕ) → byte n < 256) → (n : ℕ) → n < 5 → number_of n < 2 ^ 32
  unfolding number_of
  small bytes zero h = omega arith
  small bytes (suc zero) h = omega (arith, bytes 0)
  small bytes (suc (suc zero)) h = omega (arith, bytes 0, bytes 1)
  small bytes (suc (suc (suc zero))) h = omega (arith, bytes 0, bytes 1, bytes 2)
  small bytes (suc (suc (suc (suc zero)))) h = omega (arith, bytes 0, bytes 1, bytes 2, bytes 3)
  small bytes (suc (suc (suc (suc (suc n))))) h = absurd (omega arith)

pub identifier_bytes : (bs : List ℕ) → ((k : ℕ) → byte_at bs k < 256) → (p n : ℕ) → (guide_of bs).identifier_byte p n < 256
unfolding guide_of
identifier_bytes bs bytes p n = bytes _
