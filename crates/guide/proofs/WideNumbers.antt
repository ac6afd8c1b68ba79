-- Numbers of several bytes in a record: how large they are, and of which bytes. So a proof elsewhere need not say where they stand.
use Prim.Native.Nat.{ℕ, ◌+◌, ◌*◌, ◌<◌, ◌^◌}
use native.Mathlib.Omega.{arith}
use native.Mathlib.Nat.{add_assoc}
use mathlib.Core.Path.{◌≡◌}
use mathlib.Core.List.{List}
use Rattle.guide.specs.meaning.Numbers.{byte_at, u32_at}
use Rattle.guide.specs.meaning.Guide.{guide_of}

-- ---- four bytes are below 2 ^ 32

module _ (bs : List ℕ) (bytes : (k : ℕ) → byte_at bs k < 256) where
  four_bytes : (at : ℕ) → u32_at bs at < 2 ^ 32
  four_bytes at = omega (arith, bytes at, bytes (at + 1), bytes (at + 2), bytes (at + 2 + 1))

  pub maximum_small : (l : ℕ) → (guide_of bs).maximum l < 2 ^ 32
  unfolding guide_of
  maximum_small l = four_bytes _

  pub code_low_small : (c : ℕ) → (guide_of bs).code_low c < 2 ^ 32
  unfolding guide_of
  code_low_small c = four_bytes _

-- ---- of which bytes

module _ (bs : List ℕ) where
  -- the tag of a line, its first byte lowest
  pub tag_bytes : (l : ℕ) → (guide_of bs).tag l ≡ (guide_of bs).tag_byte l 0 + 256 * (guide_of bs).tag_byte l 1 + 65536 * (guide_of bs).tag_byte l 2
  unfolding guide_of
  tag_bytes l = simp add_assoc

  -- the eight bytes of a code as two numbers
  pub code_low_bytes : (c : ℕ)
      → (guide_of bs).code_low c
      ≡ (guide_of bs).code_length c + 256 * (guide_of bs).code_byte c 0 + 65536 * ((guide_of bs).code_byte c 1 + 256 * (guide_of bs).code_byte c 2)
  unfolding guide_of
  code_low_bytes c = simp add_assoc

  pub code_high_bytes : (c : ℕ)
      → (guide_of bs).code_high c
      ≡ (guide_of bs).code_byte c 3 + 256 * (guide_of bs).code_byte c 4 + 65536 * ((guide_of bs).code_byte c 5 + 256 * (guide_of bs).code_end c)
  unfolding guide_of
  code_high_bytes c = simp add_assoc
