-- A part of a message, as it is written, among codes of a book, one by one.
use Rattle.std.specs.Prelude.{ℕ, zero, suc, List, [], ◌∷◌, Bool, true, false, ◌&&◌, ◌||◌, eqb, length}
use Rattle.guide.specs.meaning.Guide.{Guide}

unfoldable pub spells : (ℕ → ℕ) → ℕ → List ℕ → Bool
spells byte k [] = true
spells byte k (x ∷ xs) = eqb x (byte k) && spells byte (suc k) xs

unfoldable pub is_code : Guide → ℕ → List ℕ → Bool
is_code b c raw = eqb (length raw) (b.code_length c) && spells (b.code_byte c) 0 raw

unfoldable pub is_any_code : Guide → ℕ → ℕ → List ℕ → Bool
is_any_code b c zero raw = false
is_any_code b c (suc count) raw = is_code b c raw || is_any_code b (suc c) count raw
