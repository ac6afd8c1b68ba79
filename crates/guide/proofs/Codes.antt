-- The steps of the functions that compare a part with codes.
use Prim.Native.Nat.{ℕ, zero, suc, ◌+◌, ◌≤◌, ◌<◌}
use native.Mathlib.Omega.{arith}
use native.Mathlib.Numerals.{add-one}
use mathlib.Core.Path.{◌≡◌, refl, sym, ap, ◌∙◌}
use mathlib.Core.List.{List}
use mathlib.Core.Bool.{Bool, true, false, ◌&&◌, ◌||◌}
use lib.Dec.{eqb}
use lib.ListN.{length, get_or, drop, drop_of_length-le}
use lib.Seq.{drop-cons}
use Rattle.std.specs.List.{list_all, list_any, range_with_len}
use borrow.Author.Tests.{eq-eqb, ne_eqb}
use Rattle.guide.specs.meaning.Guide.{Guide}
use Rattle.guide.specs.method.Codes.{spells, is_code, is_any_code}

-- ---- one code

module _ (byte : ℕ → ℕ) (raw : List ℕ) where
  spell_next : (at : ℕ) → at < length raw → spells byte at (drop at raw) ≡ (eqb (get_or raw at 0) (byte at) && spells byte (at + 1) (drop (at + 1) raw))
  unfolding spells
  spell_next at h =
      ap (spells byte at) (drop-cons raw at 0 h)
      ∙ ap (λ (n : ℕ). eqb (get_or raw at 0) (byte at) && spells byte n (drop n raw)) (sym (add-one at))

  spell_end : (at : ℕ) → length raw ≤ at → spells byte at (drop at raw) ≡ true
  unfolding spells
  spell_end at h = ap (spells byte at) (drop_of_length-le raw h)

  abbrev pub same_byte : ℕ → Bool
  same_byte at = eqb (get_or raw at 0) (byte at)

  -- so many bytes, up to the end
  pub spelt : (count at : ℕ) → at + count ≡ length raw → list_all same_byte (range_with_len at count) ≡ spells byte at (drop at raw)
  spelt zero at e = sym (spell_end at (omega arith))
  spelt (suc count) at e = ap (λ (r : Bool). same_byte at && r) (spelt count (at + 1) (omega arith)) ∙ sym (spell_next at (omega arith))

module _ (b : Guide) where
  pub code_other_length : (c n : ℕ) (raw : List ℕ) → n ≡ b.code_length c → (length raw ≡ n → ⊥) → false ≡ is_code b c raw
  unfolding is_code
  code_other_length c n raw e h = sym (simp (ne_eqb (length raw) (b.code_length c) (λ z. h (z ∙ sym e))))

  pub code_spelt : (c n : ℕ) (raw : List ℕ) (r : Bool) → n ≡ b.code_length c → length raw ≡ n → r ≡ spells (b.code_byte c) 0 raw → r ≡ is_code b c raw
  unfolding is_code
  code_spelt c n raw r e h k = k ∙ sym (simp (eq-eqb (length raw) (b.code_length c) (h ∙ e)))

  -- ---- several codes

  abbrev pub spells_code : List ℕ → ℕ → Bool
  spells_code raw c = is_code b c raw

  pub any_code : (raw : List ℕ) (count first : ℕ) → list_any (spells_code raw) (range_with_len first count) ≡ is_any_code b first count raw
  unfolding is_any_code
  any_code raw zero first = refl
  any_code raw (suc count) first =
      ap (λ (r : Bool). is_code b first raw || r) (ap (λ (x : ℕ). list_any (spells_code raw) (range_with_len x count)) (add-one first) ∙ any_code raw count (suc first))
