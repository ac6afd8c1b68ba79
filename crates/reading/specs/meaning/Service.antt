-- The service characters, and what a byte may be. 01, "Bytes of a message".
use Rattle.std.specs.Prelude.{ℕ, ◌≡◌, List, [], ◌∷◌, Bool, true, false, ◌&&◌, ◌||◌, leb, eqb}
use Rattle.reading.specs.declared.service.Service.{Service}

-- 01: "Separators: `:` component, `+` element, `'` segment end, `?` release." The decimal mark is `.`.
abbrev pub standard : Service
standard = record { component = 0x3a; element = 0x2b; decimal = 0x2e; release = 0x3f; terminator = 0x27 }

-- 01: "Data bytes are 0x20–0x7E and 0xA0–0xFF."
unfoldable pub is_data : ℕ → Bool
is_data b = (leb 0x20 b && leb b 0x7e) || (leb 0xa0 b && leb b 0xff)

-- 01: "a tag of three bytes (A–Z, 0–9)"
unfoldable pub is_tag_byte : ℕ → Bool
is_tag_byte b = (leb 0x30 b && leb b 0x39) || (leb 0x41 b && leb b 0x5a)

-- 01: "A separator or `?` as data has `?` before it"
unfoldable pub must_release : Service → ℕ → Bool
must_release s b = eqb b s.release || (eqb b s.component || (eqb b s.element || eqb b s.terminator))

-- P of each one
abbrev pub All : {A : Type 0} → (A → Type 0) → List A → Type 0
All P [] = Unit {0}
All P (x ∷ xs) = P x × All P xs

abbrev pub IsData : ℕ → Type 0
IsData b = is_data b ≡ true

abbrev pub Differs : ℕ → ℕ → Type 0
Differs a b = a ≡ b → ⊥

-- each differs from all that come after it
abbrev pub Different : List ℕ → Type 0
Different [] = Unit {0}
Different (b ∷ bs) = All (Differs b) bs × Different bs

abbrev pub five : Service → List ℕ
five s = s.component ∷ s.element ∷ s.decimal ∷ s.release ∷ s.terminator ∷ []

-- letters, digits, space, `-` and `.`, of which names and numbers are made
unfoldable pub is_word_byte : ℕ → Bool
is_word_byte b = (leb 0x30 b && leb b 0x39) || (leb 0x41 b && leb b 0x5a) || (leb 0x61 b && leb b 0x7a) || eqb b 0x20 || eqb b 0x2d || eqb b 0x2e

-- A good set, which the laws about the grammar assume: data bytes, no two the same, and no word byte is one that must be released.
-- 02 (T-03) asks more of a file's own, of the decimal mark too: "must not be letters, digits, space, `-`", "and only the decimal
-- mark may be `.`"; what the laws need of that mark is GoodMark (fields/specs/meaning/Number.antt).
pub record GoodService (s : Service) : Type 0 where
  pub bytes : All IsData (five s)
  pub different : Different (five s)
  pub words : (b : ℕ) → is_word_byte b ≡ true → must_release s b ≡ false
