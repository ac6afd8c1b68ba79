-- A book as the layers above see it: lines, fields and rows with their values. Total for any bytes; the laws of
-- ViewedLines.antt and ViewedRows.antt in crates/book_laws/proofs say what holds of a good one.
use Rattle.std.specs.Prelude.{ℕ, zero, suc, ◌+◌, ◌*◌, ◌-◌, List, [], ◌∷◌, map, Bool, cond, eqb, take}
use Rattle.guide.specs.meaning.Words.{group_kind}
use Rattle.guide.specs.meaning.Guide.{Guide}

-- so many numbers from the first on
abbrev pub numbers_from : ℕ → ℕ → List ℕ
numbers_from first zero = []
numbers_from first (suc count) = first ∷ numbers_from (suc first) count

-- 01: "length 1–6; six bytes .., zero after the length"
abbrev pub code_value : Guide → ℕ → List ℕ
code_value g c =
    take (g.code_length c) (g.code_byte c 0 ∷ g.code_byte c 1 ∷ g.code_byte c 2 ∷ g.code_byte c 3 ∷ g.code_byte c 4 ∷ g.code_byte c 5 ∷ [])

pub record Field : Type 0 where
  pub element : ℕ
  pub component : ℕ
  pub presence : ℕ
  pub form : ℕ
  pub longest : ℕ
  -- none for any value
  pub codes : List (List ℕ)

abbrev pub field_of : Guide → ℕ → Field
field_of g f =
    record {
      element = g.element f;
      component = g.component f;
      presence = g.presence f;
      form = g.form f;
      longest = g.longest f;
      codes = map (code_value g) (numbers_from (g.first_value f) (g.value_count f));
    }

pub record Line : Type 0 where
  pub is_group : Bool
  pub depth : ℕ
  pub tag : List ℕ
  pub required : Bool
  -- 0 and 0 without a selector
  pub selector_element : ℕ
  pub selector_component : ℕ
  pub codes : List (List ℕ)
  pub maximum : ℕ
  pub fields : List Field

abbrev pub line_of : Guide → ℕ → Line
line_of g l =
    record {
      is_group = eqb (g.kind l) group_kind;
      depth = g.depth l;
      tag = g.tag_byte l 0 ∷ g.tag_byte l 1 ∷ g.tag_byte l 2 ∷ [];
      required = eqb (g.required l) 1;
      selector_element = g.selector_element l;
      selector_component = g.selector_component l;
      codes = map (code_value g) (numbers_from (g.first_code l) (g.code_count l));
      maximum = g.maximum l;
      fields = map (field_of g) (numbers_from (g.first_field l) (g.field_count l));
    }

pub record Row : Type 0 where
  pub mode : ℕ
  pub joint : ℕ
  -- as they stand: a number, plus 128 for "not"; 0 where unused
  pub conditions : List ℕ

-- the row with this number in the book, counted from 0
abbrev pub row_numbered : Guide → ℕ → Row
row_numbered g r = record { mode = g.mode r; joint = g.joint r; conditions = g.condition r 0 ∷ g.condition r 1 ∷ g.condition r 2 ∷ [] }

-- the row of a Prüfidentifikator, counted from 0, and a line, counted from 1: "lines running fastest"
abbrev pub row_number : Guide → ℕ → ℕ → ℕ
row_number g p l = p * g.lines + (l - 1)

abbrev pub row_of : Guide → ℕ → ℕ → Row
row_of g p l = row_numbered g (row_number g p l)

-- the conditions of a row that are in use: "unused bytes zero and last"
abbrev pub in_use : List ℕ → List ℕ
in_use [] = []
in_use (x ∷ conditions) = cond (eqb x 0) [] (x ∷ in_use conditions)
