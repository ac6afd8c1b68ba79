-- What stands in a book's bytes, by name. Where a number stands in its record is said here and in src/layout.rt alone; how long a
-- record is in Edition.antt and src/edition.rt; where the header's numbers stand in Header.antt and src/head.rt.
use Rattle.std.specs.Prelude.{ℕ, ◌+◌, ◌*◌, ◌-◌, List}
use Rattle.guide.specs.meaning.Numbers.{byte_at, u16At, u32_at}
use Rattle.guide.specs.meaning.Header.{line_total, code_total, codes_offset, field_total, fields_offset, identifier_total, identifiers_offset, rows_offset, condition_total, carrier_line}
use Rattle.guide.specs.meaning.Edition.{Edition, edition_of}

-- ---- records: the lines behind the header, each other block where the header says

-- 01: "Lines count from 1." The others count from 0.
abbrev pub line_at : List ℕ → ℕ → ℕ
line_at bs line = (edition_of bs).header + (edition_of bs).line * line - (edition_of bs).line

abbrev pub code_at : List ℕ → ℕ → ℕ
code_at bs code = codes_offset bs + (edition_of bs).code * code

abbrev pub field_at : List ℕ → ℕ → ℕ
field_at bs field = fields_offset bs + (edition_of bs).field * field

abbrev pub identifier_at : List ℕ → ℕ → ℕ
identifier_at bs identifier = identifiers_offset bs + (edition_of bs).identifier * identifier

-- 01: "Row (8), one per Prüfidentifikator and line, lines running fastest"
abbrev pub row_at : List ℕ → ℕ → ℕ
row_at bs row = rows_offset bs + (edition_of bs).row * row

-- ---- all that a book says, as functions of line, code, field, Prüfidentifikator and row numbers

pub record Guide : Type 0 where
  -- what it is read as
  pub edition : Edition
  pub lines : ℕ
  pub codes : ℕ
  pub fields : ℕ
  pub identifiers : ℕ
  pub conditions : ℕ
  -- the line that carries the Prüfidentifikator
  pub carrier : ℕ
  -- of a line, its kind a word of Words.antt; a byte of its tag, from 0; all three as one number
  pub kind : ℕ → ℕ
  pub depth : ℕ → ℕ
  pub tag_byte : ℕ → ℕ → ℕ
  pub tag : ℕ → ℕ
  pub required : ℕ → ℕ
  pub selector_element : ℕ → ℕ
  pub selector_component : ℕ → ℕ
  pub first_code : ℕ → ℕ
  pub code_count : ℕ → ℕ
  pub maximum : ℕ → ℕ
  pub first_field : ℕ → ℕ
  pub field_count : ℕ → ℕ
  -- of a code: its length, a byte of it from 0, the zero at its end, and its eight bytes as two numbers
  pub code_length : ℕ → ℕ
  pub code_byte : ℕ → ℕ → ℕ
  pub code_end : ℕ → ℕ
  pub code_low : ℕ → ℕ
  pub code_high : ℕ → ℕ
  -- of a field
  pub element : ℕ → ℕ
  pub component : ℕ → ℕ
  pub presence : ℕ → ℕ
  pub form : ℕ → ℕ
  pub longest : ℕ → ℕ
  pub first_value : ℕ → ℕ
  pub value_count : ℕ → ℕ
  pub field_end : ℕ → ℕ
  -- of a Prüfidentifikator: a byte of its eight, from 0
  pub identifier_byte : ℕ → ℕ → ℕ
  -- of a row: its mode, its joint, a byte of its conditions from 0, a byte of the zeros at its end from 0
  pub mode : ℕ → ℕ
  pub joint : ℕ → ℕ
  pub condition : ℕ → ℕ → ℕ
  pub row_end : ℕ → ℕ → ℕ

unfoldable pub guide_of : List ℕ → Guide
guide_of bs =
    record {
      edition = edition_of bs;
      lines = line_total bs;
      codes = code_total bs;
      fields = field_total bs;
      identifiers = identifier_total bs;
      conditions = condition_total bs;
      carrier = carrier_line bs;
      kind = λ l. byte_at bs (line_at bs l + 0);
      depth = λ l. byte_at bs (line_at bs l + 1);
      tag_byte = λ l k. byte_at bs (line_at bs l + (2 + k));
      tag = λ l. u16At bs (line_at bs l + 2) + 65536 * byte_at bs (line_at bs l + 4);
      required = λ l. byte_at bs (line_at bs l + 5);
      selector_element = λ l. byte_at bs (line_at bs l + 6);
      selector_component = λ l. byte_at bs (line_at bs l + 7);
      first_code = λ l. u16At bs (line_at bs l + 8);
      code_count = λ l. u16At bs (line_at bs l + 10);
      maximum = λ l. u32_at bs (line_at bs l + 12);
      first_field = λ l. u16At bs (line_at bs l + 16);
      field_count = λ l. u16At bs (line_at bs l + 18);
      code_length = λ c. byte_at bs (code_at bs c + 0);
      code_byte = λ c k. byte_at bs (code_at bs c + (1 + k));
      code_end = λ c. byte_at bs (code_at bs c + 7);
      code_low = λ c. u32_at bs (code_at bs c + 0);
      code_high = λ c. u32_at bs (code_at bs c + 4);
      element = λ f. byte_at bs (field_at bs f + 0);
      component = λ f. byte_at bs (field_at bs f + 1);
      presence = λ f. byte_at bs (field_at bs f + 2);
      form = λ f. byte_at bs (field_at bs f + 3);
      longest = λ f. u16At bs (field_at bs f + 4);
      first_value = λ f. u16At bs (field_at bs f + 6);
      value_count = λ f. u16At bs (field_at bs f + 8);
      field_end = λ f. u16At bs (field_at bs f + 10);
      identifier_byte = λ p k. byte_at bs (identifier_at bs p + k);
      mode = λ r. byte_at bs (row_at bs r + 0);
      joint = λ r. byte_at bs (row_at bs r + 1);
      condition = λ r k. byte_at bs (row_at bs r + (2 + k));
      row_end = λ r k. byte_at bs (row_at bs r + (5 + k));
    }
