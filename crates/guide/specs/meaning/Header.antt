-- The header, by name. 01: "Header of 14 two-byte numbers: edition 1; total length; line count L, lines offset; code count C,
-- offset; field count F, offset; Prüfidentifikator count P, offset; rows offset; condition count (0–64); number of the line that
-- carries the Prüfidentifikator; 0." Every edition begins so.
use Rattle.std.specs.Prelude.{ℕ, List}
use Rattle.guide.specs.meaning.Numbers.{u16At}

module _ (bs : List ℕ) where
  abbrev pub edition_number : ℕ
  edition_number = u16At bs 0

  abbrev pub total_length : ℕ
  total_length = u16At bs 2

  abbrev pub line_total : ℕ
  line_total = u16At bs 4

  abbrev pub lines_offset : ℕ
  lines_offset = u16At bs 6

  abbrev pub code_total : ℕ
  code_total = u16At bs 8

  abbrev pub codes_offset : ℕ
  codes_offset = u16At bs 10

  abbrev pub field_total : ℕ
  field_total = u16At bs 12

  abbrev pub fields_offset : ℕ
  fields_offset = u16At bs 14

  abbrev pub identifier_total : ℕ
  identifier_total = u16At bs 16

  abbrev pub identifiers_offset : ℕ
  identifiers_offset = u16At bs 18

  abbrev pub rows_offset : ℕ
  rows_offset = u16At bs 20

  abbrev pub condition_total : ℕ
  condition_total = u16At bs 22

  abbrev pub carrier_line : ℕ
  carrier_line = u16At bs 24

  abbrev pub last_number : ℕ
  last_number = u16At bs 26
