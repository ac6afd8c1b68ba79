-- Where the blocks of a book begin: "in this order without gaps", "28 + 20L + 8C + 12F + 8P + 8PL".
use Rattle.std.specs.Prelude.{ℕ, ◌+◌, ◌*◌, List}
use Rattle.guide.specs.meaning.Header.{line_total, code_total, field_total, identifier_total}
use Rattle.guide.specs.meaning.Edition.{edition_of}

module _ (bs : List ℕ) where
  abbrev pub codes_from : ℕ
  codes_from = (edition_of bs).header + (edition_of bs).line * line_total bs

  abbrev pub fields_from : ℕ
  fields_from = codes_from + (edition_of bs).code * code_total bs

  abbrev pub identifiers_from : ℕ
  identifiers_from = fields_from + (edition_of bs).field * field_total bs

  abbrev pub rows_from : ℕ
  rows_from = identifiers_from + (edition_of bs).identifier * identifier_total bs

  -- where the last one ends
  abbrev pub book_end : ℕ
  book_end = rows_from + (edition_of bs).row * (identifier_total bs * line_total bs)
