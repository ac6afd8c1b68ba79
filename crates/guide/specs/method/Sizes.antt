-- Sizes and offsets as the code holds them, in structs by value, with what the sizes of every edition keep.
use Rattle.std.specs.Prelude.{◌≡◌, List, ℕ, ◌≤◌, ◌<◌}
use Rattle.guide.specs.meaning.Edition.{Edition}
use Rattle.guide.specs.meaning.Blocks.{codes_from, fields_from, identifiers_from, rows_from, book_end}
use Rattle.guide.specs.declared.edition.Edition as held
use Rattle.guide.specs.declared.blocks.Blocks.{Blocks}

-- what the sizes of every edition keep, so that no proof asks which they are: no offset comes near 64 bits, line 0 lies not before
-- the book, and 65,535 bytes have room for fewer than 8,192 codes and 65,536 rows
pub record SizesWithin (e : Edition) : Type 0 where
  pub small_header : e.header < 256
  pub small_line : e.line ≤ e.header
  pub small_code : e.code < 256
  pub small_field : e.field < 256
  pub small_identifier : e.identifier < 256
  pub small_row : e.row < 256
  pub wide_code : 8 ≤ e.code
  pub wide_row : 1 ≤ e.row

pub record SizesOf (e : Edition) (r : held.Edition) : Type 0 where
  pub number : r.number ≡ e.number
  pub header : r.header ≡ e.header
  pub line : r.line ≡ e.line
  pub code : r.code ≡ e.code
  pub field : r.field ≡ e.field
  pub identifier : r.identifier ≡ e.identifier
  pub row : r.row ≡ e.row
  pub within : SizesWithin e

-- where the blocks begin, and where the last one ends
pub record BlocksOf (bs : List ℕ) (r : Blocks) : Type 0 where
  pub codes : r.codes ≡ codes_from bs
  pub fields : r.fields ≡ fields_from bs
  pub identifiers : r.identifiers ≡ identifiers_from bs
  pub rows : r.rows ≡ rows_from bs
  pub end : r.end ≡ book_end bs
