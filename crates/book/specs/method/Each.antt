-- The order in which a book's rules are tested, and which rule each loop asks for. What a good book is stands in GoodBook.antt.
use Rattle.std.specs.Prelude.{ℕ, ◌+◌, ◌*◌, ◌-◌, ◌≤◌, ◌<◌, ◌^◌, ◌≡◌, List, Bool, ◌&&◌}
use Rattle.guide.specs.meaning.Guide.{Guide, guide_of}
use Rattle.book.specs.meaning.Rule.{Rule, ◌and◌, every}
use Rattle.book.specs.method.Run.{all, run}
use Rattle.book.specs.meaning.GoodBook.{edition_rule, length_rule, blocks_rule, counts_rule, kind_rule, depth_rule, tag_rule, required_rule, selector_rule, code_range_rule, maximum_rule, field_range_rule, group_rule, code_rule, field_rule, identifier_form_rule, identifier_rises, mode_rule, row_end_rule, required_row_rule, rising_fields_rule, trigger_rule, fall_rule, only_frames_rule, carrier_group_rule, frames_rule, carrier_rule, not_among_rule, pair_rule}

-- what is asked of one record
module _ (g : Guide) where
  unfoldable pub line_rule : ℕ → Rule
  line_rule l =
      (kind_rule g l and depth_rule g l and tag_rule g l)
      and (required_rule g l and selector_rule g l and code_range_rule g l)
      and (maximum_rule g l and field_range_rule g l and group_rule g l)

  unfoldable pub identifier_rule : ℕ → Rule
  identifier_rule p = identifier_form_rule g p and identifier_rises g p

  unfoldable pub row_rule : ℕ → Rule
  row_rule r = mode_rule g r and row_end_rule g r and required_row_rule g r

  -- and of a line among the others, but for its home
  unfoldable pub structure_rule : ℕ → Rule
  structure_rule l = (rising_fields_rule g l and trigger_rule g l and fall_rule g l) and only_frames_rule g l and carrier_group_rule g l

unfoldable pub header_rule : List ℕ → Rule
header_rule bs = edition_rule bs and blocks_rule bs and length_rule bs and counts_rule bs

-- each record by itself
abbrev pub lines_rule : Guide → Rule
lines_rule g = every 1 g.lines (line_rule g)

abbrev pub codes_rule : Guide → Rule
codes_rule g = every 0 g.codes (code_rule g)

abbrev pub fields_rule : Guide → Rule
fields_rule g = every 0 g.fields (field_rule g)

abbrev pub identifiers_rule : Guide → Rule
identifiers_rule g = every 0 g.identifiers (identifier_rule g)

abbrev pub rows_rule : Guide → Rule
rows_rule g = every 0 (g.identifiers * g.lines) (row_rule g)

unfoldable pub records_rule : Guide → Rule
records_rule g = lines_rule g and codes_rule g and fields_rule g and identifiers_rule g and rows_rule g

-- the lines among each other
abbrev pub structures_rule : Guide → Rule
structures_rule g = every 1 g.lines (structure_rule g)

-- none of a line's codes is among another's
abbrev pub no_code_rule : Guide → ℕ → ℕ → Rule
no_code_rule g l m = every (g.first_code l) (g.code_count l) (not_among_rule g m)

-- one home: each line with those before it, which are told apart from each other by then
unfoldable pub home_rule : Guide → ℕ → Rule
home_rule g m = every 1 (m - 1) (λ l. pair_rule g l m)

abbrev pub homes_rule : Guide → Rule
homes_rule g = every 1 g.lines (home_rule g)

unfoldable pub framed_rule : Guide → Rule
framed_rule g = frames_rule g and carrier_rule g and structures_rule g and homes_rule g

-- a good book, tested
abbrev pub is_good : List ℕ → Bool
is_good bs = run (header_rule bs) && (run (records_rule (guide_of bs)) && run (framed_rule (guide_of bs)))

-- the lines before line l have another tag than line m, so that home_rule is left to be asked from l on
pub record PassedTo (g : Guide) (m l : ℕ) : Type 0 where
  pub some : 1 ≤ l
  pub within : l ≤ m
  pub same : all l (m - l) (λ i. run (pair_rule g i m)) ≡ all 1 (m - 1) (λ i. run (pair_rule g i m))

-- what a good header leaves: counts that a book of 65,535 bytes has room for
pub record Small (g : Guide) : Type 0 where
  pub some_lines : 0 < g.lines
  pub rows : g.identifiers * g.lines < 2 ^ 16
  pub codes : g.codes < 2 ^ 13

-- what good records leave besides: lines whose codes stay inside their block
abbrev pub CodesWithin : Guide → ℕ → Type 0
CodesWithin g l = g.first_code l + g.code_count l ≤ g.codes

pub record Within (g : Guide) : Type 0 where
  pub small : Small g
  pub line_codes : (l : ℕ) → 1 ≤ l → l ≤ g.lines → CodesWithin g l
