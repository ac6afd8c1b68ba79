-- When a book is good: 01's rules, one by one, in its order and words. "Any breach makes the book malformed."
use Rattle.std.specs.Prelude.{ℕ, ◌+◌, ◌*◌, ◌-◌, ◌%◌, ◌≡◌, List, length}
use Rattle.reading.specs.meaning.Tag.{UNH, UNT, tag_number}
use Rattle.guide.specs.meaning.Words.{segment_kind, group_kind, with_element_presence, text_form, number_form, must_mode, may_mode, must_if_mode, may_if_mode, all_joint, any_joint}
use Rattle.guide.specs.meaning.Header.{edition_number, total_length, line_total, lines_offset, codes_offset, fields_offset, identifier_total, identifiers_offset, rows_offset, condition_total, last_number}
use Rattle.guide.specs.meaning.Edition.{edition_of}
use Rattle.guide.specs.meaning.Blocks.{codes_from, fields_from, identifiers_from, rows_from, book_end}
use Rattle.guide.specs.meaning.Guide.{Guide, guide_of}
use Rattle.book.specs.meaning.Rule.{Rule, ◌≐◌, ◌≼◌, ◌and◌, ◌or◌, ◌⇒◌, never, every, Holds}

abbrev pub between : ℕ → ℕ → ℕ → Rule
between least x most = least ≼ x and x ≼ most

abbrev pub digit : ℕ → Rule
digit x = between 0x30 x 0x39

abbrev pub capital : ℕ → Rule
capital x = between 0x41 x 0x5a

abbrev pub small : ℕ → Rule
small x = between 0x61 x 0x7a

-- ---- the header

-- 01: "edition 1; .. 0". The first number is that of the edition which the book is read as.
unfoldable pub edition_rule : List ℕ → Rule
edition_rule bs = edition_number bs ≐ (edition_of bs).number and last_number bs ≐ 0

-- 01: "in this order without gaps"
unfoldable pub blocks_rule : List ℕ → Rule
blocks_rule bs =
    lines_offset bs ≐ (edition_of bs).header
    and codes_offset bs ≐ codes_from bs
    and fields_offset bs ≐ fields_from bs
    and identifiers_offset bs ≐ identifiers_from bs
    and rows_offset bs ≐ rows_from bs

-- 01: "It is at most 65,535 and equals the slice's length."
unfoldable pub length_rule : List ℕ → Rule
length_rule bs = length bs ≼ 65535 and total_length bs ≐ length bs and book_end bs ≐ length bs

-- 01: "condition count (0–64)", "L is 2–256, P at least 1."
unfoldable pub counts_rule : List ℕ → Rule
counts_rule bs = condition_total bs ≼ 64 and 2 ≼ line_total bs and line_total bs ≼ 256 and 1 ≼ identifier_total bs

-- 01: "Firsts count from 0; ranges stay inside their block; a count of 0 goes with a first of 0."
unfoldable pub range_rule : ℕ → ℕ → ℕ → Rule
range_rule first count size = first + count ≼ size and (count ≐ 0 ⇒ first ≐ 0)

module _ (g : Guide) where
  abbrev pub segment : ℕ → Rule
  segment l = g.kind l ≐ segment_kind

  abbrev pub group : ℕ → Rule
  group l = g.kind l ≐ group_kind

  abbrev pub each_line : (ℕ → Rule) → Rule
  each_line rule = every 1 g.lines rule

  -- ---- Line

  -- 01: "kind (1 segment, 2 group)"
  unfoldable pub kind_rule : ℕ → Rule
  kind_rule l = segment l or group l

  -- 01: "no line deeper than 7"
  unfoldable pub depth_rule : ℕ → Rule
  depth_rule l = g.depth l ≼ 7

  -- 01: "tag (3 of A–Z, 0–9; zero for a group)"
  unfoldable pub tag_byte_rule : ℕ → ℕ → Rule
  tag_byte_rule l x = (segment l ⇒ (capital x or digit x)) and (group l ⇒ x ≐ 0)

  unfoldable pub tag_rule : ℕ → Rule
  tag_rule l = tag_byte_rule l (g.tag_byte l 0) and tag_byte_rule l (g.tag_byte l 1) and tag_byte_rule l (g.tag_byte l 2)

  -- 01: "required 0/1"
  unfoldable pub required_rule : ℕ → Rule
  required_rule l = g.required l ≼ 1

  -- 01: "A selector has both numbers 1–255 and at least one code, or both 0 and no code."
  unfoldable pub selector_rule : ℕ → Rule
  selector_rule l =
      (between 1 (g.selector_element l) 255 and between 1 (g.selector_component l) 255 and 1 ≼ g.code_count l)
      or (g.selector_element l ≐ 0 and g.selector_component l ≐ 0 and g.code_count l ≐ 0)

  unfoldable pub code_range_rule : ℕ → Rule
  code_range_rule l = range_rule (g.first_code l) (g.code_count l) g.codes

  -- 01: "maximum (4), 1–999,999"
  unfoldable pub maximum_rule : ℕ → Rule
  maximum_rule l = between 1 (g.maximum l) 999999

  unfoldable pub field_range_rule : ℕ → Rule
  field_range_rule l = range_rule (g.first_field l) (g.field_count l) g.fields

  -- 01: "A group has no selector, codes or fields." (A selector goes with codes.)
  unfoldable pub group_rule : ℕ → Rule
  group_rule l = group l ⇒ (g.code_count l ≐ 0 and g.field_count l ≐ 0)

  -- ---- Code

  -- 01: "length 1–6; six bytes from A–Z, a–z, 0–9 and `.`, zero after the length; a zero."
  unfoldable pub code_byte_rule : ℕ → ℕ → Rule
  code_byte_rule c k =
      (k + 1 ≼ g.code_length c ⇒ (capital (g.code_byte c k) or small (g.code_byte c k) or digit (g.code_byte c k) or g.code_byte c k ≐ 0x2e))
      and (g.code_length c ≼ k ⇒ g.code_byte c k ≐ 0)

  abbrev pub code_ends_rule : ℕ → Rule
  code_ends_rule c = between 1 (g.code_length c) 6 and g.code_end c ≐ 0

  unfoldable pub code_rule : ℕ → Rule
  code_rule c =
      code_ends_rule c
      and (code_byte_rule c 0 and code_byte_rule c 1 and code_byte_rule c 2)
      and (code_byte_rule c 3 and code_byte_rule c 4 and code_byte_rule c 5)

  -- ---- Field

  -- 01: "element, component (both 1–255); presence (0 .. 3 ..); form (1 an, 2 n); longest (2), at least 1; first code (2) and
  -- count (2), count 0 for any value; 2 zeros."
  unfoldable pub field_rule : ℕ → Rule
  field_rule f =
      (between 1 (g.element f) 255 and between 1 (g.component f) 255 and g.presence f ≼ with_element_presence)
      and ((g.form f ≐ text_form or g.form f ≐ number_form) and 1 ≼ g.longest f and g.field_end f ≐ 0)
      and range_rule (g.first_value f) (g.value_count f) g.codes

  -- ---- Prüfidentifikator

  -- 01: "five digits, three zeros; entries rise strictly."
  unfoldable pub identifier_form_rule : ℕ → Rule
  identifier_form_rule p =
      (digit (g.identifier_byte p 0) and digit (g.identifier_byte p 1) and digit (g.identifier_byte p 2) and digit (g.identifier_byte p 3) and digit (g.identifier_byte p 4))
      and (g.identifier_byte p 5 ≐ 0 and g.identifier_byte p 6 ≐ 0 and g.identifier_byte p 7 ≐ 0)

  -- the five digits, read as bytes of one number
  abbrev pub identifier_number : ℕ → ℕ
  identifier_number p =
      (((g.identifier_byte p 0 * 256 + g.identifier_byte p 1) * 256 + g.identifier_byte p 2) * 256 + g.identifier_byte p 3) * 256 + g.identifier_byte p 4

  unfoldable pub identifier_rises : ℕ → Rule
  identifier_rises p = p + 1 + 1 ≼ g.identifiers ⇒ identifier_number p + 1 ≼ identifier_number (p + 1)

  -- ---- Row

  -- 01: "a byte is the number, plus 128 for "not"; numbers reach the condition count at most", "numbers at least 1"
  abbrev pub literal_rule : ℕ → Rule
  literal_rule x = between 1 (x % 128) g.conditions

  -- 01: "one to three conditions, numbers at least 1, rising strictly, unused bytes zero and last"
  unfoldable pub next_literal_rule : ℕ → ℕ → Rule
  next_literal_rule x y = 1 ≼ y ⇒ (literal_rule y and x % 128 + 1 ≼ y % 128)

  -- 01: "Joint 1 is all, 2 is any; with one condition it is 1."
  unfoldable pub expression_rule : ℕ → Rule
  expression_rule r =
      literal_rule (g.condition r 0)
      and next_literal_rule (g.condition r 0) (g.condition r 1)
      and next_literal_rule (g.condition r 1) (g.condition r 2)
      and (g.joint r ≐ all_joint or g.joint r ≐ any_joint)
      and (g.condition r 1 ≐ 0 ⇒ (g.condition r 2 ≐ 0 and g.joint r ≐ all_joint))

  unfoldable pub no_expression_rule : ℕ → Rule
  no_expression_rule r = g.joint r ≐ 0 and g.condition r 0 ≐ 0 and g.condition r 1 ≐ 0 and g.condition r 2 ≐ 0

  -- 01: "Modes: 0 never, 1 must, 2 may, 3 .., 4 .. Modes 0–2 have zeros elsewhere. Modes 3 and 4 have .. conditions"; "3 zeros"
  unfoldable pub mode_rule : ℕ → Rule
  mode_rule r = g.mode r ≼ may_if_mode and (g.mode r ≼ may_mode ⇒ no_expression_rule r) and (must_if_mode ≼ g.mode r ⇒ expression_rule r)

  unfoldable pub row_end_rule : ℕ → Rule
  row_end_rule r = g.row_end r 0 ≐ 0 and g.row_end r 1 ≐ 0 and g.row_end r 2 ≐ 0

  -- 01: "Rows of required lines have mode 1." (Rows: "one per Prüfidentifikator and line, lines running fastest")
  unfoldable pub required_row_rule : ℕ → Rule
  required_row_rule r = g.required (r % g.lines + 1) ≐ 1 ⇒ g.mode r ≐ must_mode

  -- ---- Structure

  -- 01: "A line's fields rise in (element, component)."
  abbrev pub field_place : ℕ → ℕ
  field_place f = 256 * g.element f + g.component f

  unfoldable pub field_rises : ℕ → Rule
  field_rises f = field_place f + 1 ≼ field_place (f + 1)

  unfoldable pub rising_fields_rule : ℕ → Rule
  rising_fields_rule l = every (g.first_field l) (g.field_count l - 1) field_rises

  -- 01: "After a group of depth d comes a segment line of depth d+1, its trigger, required with maximum 1."
  unfoldable pub trigger_rule : ℕ → Rule
  trigger_rule l =
      group l
      ⇒ (l + 1 ≼ g.lines and segment (l + 1) and g.depth (l + 1) ≐ g.depth l + 1 and g.required (l + 1) ≐ 1 and g.maximum (l + 1) ≐ 1)

  -- 01: "After a segment line the depth stays or falls."
  unfoldable pub fall_rule : ℕ → Rule
  fall_rule l = (segment l and l + 1 ≼ g.lines) ⇒ g.depth (l + 1) ≼ g.depth l

  -- 01: "Line 1 is UNH, line L is UNT, both depth 0, required, maximum 1, without selector; no other line has those tags."
  unfoldable pub frame_rule : ℕ → ℕ → Rule
  frame_rule l tag = segment l and g.tag l ≐ tag and g.depth l ≐ 0 and g.required l ≐ 1 and g.maximum l ≐ 1 and g.selector_element l ≐ 0

  unfoldable pub frames_rule : Rule
  frames_rule = frame_rule 1 (tag_number UNH) and frame_rule g.lines (tag_number UNT)

  unfoldable pub only_frames_rule : ℕ → Rule
  only_frames_rule l = (g.tag l ≐ tag_number UNH ⇒ l ≐ 1) and (g.tag l ≐ tag_number UNT ⇒ l ≐ g.lines)

  -- 01: "One home: two segment lines of the same tag have the same selector place, not 0, and no code in common."
  unfoldable pub other_than_rule : ℕ → ℕ → ℕ → Rule
  other_than_rule low high d = never (low ≐ g.code_low d and high ≐ g.code_high d)

  abbrev pub other_code_rule : ℕ → ℕ → Rule
  other_code_rule c d = other_than_rule (g.code_low c) (g.code_high c) d

  unfoldable pub not_among_rule : ℕ → ℕ → Rule
  not_among_rule m c = every (g.first_code m) (g.code_count m) (other_code_rule c)

  unfoldable pub same_tag_rule : ℕ → ℕ → Rule
  same_tag_rule l m = segment l and segment m and g.tag l ≐ g.tag m

  unfoldable pub same_place_rule : ℕ → ℕ → Rule
  same_place_rule l m = 1 ≼ g.selector_element l and g.selector_element l ≐ g.selector_element m and g.selector_component l ≐ g.selector_component m

  unfoldable pub told_apart_rule : ℕ → ℕ → Rule
  told_apart_rule l m = same_place_rule l m and every (g.first_code l) (g.code_count l) (not_among_rule m)

  unfoldable pub pair_rule : ℕ → ℕ → Rule
  pair_rule l m = same_tag_rule l m ⇒ told_apart_rule l m

  unfoldable pub one_home_rule : ℕ → Rule
  one_home_rule l = every (l + 1) (g.lines - l) (pair_rule l)

  -- 01: "The Prüfidentifikator's line is a required segment line of maximum 1, and so is each group around it."
  unfoldable pub carrier_rule : Rule
  carrier_rule = between 1 g.carrier g.lines and segment g.carrier and g.required g.carrier ≐ 1 and g.maximum g.carrier ≐ 1

  unfoldable pub deeper_rule : ℕ → ℕ → Rule
  deeper_rule l m = g.depth l + 1 ≼ g.depth m

  -- a group is around a later line where all lines from its next one to that line lie deeper
  unfoldable pub around_rule : ℕ → ℕ → Rule
  around_rule l m = group l and l + 1 ≼ m and every (l + 1) (m - l) (deeper_rule l)

  unfoldable pub carrier_group_rule : ℕ → Rule
  carrier_group_rule l = around_rule l g.carrier ⇒ (g.required l ≐ 1 and g.maximum l ≐ 1)

-- a good book: every rule holds. The layers above use these clauses by name.
pub record GoodBook (bs : List ℕ) : Type 0 where
  pub edition : Holds (edition_rule bs)
  pub blocks : Holds (blocks_rule bs)
  pub long : Holds (length_rule bs)
  pub counts : Holds (counts_rule bs)
  pub kinds : Holds (each_line (guide_of bs) (kind_rule (guide_of bs)))
  pub depths : Holds (each_line (guide_of bs) (depth_rule (guide_of bs)))
  pub tags : Holds (each_line (guide_of bs) (tag_rule (guide_of bs)))
  pub requireds : Holds (each_line (guide_of bs) (required_rule (guide_of bs)))
  pub selectors : Holds (each_line (guide_of bs) (selector_rule (guide_of bs)))
  pub code_ranges : Holds (each_line (guide_of bs) (code_range_rule (guide_of bs)))
  pub maxima : Holds (each_line (guide_of bs) (maximum_rule (guide_of bs)))
  pub field_ranges : Holds (each_line (guide_of bs) (field_range_rule (guide_of bs)))
  pub plain_groups : Holds (each_line (guide_of bs) (group_rule (guide_of bs)))
  pub codes : Holds (every 0 (guide_of bs).codes (code_rule (guide_of bs)))
  pub fields : Holds (every 0 (guide_of bs).fields (field_rule (guide_of bs)))
  pub rising_fields : Holds (each_line (guide_of bs) (rising_fields_rule (guide_of bs)))
  pub identifiers : Holds (every 0 (guide_of bs).identifiers (identifier_form_rule (guide_of bs)))
  pub rising_identifiers : Holds (every 0 (guide_of bs).identifiers (identifier_rises (guide_of bs)))
  pub rows : Holds (every 0 ((guide_of bs).identifiers * (guide_of bs).lines) (mode_rule (guide_of bs)))
  pub row_ends : Holds (every 0 ((guide_of bs).identifiers * (guide_of bs).lines) (row_end_rule (guide_of bs)))
  pub triggers : Holds (each_line (guide_of bs) (trigger_rule (guide_of bs)))
  pub falls : Holds (each_line (guide_of bs) (fall_rule (guide_of bs)))
  pub frames : Holds (frames_rule (guide_of bs))
  pub only_frames : Holds (each_line (guide_of bs) (only_frames_rule (guide_of bs)))
  pub one_home : Holds (each_line (guide_of bs) (one_home_rule (guide_of bs)))
  pub carrier : Holds (carrier_rule (guide_of bs))
  pub carrier_groups : Holds (each_line (guide_of bs) (carrier_group_rule (guide_of bs)))
  pub required_rows : Holds (every 0 ((guide_of bs).identifiers * (guide_of bs).lines) (required_row_rule (guide_of bs)))

-- 01, number 1: what is answered of a book alone, 0 exactly when it is good and 1 otherwise
pub record Judged (bs : List ℕ) (r : ℕ) : Type 0 where
  pub accepted : r ≡ 0 → GoodBook bs
  pub good : GoodBook bs → r ≡ 0
  pub malformed : (r ≡ 0 → ⊥) → r ≡ 1
