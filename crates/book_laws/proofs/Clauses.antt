-- The clauses of a good book, by name: the layers above use these and never open a rule.
use Prim.Native.Nat.{ℕ, ◌+◌, ◌*◌, ◌-◌, ◌≤◌, ◌<◌}
use native.Mathlib.Omega.{arith}
use mathlib.Core.Path.{◌≡◌}
use mathlib.Core.List.{List}
use mathlib.Core.Logic.{◌⊎◌}
use lib.ListN.{length}
use Rattle.reading.specs.meaning.Tag.{UNH, UNT, tag_number}
use Rattle.guide.specs.meaning.Words.{segment_kind, group_kind}
use Rattle.book.specs.meaning.Rule.{Holds}
use Rattle.guide.specs.meaning.Guide.{guide_of}
use Rattle.book.specs.meaning.GoodBook.{GoodBook, kind_rule, depth_rule, tag_rule, required_rule, selector_rule, code_range_rule, maximum_rule, field_range_rule, group_rule, range_rule, code_rule, field_rule, identifier_form_rule, identifier_rises, mode_rule, row_end_rule, required_row_rule, rising_fields_rule, field_rises, field_place, trigger_rule, fall_rule, only_frames_rule, one_home_rule, pair_rule, carrier_group_rule, carrier_rule, frames_rule, frame_rule, counts_rule, length_rule}

module _ (bs : List ℕ) (good : GoodBook bs) where
  -- ---- one line by itself

  module _ (l : ℕ) (from : 1 ≤ l) (to : l ≤ (guide_of bs).lines) where
    pub line_kind : ((guide_of bs).kind l ≡ segment_kind) ⊎ ((guide_of bs).kind l ≡ group_kind)
    unfolding kind_rule
    line_kind = good.kinds l from (omega arith)

    pub line_depth : (guide_of bs).depth l ≤ 7
    unfolding depth_rule
    line_depth = good.depths l from (omega arith)

    pub line_tag : Holds (tag_rule (guide_of bs) l)
    line_tag = good.tags l from (omega arith)

    pub line_required : (guide_of bs).required l ≤ 1
    unfolding required_rule
    line_required = good.requireds l from (omega arith)

    pub line_selector : Holds (selector_rule (guide_of bs) l)
    line_selector = good.selectors l from (omega arith)

    pub line_codes : (guide_of bs).first_code l + (guide_of bs).code_count l ≤ (guide_of bs).codes
    unfolding code_range_rule range_rule
    line_codes = (good.code_ranges l from (omega arith)).0

    pub line_maximum : (1 ≤ (guide_of bs).maximum l) × ((guide_of bs).maximum l ≤ 999999)
    unfolding maximum_rule
    line_maximum = good.maxima l from (omega arith)

    pub line_fields : (guide_of bs).first_field l + (guide_of bs).field_count l ≤ (guide_of bs).fields
    unfolding field_range_rule range_rule
    line_fields = (good.field_ranges l from (omega arith)).0

    pub group_is_plain : (guide_of bs).kind l ≡ group_kind → ((guide_of bs).code_count l ≡ 0) × ((guide_of bs).field_count l ≡ 0)
    unfolding group_rule
    group_is_plain = good.plain_groups l from (omega arith)

    -- ---- among the others

    pub fields_rise : (f : ℕ) → (guide_of bs).first_field l ≤ f → f < (guide_of bs).first_field l + ((guide_of bs).field_count l - 1)
        → field_place (guide_of bs) f + 1 ≤ field_place (guide_of bs) (f + 1)
    unfolding rising_fields_rule field_rises
    fields_rise = good.rising_fields l from (omega arith)

    pub group_trigger : Holds (trigger_rule (guide_of bs) l)
    group_trigger = good.triggers l from (omega arith)

    pub line_falls : Holds (fall_rule (guide_of bs) l)
    line_falls = good.falls l from (omega arith)

    pub only_frames : ((guide_of bs).tag l ≡ tag_number UNH → l ≡ 1) × ((guide_of bs).tag l ≡ tag_number UNT → l ≡ (guide_of bs).lines)
    unfolding only_frames_rule
    only_frames = good.only_frames l from (omega arith)

    pub one_home : (m : ℕ) → l + 1 ≤ m → m ≤ (guide_of bs).lines → Holds (pair_rule (guide_of bs) l m)
    unfolding one_home_rule
    one_home m a b = good.one_home l from (omega arith) m a (omega arith)

    pub carrier_group : Holds (carrier_group_rule (guide_of bs) l)
    carrier_group = good.carrier_groups l from (omega arith)

  -- ---- the other records

  pub code_rule_lem : (c : ℕ) → c < (guide_of bs).codes → Holds (code_rule (guide_of bs) c)
  code_rule_lem c h = good.codes c (omega arith) (omega arith)

  pub field_rule_lem : (f : ℕ) → f < (guide_of bs).fields → Holds (field_rule (guide_of bs) f)
  field_rule_lem f h = good.fields f (omega arith) (omega arith)

  -- 01: "element, component (both 1–255)"
  pub field_place_lem : (f : ℕ) → f < (guide_of bs).fields
      → (1 ≤ (guide_of bs).element f) × ((guide_of bs).element f ≤ 255) × (1 ≤ (guide_of bs).component f) × ((guide_of bs).component f ≤ 255)
  unfolding field_rule
  field_place_lem f h = let r = (field_rule_lem f h).0 in (r.0.0, r.0.1, r.1.0.0, r.1.0.1)

  pub identifier_rule_lem : (p : ℕ) → p < (guide_of bs).identifiers → Holds (identifier_form_rule (guide_of bs) p) × Holds (identifier_rises (guide_of bs) p)
  identifier_rule_lem p h = (good.identifiers p (omega arith) (omega arith), good.rising_identifiers p (omega arith) (omega arith))

  pub row_rule_lem : (r : ℕ) → r < (guide_of bs).identifiers * (guide_of bs).lines
      → Holds (mode_rule (guide_of bs) r) × Holds (row_end_rule (guide_of bs) r) × Holds (required_row_rule (guide_of bs) r)
  row_rule_lem r h = (good.rows r (omega arith) (omega arith), good.row_ends r (omega arith) (omega arith), good.required_rows r (omega arith) (omega arith))

  -- ---- the whole

  -- 01: "It is at most 65,535 and equals the slice's length."
  pub length_within : length bs ≤ 65535
  unfolding length_rule
  length_within = good.long.0

  pub first_frame : Holds (frame_rule (guide_of bs) 1 (tag_number UNH))
  unfolding frames_rule
  first_frame = good.frames.0

  pub last_frame : Holds (frame_rule (guide_of bs) (guide_of bs).lines (tag_number UNT))
  unfolding frames_rule
  last_frame = good.frames.1

  pub carrier_rule_lem : Holds (carrier_rule (guide_of bs))
  carrier_rule_lem = good.carrier

  pub counts : (2 ≤ (guide_of bs).lines) × ((guide_of bs).lines ≤ 256) × (1 ≤ (guide_of bs).identifiers) × ((guide_of bs).conditions ≤ 64)
  unfolding counts_rule guide_of
  counts = let c = good.counts in (c.1.0, c.1.1.0, c.1.1.1, c.0)
