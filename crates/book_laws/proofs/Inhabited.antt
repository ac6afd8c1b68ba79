-- Small book K is good, and so is the second small book, by computation; one byte of K changed, and it is not.
use native.Mathlib.Omega.{arith}
use mathlib.Core.Path.{refl}
use lib.ListN.{set}
use Rattle.book.specs.method.Run.{all}
use Rattle.guide.specs.meaning.Edition.{edition_numbered}
use Rattle.guide.specs.meaning.Guide.{guide_of}
use Rattle.book.specs.method.Each.{header_rule, records_rule, home_rule, framed_rule, line_rule, identifier_rule, row_rule, structure_rule}
use Rattle.book.specs.meaning.GoodBook.{GoodBook, edition_rule, blocks_rule, length_rule, counts_rule, range_rule, kind_rule, depth_rule, tag_byte_rule, tag_rule, required_rule, selector_rule, code_range_rule, maximum_rule, field_range_rule, group_rule, code_byte_rule, code_rule, field_rule, identifier_form_rule, identifier_rises, next_literal_rule, expression_rule, no_expression_rule, mode_rule, row_end_rule, required_row_rule, field_rises, rising_fields_rule, trigger_rule, fall_rule, frame_rule, frames_rule, only_frames_rule, other_than_rule, not_among_rule, same_tag_rule, same_place_rule, told_apart_rule, pair_rule, carrier_rule, deeper_rule, around_rule, carrier_group_rule}
use Rattle.book_laws.proofs.Bytes.{k, second}
use Rattle.book.proofs.Checking.{header_bad, records_bad, frame_bad, runs_good}

pub k_is_good : GoodBook k
unfolding k edition_numbered guide_of all header_rule records_rule home_rule framed_rule edition_rule blocks_rule length_rule counts_rule range_rule kind_rule depth_rule tag_byte_rule tag_rule required_rule selector_rule code_range_rule maximum_rule field_range_rule group_rule line_rule code_byte_rule code_rule field_rule identifier_form_rule identifier_rises identifier_rule next_literal_rule expression_rule no_expression_rule mode_rule row_end_rule required_row_rule row_rule field_rises rising_fields_rule trigger_rule fall_rule frame_rule frames_rule only_frames_rule other_than_rule not_among_rule same_tag_rule same_place_rule told_apart_rule pair_rule carrier_rule deeper_rule around_rule carrier_group_rule structure_rule
k_is_good = runs_good k refl refl refl

pub second_is_good : GoodBook second
unfolding second edition_numbered guide_of all header_rule records_rule home_rule framed_rule edition_rule blocks_rule length_rule counts_rule range_rule kind_rule depth_rule tag_byte_rule tag_rule required_rule selector_rule code_range_rule maximum_rule field_range_rule group_rule line_rule code_byte_rule code_rule field_rule identifier_form_rule identifier_rises identifier_rule next_literal_rule expression_rule no_expression_rule mode_rule row_end_rule required_row_rule row_rule field_rises rising_fields_rule trigger_rule fall_rule frame_rule frames_rule only_frames_rule other_than_rule not_among_rule same_tag_rule same_place_rule told_apart_rule pair_rule carrier_rule deeper_rule around_rule carrier_group_rule structure_rule
second_is_good = runs_good second refl refl refl

-- ---- one byte of K changed

-- the total length, 340, says 341
pub length_changed : GoodBook (set k 2 85) → ⊥
unfolding k edition_numbered header_rule edition_rule blocks_rule length_rule
length_changed g = let z = (header_bad (set k 2 85) refl).good g in omega arith

-- the row of a required line, the first, says may
pub mode_changed : GoodBook (set k 284 2) → ⊥
unfolding k edition_numbered guide_of all records_rule range_rule kind_rule depth_rule tag_byte_rule tag_rule required_rule selector_rule code_range_rule maximum_rule field_range_rule group_rule line_rule code_byte_rule code_rule field_rule identifier_form_rule identifier_rises identifier_rule next_literal_rule expression_rule no_expression_rule mode_rule row_end_rule required_row_rule row_rule
mode_changed g = let z = (records_bad (set k 284 2) refl).good g in omega arith

-- the first line's tag is UNI
pub tag_changed : GoodBook (set k 32 73) → ⊥
unfolding k edition_numbered guide_of framed_rule frames_rule frame_rule
tag_changed g = let z = (frame_bad (set k 32 73) refl).good g in omega arith
