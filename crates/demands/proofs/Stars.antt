-- Law stars: 01's starred messages, as one table under one statement, computed from the very definition that the promise of
-- `judge` cites. The book is K as the book compiler writes it.
use Prim.Native.Nat.{ℕ}
use mathlib.Core.Path.{◌≡◌, refl}
use mathlib.Core.List.{List, [], ◌∷◌, ◌++◌}
use Rattle.book_laws.proofs.Bytes.{k}
use Rattle.guide.specs.meaning.Edition.{edition_numbered}
use Rattle.guide.specs.meaning.Guide.{guide_of}
use Rattle.book.specs.method.Run.{all}
use Rattle.book.specs.method.Each.{header_rule, records_rule, home_rule, framed_rule, line_rule, identifier_rule, row_rule, structure_rule}
use Rattle.book.specs.meaning.GoodBook.{edition_rule, blocks_rule, length_rule, counts_rule, range_rule, kind_rule, depth_rule, tag_byte_rule, tag_rule, required_rule, selector_rule, code_range_rule, maximum_rule, field_range_rule, group_rule, code_byte_rule, code_rule, field_rule, identifier_form_rule, identifier_rises, next_literal_rule, expression_rule, no_expression_rule, mode_rule, row_end_rule, required_row_rule, field_rises, rising_fields_rule, trigger_rule, fall_rule, frame_rule, frames_rule, only_frames_rule, other_than_rule, not_among_rule, same_tag_rule, same_place_rule, told_apart_rule, pair_rule, carrier_rule, deeper_rule, around_rule, carrier_group_rule}
use Rattle.reading.specs.meaning.Service.{standard, is_data, is_tag_byte}
use Rattle.reading.specs.meaning.Component.{value_from, same_component}
use Rattle.reading.specs.method.Machine.{kind_of, scan_on, end_on, is_here, seek_on}
use Rattle.placing.specs.meaning.Fitting.{least}
use Rattle.placing.specs.method.Fitting.{is_selected_at, fits_at}
use Rattle.guide.specs.method.Codes.{spells, is_code, is_any_code}
use Rattle.guide.specs.method.Targets.{target}
use Rattle.placing.specs.method.Walking.{is_placeable, is_clear, is_passed, can_close_all, admits, stacked, advanced, walked}
use Rattle.placing.specs.method.Tree.{opened_by, noted}
use Rattle.guide.specs.meaning.Tree.{climb}
use Rattle.reading.specs.method.Starts.{starts_from}
use Rattle.placing.specs.method.Passes.{tested_from}
use Rattle.reading.specs.meaning.Digit.{is_digit}
use Rattle.fields.specs.meaning.Number.{figures}
use Rattle.fields.specs.method.Number.{starts_digit, after_digits, is_none, are_digits, ends_number, without_sign, is_number}
use Rattle.fields.specs.method.Parts.{cut, has_bytes, any_bytes}
use Rattle.fields.specs.method.Testing.{has_code, fits_text, fits_number, fits, is_missing, is_broken, names_first, test_component, test_absent, test_components, test_rest, test_elements, fault_at, first_fault}
use Rattle.rules.specs.meaning.Rows.{literal}
use Rattle.rules.specs.method.Scanning.{reading, instances_from, scanned_in, scanned_from, first_unknown}
use Rattle.rules.specs.method.Identifiers.{identified_from}
use Rattle.framing.specs.meaning.Record.{place, verdict, answer}
use Rattle.framing.specs.method.Decimal.{is_decimal_from}
use Rattle.framing.specs.method.Stages.{frame_from, message_stage}
use Rattle.rules.specs.method.Conditions.{are_truth_values}
use Rattle.placing.specs.method.Tables.{place_from}
use Rattle.judging.specs.method.Table.{refusal, placed_stage, judged}
use Rattle.framing.specs.declared.message.Room.{Room}
use Rattle.framing.specs.declared.verdict.Verdict.{Verdict}

-- UNH+1'BGM+7'RFF+Z13:10001'
abbrev pub H : List ℕ
H = 85 ∷ 78 ∷ 72 ∷ 43 ∷ 49 ∷ 39 ∷ 66 ∷ 71 ∷ 77 ∷ 43 ∷ 55 ∷ 39 ∷ 82 ∷ 70 ∷ 70 ∷ 43 ∷ 90 ∷ 49 ∷ 51 ∷ 58 ∷ 49 ∷ 48 ∷ 48 ∷ 48 ∷ 49 ∷ 39 ∷ []

-- LIN+1', with any digit
abbrev pub LIN : ℕ → List ℕ
LIN d = 76 ∷ 73 ∷ 78 ∷ 43 ∷ d ∷ 39 ∷ []

-- QTY+145:5'
abbrev pub QTY : List ℕ
QTY = 81 ∷ 84 ∷ 89 ∷ 43 ∷ 49 ∷ 52 ∷ 53 ∷ 58 ∷ 53 ∷ 39 ∷ []

-- UNT+4+1', with any two digits
abbrev pub UNT : ℕ → ℕ → List ℕ
UNT d e = 85 ∷ 78 ∷ 84 ∷ 43 ∷ d ∷ 43 ∷ e ∷ 39 ∷ []

-- the three tables have eight entries each
abbrev pub eight : Room
eight = record { starts = 8; homes = 8; parents = 8 }

-- a message, what is known of condition 1, and the whole record
abbrev pub Star : Type 0
Star = List ℕ × ℕ × Verdict

abbrev pub table : List Star
table =
    -- H UNT+4+1', whatever is known
    (H ++ UNT 52 49, 0, answer 0 4) ∷ (H ++ UNT 52 49, 1, answer 0 4) ∷ (H ++ UNT 52 49, 2, answer 0 4)
    -- H UNT+5+1' and H UNT+5+2'
    ∷ (H ++ UNT 53 49, 2, answer 8 4) ∷ (H ++ UNT 53 50, 2, answer 8 4)
    -- H UNT+4+2'
    ∷ (H ++ UNT 52 50, 2, answer 9 4)
    -- H LIN+1' QTY+145:5' UNT+6+1': true, false, unknown
    ∷ (H ++ LIN 49 ++ QTY ++ UNT 54 49, 1, answer 0 6)
    ∷ (H ++ LIN 49 ++ QTY ++ UNT 54 49, 0, verdict 14 (place 5 6 0 0) 0)
    ∷ (H ++ LIN 49 ++ QTY ++ UNT 54 49, 2, verdict 15 (place 5 6 0 0) 1)
    -- H LIN+1' UNT+5+1': true, false
    ∷ (H ++ LIN 49 ++ UNT 53 49, 1, verdict 14 (place 4 6 0 0) 0) ∷ (H ++ LIN 49 ++ UNT 53 49, 0, answer 0 5)
    -- H LIN+1' QTY+145:5' LIN+2' UNT+7+1': true, false, unknown
    ∷ (H ++ LIN 49 ++ QTY ++ LIN 50 ++ UNT 55 49, 1, verdict 14 (place 6 6 0 0) 0)
    ∷ (H ++ LIN 49 ++ QTY ++ LIN 50 ++ UNT 55 49, 0, verdict 14 (place 5 6 0 0) 0)
    ∷ (H ++ LIN 49 ++ QTY ++ LIN 50 ++ UNT 55 49, 2, verdict 15 (place 5 6 0 0) 1)
    -- H with three LIN and UNT+7+1'
    ∷ (H ++ LIN 49 ++ LIN 50 ++ LIN 51 ++ UNT 55 49, 2, answer 11 6)
    -- the empty message; UNH+1; UNH+1?A'
    ∷ ([], 2, answer 3 0) ∷ (85 ∷ 78 ∷ 72 ∷ 43 ∷ 49 ∷ [], 2, answer 4 5) ∷ (85 ∷ 78 ∷ 72 ∷ 43 ∷ 49 ∷ 63 ∷ 65 ∷ 39 ∷ [], 2, answer 4 6)
    ∷ []

abbrev pub Each : List Star → Type 0
Each [] = Unit {0}
Each (x ∷ xs) = (judged standard x.0 k (x.1 ∷ []) eight ≡ x.2) × Each xs

pub stars : Each table
unfolding k edition_numbered guide_of all header_rule records_rule home_rule framed_rule edition_rule blocks_rule length_rule counts_rule range_rule kind_rule depth_rule tag_byte_rule tag_rule required_rule selector_rule code_range_rule maximum_rule field_range_rule group_rule line_rule code_byte_rule code_rule field_rule identifier_form_rule identifier_rises identifier_rule next_literal_rule expression_rule no_expression_rule mode_rule row_end_rule required_row_rule row_rule field_rises rising_fields_rule trigger_rule fall_rule frame_rule frames_rule only_frames_rule other_than_rule not_among_rule same_tag_rule same_place_rule told_apart_rule pair_rule carrier_rule deeper_rule around_rule carrier_group_rule structure_rule is_data is_tag_byte value_from kind_of scan_on end_on is_here seek_on same_component least spells is_code is_any_code is_selected_at fits_at target is_placeable is_clear is_passed can_close_all admits stacked advanced walked opened_by noted climb starts_from tested_from is_digit figures starts_digit after_digits is_none are_digits ends_number without_sign is_number cut has_bytes any_bytes has_code fits_text fits_number fits is_missing is_broken names_first test_component test_absent test_components test_rest test_elements fault_at first_fault first_unknown literal reading instances_from scanned_in scanned_from identified_from is_decimal_from frame_from message_stage refusal place_from placed_stage judged
stars = (refl, (refl, (refl, (refl, (refl, (refl, (refl, (refl, (refl, (refl, (refl, (refl, (refl, (refl, (refl, (refl, (refl, (refl, tt))))))))))))))))))
