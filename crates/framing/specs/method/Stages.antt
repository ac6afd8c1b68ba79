-- The message alone, without a book: numbers 3 to 9 of 01's table.
use Rattle.std.specs.Prelude.{ℕ, suc, List, [], ◌∷◌, Bool, not, cond, ◌&&◌, ◌||◌, eqb, leb, ltb, length, Result, Ok, Err}
use Rattle.framing.specs.meaning.Limits.{most_bytes, most_segments}
use Rattle.reading.specs.method.Machine.{scanned, component_span}
use Rattle.reading.specs.meaning.Component.{same_component}
use Rattle.reading.specs.method.Part.{bytes_in}
use Rattle.reading.specs.meaning.Tag.{tag_number, UNH, UNT}
use Rattle.reading.specs.method.Tag.{tag_at}
use Rattle.reading.specs.declared.service.Service.{Service}
use Rattle.reading.specs.method.Outcome.{Outcome, Segments, BadAt}
use Rattle.reading.specs.method.Starts.{starts_from}
use Rattle.framing.specs.meaning.Record.{answer}
use Rattle.framing.specs.method.Refusals.{verdict_of}
use Rattle.framing.specs.method.Decimal.{is_decimal}
use Rattle.framing.specs.declared.refusal.Refusal.{Refusal}
use Rattle.framing.specs.declared.refusal.Refusal.TheVariants.{Misplaced}
use Rattle.framing.specs.declared.message.Room.{Room}
use Rattle.framing.specs.declared.verdict.Verdict.{Verdict}

-- 01: "It stops at the first fault in this order."
abbrev pub or_else : Verdict → Verdict → Verdict
or_else v w = cond (eqb v.number 0) w v

-- 01, number 3: "message empty or over 16,777,216 bytes" is not the case
abbrev pub is_sized : List ℕ → Bool
is_sized bs = ltb 0 (length bs) && leb (length bs) most_bytes

-- 01, number 6: "a table (starts, homes, parents; 32-bit entries) has fewer than n entries" is not the case
abbrev pub has_room : Room → ℕ → Bool
has_room room n = leb n room.starts && (leb n room.homes && leb n room.parents)

-- ---- number 7

-- 01: "segment 1 not UNH, segment n not UNT, or another is either; n = 1 always": UNH stands exactly at 1, and UNT exactly at n
abbrev pub is_misplaced_at : Bool → Bool → ℕ → Bool
is_misplaced_at is_first is_last tag =
    cond is_first (not (eqb tag (tag_number UNH))) (eqb tag (tag_number UNH))
    || cond is_last (not (eqb tag (tag_number UNT))) (eqb tag (tag_number UNT))

abbrev pub is_misplaced : ℕ → ℕ → ℕ → Bool
is_misplaced n k tag = is_misplaced_at (eqb k 1) (eqb k n) tag

-- where the last segment starts; or the fault, number 7
abbrev pub Frame : Type 0
Frame = Result ℕ Refusal

-- "smallest such place" among the segments with these starts, of n segments, where k stand before and the last of those starts at
-- `last`; or where the last of all starts
unfoldable pub frame_from : List ℕ → ℕ → ℕ → ℕ → List ℕ → Frame
frame_from bs n k last [] = Ok last
frame_from bs n k last (at ∷ starts) = cond (is_misplaced n (suc k) (tag_at bs at)) (Err (Misplaced (suc k))) (frame_from bs n (suc k) at starts)

abbrev pub frame_of : Service → List ℕ → ℕ → Frame
frame_of s bs n = frame_from bs n 0 0 (starts_from s bs n 0)

-- ---- numbers 8 and 9

-- a component as it is written, of the segment that starts at an offset
abbrev pub component_at : Service → List ℕ → ℕ → ℕ → ℕ → List ℕ
component_at s bs at e c = bytes_in (component_span s bs at e c) bs

-- 01, number 8: "UNT element 1, component 1, is not n in decimal without leading zeros"; number 9: "UNT element 2 differs from UNH
-- element 1 (first components)"
abbrev pub closing_stage : Service → List ℕ → ℕ → ℕ → Verdict
closing_stage s bs n last =
    cond (is_decimal n (component_at s bs last 1 1))
    (cond (same_component (component_at s bs last 2 1) (component_at s bs 0 1 1)) (answer 0 n) (answer 9 n))
    (answer 8 n)

-- ---- 3 to 9 in their order; number 0 and the segment count if there is none of these

abbrev pub frame_stage : Service → List ℕ → ℕ → Frame → Verdict
frame_stage s bs n (Err refusal) = verdict_of refusal
frame_stage s bs n (Ok last) = closing_stage s bs n last

abbrev pub count_stage : Service → List ℕ → Room → ℕ → Verdict
count_stage s bs room n =
    cond (leb n most_segments) (cond (has_room room n) (frame_stage s bs n (frame_of s bs n)) (answer 6 n)) (answer 5 0)

abbrev pub scan_stage : Service → List ℕ → Room → Outcome → Verdict
scan_stage s bs room (BadAt k) = answer 4 k
scan_stage s bs room (Segments n) = count_stage s bs room n

unfoldable pub message_stage : Service → List ℕ → Room → Verdict
message_stage s bs room = cond (is_sized bs) (scan_stage s bs room (scanned s bs)) (answer 3 0)
