-- The stages of the message alone: each return of the code is its case of the definition.
use Prim.Native.Nat.{ℕ, ◌≤◌, ◌<◌}
use mathlib.Core.Path.{◌≡◌, refl, sym, ap, ◌∙◌}
use mathlib.Core.List.{List}
use mathlib.Core.Bool.{Bool, true, false, false≢true, cond, ◌&&◌}
use lib.Dec.{leb, ltb}
use lib.ListN.{length}
use borrow.Author.Tests.{lt-leb, le-leb, leb-true}
use Rattle.std.specs.Prelude.{Ok, Err}
use Rattle.framing.specs.meaning.Limits.{most_bytes, most_segments}
use Rattle.reading.specs.method.Machine.{scanned}
use Rattle.reading.specs.declared.service.Service.{Service}
use Rattle.reading.specs.method.Outcome.{Outcome, Segments, BadAt}
use Rattle.framing.specs.meaning.Record.{answer}
use Rattle.framing.specs.method.Refusals.{verdict_of}
use Rattle.framing.specs.method.Stages.{is_sized, has_room, frame_of, frame_stage, count_stage, scan_stage, message_stage}
use Rattle.framing.specs.method.Survey.{survey_by, surveyed}
use Rattle.framing.specs.declared.message.Room.{Room}
use Rattle.framing.specs.declared.refusal.Refusal.{Refusal}
use Rattle.framing.specs.declared.refusal.Refusal.TheVariants.{BadByte}
use Rattle.framing.specs.declared.survey.Survey.{Survey}

pub sized_within : (bs : List ℕ) → is_sized bs ≡ true → length bs ≤ most_bytes
sized_within bs e = go (ltb 0 (length bs)) (leb (length bs) most_bytes) refl e
  where
    go : (x y : Bool) → leb (length bs) most_bytes ≡ y → (x && y) ≡ true → length bs ≤ most_bytes
    go true true p h = leb-true (length bs) most_bytes p
    go true false p h = absurd (false≢true h)
    go false y p h = absurd (false≢true h)

module _ (s : Service) (bs : List ℕ) where
  module _ (room : Room) where
    pub count_high : (n : ℕ) → most_segments < n → answer 5 0 ≡ count_stage s bs room n
    count_high n h = sym (rw (lt-leb n most_segments h))

    pub count_low : (n : ℕ) (has v : Bool) → n ≤ most_segments → has ≡ has_room room n → has ≡ v
        → cond v (frame_stage s bs n (frame_of s bs n)) (answer 6 n) ≡ count_stage s bs room n
    count_low n has v h e i =
        ap (λ (x : Bool). cond x (frame_stage s bs n (frame_of s bs n)) (answer 6 n)) (sym i ∙ e) ∙ sym (rw (le-leb n most_segments h))

    pub message_unsized : (v : Bool) → v ≡ false → v ≡ is_sized bs → answer 3 0 ≡ message_stage s bs room
    unfolding message_stage
    message_unsized v h e = ap (λ (x : Bool). cond x (scan_stage s bs room (scanned s bs)) (answer 3 0)) (sym h ∙ e)

    module _ (v : Bool) (h : v ≡ true) (e : v ≡ is_sized bs) where
      message_scanned : scan_stage s bs room (scanned s bs) ≡ message_stage s bs room
      unfolding message_stage
      message_scanned = ap (λ (x : Bool). cond x (scan_stage s bs room (scanned s bs)) (answer 3 0)) (sym h ∙ e)

      -- the scan's answer is in what one pass finds
      pub message_bad : (refusal : Refusal) → Err refusal ≡ surveyed s bs → verdict_of refusal ≡ message_stage s bs room
      message_bad refusal i = go (scanned s bs) i ∙ message_scanned
        where
          go : (o : Outcome) → Err refusal ≡ survey_by s bs o → verdict_of refusal ≡ scan_stage s bs room o
          go (BadAt k) j = let same : refusal ≡ BadByte k = cc in ap verdict_of same
          go (Segments n) j = absurd (let no : ⊥ = cc in no)

      pub message_counted : (x : Survey) → Ok x ≡ surveyed s bs → (count_stage s bs room x.segments ≡ message_stage s bs room) × (x.frame ≡ frame_of s bs x.segments)
      message_counted x i = let found = go (scanned s bs) i in (found.0 ∙ message_scanned, found.1)
        where
          go : (o : Outcome) → Ok x ≡ survey_by s bs o → (count_stage s bs room x.segments ≡ scan_stage s bs room o) × (x.frame ≡ frame_of s bs x.segments)
          go (BadAt k) j = absurd (let no : ⊥ = cc in no)
          go (Segments n) j =
              let same : x ≡ record { segments = n; frame = frame_of s bs n } = cc in
              let count : x.segments ≡ n = ap (λ (y : Survey). y.segments) same in
              (ap (count_stage s bs room) count, ap (λ (y : Survey). y.frame) same ∙ sym (ap (frame_of s bs) count))
