-- Numbers 3 to 6 of the table, as framing/specs/meaning/Table.antt has them in front of 7 to 9, for any test of number 6. That they are the same is the law
-- `table_reads` of pieces_laws/proofs/OneTable.antt, by computation.
use Rattle.std.specs.Prelude.{ℕ, ◌≤◌, ◌≡◌, ◌⊎◌, List, length}
use Rattle.reading.specs.meaning.Message.{Message}
use Rattle.reading.specs.meaning.WellFormed.{WellFormed, FirstBad}
use Rattle.reading.specs.declared.service.Service.{Service}
use Rattle.framing.specs.meaning.Limits.{most_segments}
use Rattle.framing.specs.meaning.Record.{answer}
use Rattle.framing.specs.meaning.Table.{Unless, Sized}
use Rattle.framing.specs.declared.verdict.Verdict.{Verdict}

-- HasRoomFor: the test of number 6; of a message that has none of these faults `Rest` says what the answer is
module _ (HasRoomFor : Message → Type 0) (Rest : Message → Verdict → Type 0) where
  -- 5 and 6
  abbrev pub CountSays : Message → Verdict → Type 0
  CountSays m v = Unless (length m ≤ most_segments) (v ≡ answer 5 0) (Unless (HasRoomFor m) (v ≡ answer 6 (length m)) (Rest m v))

  -- 3 and 4
  abbrev pub ReadingSays : Service → List ℕ → Verdict → Type 0
  ReadingSays s bs v =
      Unless (Sized bs) (v ≡ answer 3 0) (((k : ℕ) × FirstBad s bs k × (v ≡ answer 4 k)) ⊎ ((w : WellFormed s bs) × CountSays w.message v))
