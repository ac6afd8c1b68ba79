-- Which bytes are a message, and where others go wrong. 01, "Bytes of a message" and number 4 of the table.
use Rattle.std.specs.Prelude.{ℕ, suc, ◌+◌, ◌≤◌, ◌<◌, ◌≡◌, List, [], ◌++◌, length, take, drop}
use Rattle.reading.specs.meaning.Message.{Message, Segment, ValidMessage, ValidSegment, write_elements, write_segment, render}
use Rattle.reading.specs.declared.service.Service.{Service}

-- the bytes are how a valid message is written
pub record WellFormed (s : Service) (bs : List ℕ) : Type 0 where
  pub message : Message
  pub valid : ValidMessage message
  pub same : bs ≡ render s message

-- to begin a well-formed message is to be completed to one by some rest
abbrev pub Begins : Service → List ℕ → Type 0
Begins s bs = (rest : List ℕ) × WellFormed s (bs ++ rest)

-- 01, number 4: "smallest offset k such that the first k+1 bytes begin no well-formed message; if none, the length"
pub record FirstBad (s : Service) (bs : List ℕ) (k : ℕ) : Type 0 where
  pub ill_formed : WellFormed s bs → ⊥
  pub within : k ≤ length bs
  pub before : (j : ℕ) → j < k → Begins s (take (suc j) bs)
  pub there : k < length bs → Begins s (take (suc k) bs) → ⊥

-- a well-formed segment starts at an offset where it is written from there on, whatever rest stands behind it
pub record SegmentAt (s : Service) (bs : List ℕ) (at : ℕ) (g : Segment) : Type 0 where
  pub valid : ValidSegment g
  pub rest : List ℕ
  pub same : drop at bs ≡ write_segment s g rest

abbrev pub NoSegmentAt : Service → List ℕ → ℕ → Type 0
NoSegmentAt s bs at = (g : Segment) → SegmentAt s bs at g → ⊥

-- where the terminator of a segment stands whose tag starts at `at`
abbrev pub end_of : Service → ℕ → Segment → ℕ
end_of s at g = at + 3 + length (write_elements s g.elements [])
