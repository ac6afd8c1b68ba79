-- The starts that reading in pieces leaves. 02, T-09: "the starts of those segments that finished before any syntax fault, within the first 16,777,216
-- bytes and among the first 999,999, as far as they fit".
use Rattle.std.specs.Prelude.{ℕ, suc, ◌-◌, ◌<◌, ◌≡◌, List, length, get_or, take}
use Rattle.reading.specs.meaning.Service.{All}
use Rattle.reading.specs.meaning.Message.{Message, ValidSegment, write_segments, render}
use Rattle.reading.specs.meaning.WellFormed.{NoSegmentAt}
use Rattle.reading.specs.meaning.Starts.{starts_of}
use Rattle.reading.specs.declared.service.Service.{Service}
use Rattle.framing.specs.meaning.Limits.{most_bytes, most_segments}

-- "those segments that finished before any syntax fault, within the first 16,777,216 bytes": well-formed segments from the first byte on, behind
-- which no other one follows there
pub record Finished (s : Service) (text : List ℕ) (m : Message) : Type 0 where
  pub valid : All ValidSegment m
  pub rest : List ℕ
  pub same : take most_bytes text ≡ write_segments s m rest
  pub no_more : NoSegmentAt s rest 0

-- A text came with so many entries lent for each of its bytes, `lents`. How many came with the terminator of the segment with k others before it:
-- that is the last byte of the first k + 1 segments.
abbrev pub lent_at : Service → Message → List ℕ → ℕ → ℕ
lent_at s m lents k = get_or lents (length (render s (take (suc k) m)) - 1) 0

-- "if the table lent in that call has the entry"
abbrev pub FoundEntry : Service → Message → List ℕ → ℕ → Type 0
FoundEntry s m lents k = k < lent_at s m lents k

-- is the start of the segment with k others before it among those that are left?
pub record IsLeft (s : Service) (m : Message) (lents : List ℕ) (k : ℕ) : Type 0 where
  pub finished : k < length m
  -- "among the first 999,999"
  pub among : k < most_segments
  pub found : FoundEntry s m lents k

-- a table, or the memory for starts, before and now
pub record StartsLeft (s : Service) (m : Message) (lents memory now : List ℕ) : Type 0 where
  -- "a start counts from the whole message's first byte"
  pub left : (k : ℕ) → IsLeft s m lents k → get_or now k 0 ≡ get_or (starts_of s m) k 0
  -- "and changes nothing else"
  pub kept : (k : ℕ) → (IsLeft s m lents k → ⊥) → get_or now k 0 ≡ get_or memory k 0
  pub as_long : length now ≡ length memory
