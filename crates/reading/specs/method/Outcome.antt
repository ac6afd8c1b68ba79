-- What any bytes come to, as the reading answers it. What each case says: reading_laws/specs/laws/Outcome.antt.
use Rattle.std.specs.Prelude.{ℕ}

-- a well-formed message of so many segments, or number 4's place
pub data Outcome : Type 0 where
  Segments : ℕ → Outcome
  BadAt : ℕ → Outcome
