-- The answers of the message's stage, of the cursor and of placing as single numbers, for tests in Rust.
use Rattle.std.specs.Prelude.{ℕ, ◌+◌, ◌*◌, ◌^◌, Option, Some, None}
use Rattle.framing.specs.declared.message.Room.{Room}
use Rattle.framing.specs.declared.verdict.Verdict.{Verdict}
use Rattle.reading.specs.declared.cursor.Cursor.{Cursor}
use Rattle.reading.specs.declared.span.Span.{Span}

-- the table's number above, the place below
abbrev pub packed : Verdict → ℕ
packed v = v.number * 2 ^ 32 + v.place.at

-- room for every message that number 5 lets pass
abbrev pub ample : Room
ample = record { starts = 1000000; homes = 1000000; parents = 1000000 }

abbrev pub next_of : Option (Span × Cursor) → ℕ
next_of (Some (x, next)) = next.at
next_of None = 0
