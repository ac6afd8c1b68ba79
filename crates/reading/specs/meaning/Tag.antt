-- A segment's tag: the two that frame a message, and a tag as one number, first byte lowest, as a guide book's line has it.
use Rattle.std.specs.Prelude.{ℕ, ◌+◌, ◌*◌}
use Rattle.reading.specs.meaning.Message.{Tag}

abbrev pub UNH : Tag
UNH = record { first = 0x55; second = 0x4e; third = 0x48 }

abbrev pub UNT : Tag
UNT = record { first = 0x55; second = 0x4e; third = 0x54 }

-- as one number, first byte lowest
abbrev pub tag_number : Tag → ℕ
tag_number t = t.first + 256 * t.second + 65536 * t.third
