-- The tag that stands at an offset of any bytes.
use Rattle.std.specs.Prelude.{ℕ, ◌+◌, List, get_or}
use Rattle.reading.specs.meaning.Tag.{tag_number}

-- the tag of a segment that starts at an offset; bytes past the end count as 0
abbrev pub tag_at : List ℕ → ℕ → ℕ
tag_at bs at = tag_number (record { first = get_or bs at 0; second = get_or bs (at + 1) 0; third = get_or bs (at + 2) 0 })
