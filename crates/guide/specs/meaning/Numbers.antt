-- 01: "All numbers little-endian." Past the end every byte is 0.
use Rattle.std.specs.Prelude.{ℕ, ◌+◌, ◌*◌, List, get_or}

abbrev pub byte_at : List ℕ → ℕ → ℕ
byte_at bs at = get_or bs at 0

abbrev pub u16At : List ℕ → ℕ → ℕ
u16At bs at = byte_at bs at + 256 * byte_at bs (at + 1)

abbrev pub u32_at : List ℕ → ℕ → ℕ
u32_at bs at = u16At bs at + 65536 * u16At bs (at + 2)
