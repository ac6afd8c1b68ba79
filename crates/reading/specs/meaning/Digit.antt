-- A digit.
use Rattle.std.specs.Prelude.{ℕ, Bool, ◌&&◌, leb}

unfoldable pub is_digit : ℕ → Bool
is_digit b = leb 0x30 b && leb b 0x39
