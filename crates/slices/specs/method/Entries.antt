-- An entry of a lent table. 01: "32-bit entries".
use Rattle.std.specs.Prelude.{ℕ, ◌%◌, ◌^◌}

-- a size as such an entry; number 3 keeps a message's offsets far below 2 ^ 32
abbrev pub entry : ℕ → ℕ
entry x = x % 2 ^ 32
