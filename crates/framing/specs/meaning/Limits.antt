-- How much is judged at most. 01, numbers 3 and 5.
use Rattle.std.specs.Prelude.{ℕ}

-- 01, number 3: "over 16,777,216 bytes"
abbrev pub most_bytes : ℕ
most_bytes = 16777216

-- 01, number 5: "n over 999,999"
abbrev pub most_segments : ℕ
most_segments = 999999
