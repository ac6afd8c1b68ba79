-- The tally. 02, T-06: "A daily count per verdict number, in 64 lent bytes: a four-byte little-endian count for each of the numbers 0 to 15."
use Rattle.std.specs.Prelude.{ℕ, ◌+◌, ◌*◌, ◌/◌, ◌%◌, not, cond, List, length, get_or, set, replicate, eqb, leb}

-- ---- its bytes

-- a count for each of the numbers 0 to 15
abbrev pub counts : ℕ
counts = 16

-- "four-byte"
abbrev pub count_bytes : ℕ
count_bytes = 4

abbrev pub tally_length : ℕ
tally_length = count_bytes * counts

-- where the count of a number begins
abbrev pub count_place : ℕ → ℕ
count_place number = count_bytes * number

-- the count of a number: four bytes, the lowest first
abbrev pub count_of : List ℕ → ℕ → ℕ
count_of tally number =
    get_or tally (count_place number) 0
    + 256 * get_or tally (count_place number + 1) 0
    + 65536 * get_or tally (count_place number + 2) 0
    + 16777216 * get_or tally (count_place number + 3) 0

-- the same bytes, but for this count
abbrev pub with_count : List ℕ → ℕ → ℕ → List ℕ
with_count tally number count =
    set
    (set
    (set
    (set tally (count_place number) (count % 256))
    (count_place number + 1) (count / 256 % 256))
    (count_place number + 2) (count / 65536 % 256))
    (count_place number + 3) (count / 16777216 % 256)

-- "a count at 4,294,967,295 is full and never restarts"
abbrev pub full : ℕ
full = 4294967295

-- ---- adding

-- "Refusals 1 to 3 in order [..]: wrong length, a number outside the table, a full count."
unfoldable pub answer_to_add : List ℕ → ℕ → ℕ
answer_to_add tally number =
    cond (not (eqb (length tally) tally_length)) 1
    (cond (leb counts number) 2
    (cond (eqb (count_of tally number) full) 3
    0))

-- "each changing nothing"; "Adding a verdict adds one to its count alone"
unfoldable pub tally_after_add : List ℕ → ℕ → List ℕ
tally_after_add tally number = cond (eqb (answer_to_add tally number) 0) (with_count tally number (count_of tally number + 1)) tally

-- ---- clearing

-- "it has refusal 1 only"
unfoldable pub answer_to_clear : List ℕ → ℕ
answer_to_clear tally = cond (not (eqb (length tally) tally_length)) 1 0

-- "Clearing zeroes all"
unfoldable pub tally_after_clear : List ℕ → List ℕ
tally_after_clear tally = cond (eqb (answer_to_clear tally) 0) (replicate tally_length 0) tally
