-- The refusals by name, and by their numbers. 02, T-06: "Refusals 1 to 3 in order [..]: wrong length, a number outside the table, a full count."
use Rattle.std.specs.Prelude.{ℕ, Result, Ok, Err}
use Rattle.tally.specs.declared.refusal.Refusal.{Refusal}
use Rattle.tally.specs.declared.refusal.Refusal.TheVariants.{WrongLength, NoSuchCount, CountIsFull}

abbrev pub number_of : Refusal → ℕ
number_of WrongLength = 1
number_of NoSuchCount = 2
number_of CountIsFull = 3

-- 0, or the refusal's number
abbrev pub answer_of : Result (Unit {0}) Refusal → ℕ
answer_of (Ok done) = 0
answer_of (Err refusal) = number_of refusal
