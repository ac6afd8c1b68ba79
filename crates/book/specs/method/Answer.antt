-- The judge's number for what the check answers of a book alone: 0 for a good one, 1 for a bad one.
use Rattle.std.specs.Prelude.{ℕ, Result, Ok, Err}

abbrev pub number_of : {A E : Type 0} → Result A E → ℕ
number_of (Ok x) = 0
number_of (Err e) = 1
