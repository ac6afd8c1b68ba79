-- What the two calls answer by name.
use Rattle.std.specs.Prelude.{ℕ, List, cond, Option, Some, None, Result, Ok, Err}
use Rattle.framing.specs.declared.verdict.Verdict.{Verdict}
use Rattle.pieces.specs.declared.outcome.NoState.{NoState}
use Rattle.pieces.specs.method.Progress.{answer_of}
use Rattle.pieces.specs.method.Numbers.{progress_of}
use Rattle.pieces.specs.method.Calls.{is_state, has_ended}

abbrev pub no_numbers : NoState
no_numbers = record {}

-- ---- a piece: a verdict if the message has ended, and none if it goes on

unfoldable pub piece_outcome : List ℕ → Result (Option Verdict) NoState
piece_outcome numbers = cond (is_state numbers) (Ok (cond (has_ended numbers) (Some (answer_of (progress_of numbers))) None)) (Err no_numbers)

-- ---- the end: a verdict

unfoldable pub end_outcome : List ℕ → Result Verdict NoState
end_outcome numbers = cond (is_state numbers) (Ok (answer_of (progress_of numbers))) (Err no_numbers)
