-- The two calls, as a caller sees them: numbers in, numbers out. 02, T-09, as docs/DECISIONS.md reads it; what is quoted without a number stands there.
use Rattle.std.specs.Prelude.{ℕ, ◌≡◌, ◌⊎◌, List, Option, Some, None, Result, Ok, Err}
use Rattle.slices.specs.meaning.Lent.{as_many_as_fit}
use Rattle.framing.specs.meaning.Record.{numbers_of}
use Rattle.framing.specs.declared.verdict.Verdict.{Verdict}
use Rattle.pieces.specs.declared.outcome.NoState.{NoState}

-- "entries of the state; all zeros is a message not yet begun"
abbrev pub state_length : ℕ
state_length = 8

-- "no answer yet"
abbrev pub goes_on_answer : ℕ
goes_on_answer = 4294967295

-- "reading_len is not 8; nothing changes"
abbrev pub no_state : ℕ
no_state = 4294967294

-- the number of what a piece is answered, and of what the end is
abbrev pub piece_number : Result (Option Verdict) NoState → ℕ
piece_number (Ok (Some v)) = v.number
piece_number (Ok None) = goes_on_answer
piece_number (Err _) = no_state

abbrev pub end_number : Result Verdict NoState → ℕ
end_number (Ok v) = v.number
end_number (Err _) = no_state

-- what comes back of either call: the number that is returned, and the lent state and record as they are then
pub record Left : Type 0 where
  pub answer : ℕ
  pub state : List ℕ
  pub entries : List ℕ

-- Which outcomes a piece may have: of a state, the piece, and the starts and the record that are lent with it; last what comes back, and the starts
-- as they are then.
abbrev pub PieceCall : Type 2
PieceCall = (state piece starts entries : List ℕ) → Left → List ℕ → Type 1

-- the same of the end, which is lent no starts
abbrev pub EndCall : Type 2
EndCall = (state entries : List ℕ) → Left → Type 1

-- the answer is this verdict, and the record that was lent has it, as many of its numbers as fit
abbrev pub Answers : List ℕ → Left → Verdict → Type 0
Answers entries l v = (l.answer ≡ v.number) × (l.entries ≡ as_many_as_fit (numbers_of v) entries)

-- an answer without a verdict, which leaves the record alone
abbrev pub Unanswered : List ℕ → Left → ℕ → Type 0
Unanswered entries l number = (l.answer ≡ number) × (l.entries ≡ entries)

-- "0, 3, 4, 5 or 6"
abbrev pub IsVerdict : ℕ → Type 0
IsVerdict number = (number ≡ 0) ⊎ ((number ≡ 3) ⊎ ((number ≡ 4) ⊎ ((number ≡ 5) ⊎ (number ≡ 6))))
