-- A tally that adds up. 02, T-06: "After any calls since the last clearing, each count equals how often its number was accepted, and the sum
-- equals the verdicts accepted."
use Rattle.std.specs.Prelude.{ℕ, zero, suc, ◌+◌, ◌≤◌, ◌<◌, ◌≡◌, cond, List, [], ◌∷◌, ◌++◌, length, get_or, take, drop, eqb}
use Rattle.tally.specs.meaning.Tally.{counts, tally_length, count_of, full, answer_to_add, tally_after_add, answer_to_clear, tally_after_clear}

-- ---- one call. It is lent so many bytes from the tally's first on, or all there are if they are fewer: a tally's length of them, or a wrong one.

pub data Asked : Type 0 where
  add : ℕ → Asked
  clear : Asked

pub record Call : Type 0 where
  pub asked : Asked
  pub lent : ℕ

-- what the promises say of the lent bytes
abbrev pub answer_to : Asked → List ℕ → ℕ
answer_to (add number) bytes = answer_to_add bytes number
answer_to clear bytes = answer_to_clear bytes

abbrev pub left_by : Asked → List ℕ → List ℕ
left_by (add number) bytes = tally_after_add bytes number
left_by clear bytes = tally_after_clear bytes

-- the memory begins where the tally does, and goes on behind it
abbrev pub answered : List ℕ → Call → ℕ
answered memory call = answer_to call.asked (take call.lent memory)

abbrev pub after_call : List ℕ → Call → List ℕ
after_call memory call = left_by call.asked (take call.lent memory) ++ drop call.lent memory

-- ---- any calls, in a list with the last one first

unfoldable pub after : List ℕ → List Call → List ℕ
after memory [] = memory
after memory (call ∷ earlier) = after_call (after memory earlier) call

-- since the last clearing that was answered 0, or since the first call if there was none: what the counts began with, and the numbers whose
-- adding was answered 0
pub record Day : Type 0 where
  pub begun : ℕ → ℕ
  pub accepted : List ℕ

-- the day behind a call that was answered 0
abbrev pub day_after : Asked → Day → Day
day_after (add number) day = record { begun = day.begun; accepted = number ∷ day.accepted }
day_after clear day = record { begun = λ number. 0; accepted = [] }

unfoldable pub day_of : List ℕ → List Call → Day
day_of memory [] = record { begun = count_of memory; accepted = [] }
day_of memory (call ∷ earlier) = cond (eqb (answered (after memory earlier) call) 0) (day_after call.asked (day_of memory earlier)) (day_of memory earlier)

-- ---- the statement

unfoldable pub how_often : ℕ → List ℕ → ℕ
how_often number [] = 0
how_often number (x ∷ xs) = cond (eqb number x) 1 0 + how_often number xs

-- the sum of the first so many
unfoldable pub sum_of : ℕ → (ℕ → ℕ) → ℕ
sum_of zero f = 0
sum_of (suc n) f = sum_of n f + f n

-- the calls over a whole tally
abbrev pub adding : ℕ → Call
adding number = record { asked = add number; lent = tally_length }

abbrev pub clearing : Call
clearing = record { asked = clear; lent = tally_length }

-- of a memory, what the calls have made of it by now, and the day
pub record AddsUp (memory now : List ℕ) (day : Day) : Type 0 where
  -- "each count equals how often its number was accepted": since a clearing it began with 0
  pub each : (number : ℕ) → number < counts → count_of now number ≡ day.begun number + how_often number day.accepted
  -- "and the sum equals the verdicts accepted"
  pub sum : sum_of counts (count_of now) ≡ sum_of counts day.begun + length day.accepted
  -- "Refusals 1 to 3 in order [..]: wrong length, a number outside the table, a full count"; clearing "has refusal 1 only"
  pub wrong_length_answers_one : (call : Call) → (length (take call.lent now) ≡ tally_length → ⊥) → answered now call ≡ 1
  pub outside_answers_two : tally_length ≤ length now → (number : ℕ) → counts ≤ number → answered now (adding number) ≡ 2
  pub full_answers_three : tally_length ≤ length now → (number : ℕ) → number < counts → count_of now number ≡ full → answered now (adding number) ≡ 3
  pub not_full_answers_zero : tally_length ≤ length now → (number : ℕ) → number < counts → (count_of now number ≡ full → ⊥) → answered now (adding number) ≡ 0
  pub clearing_answers_zero : tally_length ≤ length now → answered now clearing ≡ 0
  -- "each changing nothing"
  pub refused_changes_nothing : (call : Call) → (answered now call ≡ 0 → ⊥) → after_call now call ≡ now
  -- and nothing but the tally moves
  pub behind : drop tally_length now ≡ drop tally_length memory
  pub as_long : length now ≡ length memory

-- from any bytes, after any calls
abbrev pub TallyAddsUp : Type 0
TallyAddsUp = (memory : List ℕ) → ((at : ℕ) → get_or memory at 0 < 256) → (calls : List Call) → AddsUp memory (after memory calls) (day_of memory calls)
