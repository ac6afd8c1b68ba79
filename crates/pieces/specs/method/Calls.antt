-- What the two calls answer, and what they leave of the numbers, the starts and the record.
use Rattle.std.specs.Prelude.{ℕ, List, Bool, cond, not, ◌&&◌, eqb, length}
use Rattle.slices.specs.meaning.Lent.{as_many_as_fit}
use Rattle.reading.specs.declared.service.Service.{Service}
use Rattle.framing.specs.meaning.Record as verdict
use Rattle.pieces.specs.meaning.Calls.{state_length, goes_on_answer, no_state}
use Rattle.pieces.specs.method.Progress.{held, held_after, answer_of}
use Rattle.pieces.specs.method.Numbers.{progress_of, numbers_of, ended}

abbrev pub is_state : List ℕ → Bool
is_state numbers = eqb (length numbers) state_length

abbrev pub has_ended : List ℕ → Bool
has_ended numbers = (progress_of numbers).ended

-- ---- a piece

unfoldable pub answer_to_piece : List ℕ → ℕ
answer_to_piece numbers = cond (is_state numbers) (cond (has_ended numbers) (answer_of (progress_of numbers)).number goes_on_answer) no_state

-- does it count?
abbrev pub is_read : List ℕ → Bool
is_read numbers = is_state numbers && not (has_ended numbers)

unfoldable pub numbers_after_piece : Service → List ℕ → List ℕ → List ℕ → List ℕ
numbers_after_piece s numbers piece starts =
    cond (is_read numbers) (as_many_as_fit (numbers_of (held_after s (held (progress_of numbers) starts) piece).progress) numbers) numbers

unfoldable pub starts_after_piece : Service → List ℕ → List ℕ → List ℕ → List ℕ
starts_after_piece s numbers piece starts = cond (is_read numbers) (held_after s (held (progress_of numbers) starts) piece).starts starts

abbrev pub record_with : List ℕ → List ℕ → List ℕ
record_with numbers entries = as_many_as_fit (verdict.numbers_of (answer_of (progress_of numbers))) entries

unfoldable pub record_after_piece : List ℕ → List ℕ → List ℕ
record_after_piece numbers entries = cond (is_state numbers && has_ended numbers) (record_with numbers entries) entries

-- ---- the end

unfoldable pub answer_to_end : List ℕ → ℕ
answer_to_end numbers = cond (is_state numbers) (answer_of (progress_of numbers)).number no_state

unfoldable pub numbers_after_end : List ℕ → List ℕ
numbers_after_end numbers = cond (is_state numbers) (ended numbers) numbers

unfoldable pub record_after_end : List ℕ → List ℕ → List ℕ
record_after_end numbers entries = cond (is_state numbers) (record_with numbers entries) entries
