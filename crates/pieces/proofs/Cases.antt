-- What the two calls answer and leave, case by case.
use Prim.Native.Nat.{ℕ}
use mathlib.Core.Path.{◌≡◌, refl}
use mathlib.Core.List.{List}
use mathlib.Core.Bool.{true, false}
use lib.ListN.{length}
use borrow.Author.Tests.{eq-eqb, ne_eqb}
use Rattle.slices.specs.meaning.Lent.{as_many_as_fit}
use Rattle.reading.specs.declared.service.Service.{Service}
use Rattle.pieces.specs.meaning.Calls.{state_length, goes_on_answer, no_state}
use Rattle.pieces.specs.method.Progress.{held, held_after, answer_of}
use Rattle.pieces.specs.method.Numbers.{progress_of, numbers_of, ended}
use Rattle.pieces.specs.method.Calls.{has_ended, record_with, answer_to_piece, numbers_after_piece, starts_after_piece, record_after_piece, answer_to_end, numbers_after_end, record_after_end}

-- ---- what a piece makes: the answer, the numbers, the starts and the record

abbrev pub PieceMakes : Service → List ℕ → List ℕ → List ℕ → List ℕ → ℕ → List ℕ → List ℕ → List ℕ → Type 0
PieceMakes s numbers piece starts entries number numbers-then starts-then entries-then =
    (number ≡ answer_to_piece numbers) × (numbers-then ≡ numbers_after_piece s numbers piece starts) × (starts-then ≡ starts_after_piece s numbers piece starts)
    × (entries-then ≡ record_after_piece numbers entries)

-- and what the end makes
abbrev pub EndMakes : List ℕ → List ℕ → ℕ → List ℕ → List ℕ → Type 0
EndMakes numbers entries number numbers-then entries-then =
    (number ≡ answer_to_end numbers) × (numbers-then ≡ numbers_after_end numbers) × (entries-then ≡ record_after_end numbers entries)

module _ (s : Service) (numbers piece starts entries : List ℕ) where
  pub piece_without_state : (length numbers ≡ state_length → ⊥) → PieceMakes s numbers piece starts entries no_state numbers starts entries
  unfolding answer_to_piece numbers_after_piece starts_after_piece record_after_piece
  piece_without_state wrong = rw (ne_eqb (length numbers) state_length wrong) (refl, refl, refl, refl)

  module _ (eight : length numbers ≡ state_length) where
    pub piece_after_end : has_ended numbers ≡ true
        → PieceMakes s numbers piece starts entries (answer_of (progress_of numbers)).number numbers starts (record_with numbers entries)
    unfolding answer_to_piece numbers_after_piece starts_after_piece record_after_piece
    piece_after_end e = rw (eq-eqb (length numbers) state_length eight, e) (refl, refl, refl, refl)

    pub piece_read : has_ended numbers ≡ false
        → PieceMakes s numbers piece starts entries goes_on_answer
        (as_many_as_fit (numbers_of (held_after s (held (progress_of numbers) starts) piece).progress) numbers)
        (held_after s (held (progress_of numbers) starts) piece).starts entries
    unfolding answer_to_piece numbers_after_piece starts_after_piece record_after_piece
    piece_read e = rw (eq-eqb (length numbers) state_length eight, e) (refl, refl, refl, refl)

module _ (numbers entries : List ℕ) where
  pub end_without_state : (length numbers ≡ state_length → ⊥) → EndMakes numbers entries no_state numbers entries
  unfolding answer_to_end numbers_after_end record_after_end
  end_without_state wrong = rw (ne_eqb (length numbers) state_length wrong) (refl, refl, refl)

  pub end_reached : length numbers ≡ state_length → EndMakes numbers entries (answer_of (progress_of numbers)).number (ended numbers) (record_with numbers entries)
  unfolding answer_to_end numbers_after_end record_after_end
  end_reached eight = rw (eq-eqb (length numbers) state_length eight) (refl, refl, refl)
