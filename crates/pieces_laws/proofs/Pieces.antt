-- A message in pieces is read as one: of whatever the contracts of the two calls admit.
use Prim.Native.Nat.{ℕ}
use mathlib.Core.Path.{◌≡◌, refl, sym, ap, ap₂, ◌∙◌}
use mathlib.Core.Bool.{Bool, true, false, cond}
use mathlib.Core.List.{List, []}
use Rattle.std.specs.Prelude.{Some, None, Ok, Err}
use denote.Bor.{Bor}
use denote.MutBor.{MutBor}
use Rattle.reading.specs.declared.service.Service.{Service}
use Rattle.pieces.specs.meaning.Calls.{Left, goes_on_answer, no_state, piece_number, end_number}
use Rattle.pieces.specs.method.Progress.{answer_of}
use Rattle.pieces.specs.method.Numbers.{progress_of}
use Rattle.pieces.specs.method.Outcomes as outcomes
use Rattle.pieces.specs.method.Calls.{is_state, has_ended, answer_to_piece, numbers_after_piece, starts_after_piece, record_after_piece, answer_to_end, numbers_after_end, record_after_end}
use Rattle.pieces.proofs.Cases.{PieceMakes, EndMakes}
use Rattle.pieces_laws.specs.statements.Pieces.{PiecePromised, EndPromised, PiecesReadAsOne}
use Rattle.pieces_laws.proofs.Calls.{read_as_one}

-- ---- what the contracts say

module _ (s : Service) (state piece starts entries : List ℕ) (l : Left) (left : List ℕ) (p : PiecePromised s state piece starts entries l left) where
  piece_makes : PieceMakes s state piece starts entries l.answer l.state left l.entries
  piece_makes = (
    p.answered ∙ p.promise.1.0 ∙ ap answer_to_piece p.state_before,
    sym p.state_after ∙ p.promise.1.1.0 ∙ (λ i. numbers_after_piece (p.service i) (p.state_before i) (p.piece_before i) (p.starts_before i)),
    sym p.starts_after ∙ p.promise.1.1.1.0 ∙ (λ i. starts_after_piece (p.service i) (p.state_before i) (p.piece_before i) (p.starts_before i)),
    sym p.entries_after ∙ p.promise.1.1.1.1 ∙ ap₂ record_after_piece p.state_before p.entries_before,
  )

module _ (state entries : List ℕ) (l : Left) (p : EndPromised state entries l) where
  end_makes : EndMakes state entries l.answer l.state l.entries
  end_makes = (
    p.answered ∙ p.promise.1.0 ∙ ap answer_to_end p.state_before,
    sym p.state_after ∙ p.promise.1.1.0 ∙ ap numbers_after_end p.state_before,
    sym p.entries_after ∙ p.promise.1.1.1 ∙ ap₂ record_after_end p.state_before p.entries_before,
  )

-- ---- what is answered, and its number

piece_told : (state : List ℕ) → piece_number (outcomes.piece_outcome state) ≡ answer_to_piece state
unfolding outcomes.piece_outcome answer_to_piece
piece_told state = by (is_state state) (has_ended state)
  where
    by : (is ended : Bool) → piece_number (cond is (Ok (cond ended (Some (answer_of (progress_of state))) None)) (Err outcomes.no_numbers))
        ≡ cond is (cond ended (answer_of (progress_of state)).number goes_on_answer) no_state
    by true true = refl
    by true false = refl
    by false ended = refl

end_told : (state : List ℕ) → end_number (outcomes.end_outcome state) ≡ answer_to_end state
unfolding outcomes.end_outcome answer_to_end
end_told state = by (is_state state)
  where
    by : (is : Bool) → end_number (cond is (Ok (answer_of (progress_of state))) (Err outcomes.no_numbers)) ≡ cond is (answer_of (progress_of state)).number no_state
    by true = refl
    by false = refl

-- ---- an outcome that each admits

-- a slice as a call is handed it, with a made-up pointer, of which a contract says nothing
abbrev lent : List ℕ → Bor (List ℕ)
lent xs = record { ref_ptr = (0, 0); now = xs }

-- the same of a slice that the call may write
abbrev lent_to_write : List ℕ → MutBor (List ℕ)
lent_to_write xs = record { ref_ptr = (0, 0); ghost_name = 0; now = xs }

piece_outcome : (s : Service) (state piece starts entries : List ℕ) → (l : Left) × (left : List ℕ) × PiecePromised s state piece starts entries l left
piece_outcome s state piece starts entries =
    let l : Left = record { answer = answer_to_piece state; state = numbers_after_piece s state piece starts; entries = record_after_piece state entries } in
    let left = starts_after_piece s state piece starts in (
      l,
      left,
      record {
        lifetimes = ([], ([], ([], ([], tt))));
        passed = (s, (lent_to_write state, (lent piece, (lent_to_write starts, (lent_to_write entries, tt)))));
        outcome = outcomes.piece_outcome state;
        at_exit = (s, (lent_to_write l.state, (lent piece, (lent_to_write left, (lent_to_write l.entries, tt)))));
        promise = (refl, (piece_told state, (refl, (refl, refl))));
        answered = sym (piece_told state);
        service = refl;
        state_before = refl;
        piece_before = refl;
        starts_before = refl;
        entries_before = refl;
        state_after = refl;
        starts_after = refl;
        entries_after = refl;
      },
    )

end_outcome : (state entries : List ℕ) → (l : Left) × EndPromised state entries l
end_outcome state entries =
    let l : Left = record { answer = answer_to_end state; state = numbers_after_end state; entries = record_after_end state entries } in (
      l,
      record {
        lifetimes = ([], ([], tt));
        passed = (lent_to_write state, (lent_to_write entries, tt));
        outcome = outcomes.end_outcome state;
        at_exit = (lent_to_write l.state, (lent_to_write l.entries, tt));
        promise = (refl, (end_told state, (refl, refl)));
        answered = sym (end_told state);
        state_before = refl;
        entries_before = refl;
        state_after = refl;
        entries_after = refl;
      },
    )

pub pieces_read_as_one : PiecesReadAsOne
pieces_read_as_one = record {
  piece_asks_nothing = λ κs a. tt;
  end_asks_nothing = λ κs a. tt;
  reads_as_one = λ s good. read_as_one s good (PiecePromised s) EndPromised (piece_makes s) end_makes (piece_outcome s) end_outcome;
}
