-- A message in pieces is read as one by the exported calls: their contracts say what those of crate pieces say, of the standard service characters.
use Prim.Native.Nat.{ℕ}
use mathlib.Core.Path.{refl, sym, ap, ap₂, ◌∙◌}
use mathlib.Core.List.{List, []}
use Rattle.reading.specs.meaning.Service.{standard}
use Rattle.reading_laws.proofs.Services.{good_standard}
use Rattle.pieces.specs.meaning.Calls.{Left}
use Rattle.pieces.specs.method.Calls.{answer_to_piece, numbers_after_piece, starts_after_piece, record_after_piece, answer_to_end, numbers_after_end, record_after_end}
use Rattle.pieces.proofs.Cases.{PieceMakes, EndMakes}
use Rattle.pieces_laws.proofs.Calls.{read_as_one}
use Rattle.demands.specs.statements.Pieces.{PieceOfDoor, EndOfDoor, DoorReadsAsOne}
use Rattle.demands.proofs.DoorMeans.{lent, lent_to_write}

-- ---- what the contracts say

module _ (state piece starts entries : List ℕ) (l : Left) (left : List ℕ) (p : PieceOfDoor state piece starts entries l left) where
  piece_makes : PieceMakes standard state piece starts entries l.answer l.state left l.entries
  piece_makes = (
    p.promise.0 ∙ ap answer_to_piece p.state_before,
    sym p.state_after ∙ p.promise.1 ∙ (λ i. numbers_after_piece standard (p.state_before i) (p.piece_before i) (p.starts_before i)),
    sym p.starts_after ∙ p.promise.2 ∙ (λ i. starts_after_piece standard (p.state_before i) (p.piece_before i) (p.starts_before i)),
    sym p.entries_after ∙ p.promise.3 ∙ ap₂ record_after_piece p.state_before p.entries_before,
  )

module _ (state entries : List ℕ) (l : Left) (p : EndOfDoor state entries l) where
  end_makes : EndMakes state entries l.answer l.state l.entries
  end_makes = (
    p.promise.0 ∙ ap answer_to_end p.state_before,
    sym p.state_after ∙ p.promise.1 ∙ ap numbers_after_end p.state_before,
    sym p.entries_after ∙ p.promise.2 ∙ ap₂ record_after_end p.state_before p.entries_before,
  )

-- ---- an outcome that each admits

piece_outcome : (state piece starts entries : List ℕ) → (l : Left) × (left : List ℕ) × PieceOfDoor state piece starts entries l left
piece_outcome state piece starts entries =
    let l : Left = record { answer = answer_to_piece state; state = numbers_after_piece standard state piece starts; entries = record_after_piece state entries } in
    let left = starts_after_piece standard state piece starts in (
      l,
      left,
      record {
        lifetimes = ([], ([], ([], ([], tt))));
        passed = (lent_to_write state, (lent piece, (lent_to_write starts, (lent_to_write entries, tt))));
        at_exit = (lent_to_write l.state, (lent piece, (lent_to_write left, (lent_to_write l.entries, tt))));
        promise = (refl, refl, refl, refl);
        state_before = refl;
        piece_before = refl;
        starts_before = refl;
        entries_before = refl;
        state_after = refl;
        starts_after = refl;
        entries_after = refl;
      },
    )

end_outcome : (state entries : List ℕ) → (l : Left) × EndOfDoor state entries l
end_outcome state entries =
    let l : Left = record { answer = answer_to_end state; state = numbers_after_end state; entries = record_after_end state entries } in (
      l,
      record {
        lifetimes = ([], ([], tt));
        passed = (lent_to_write state, (lent_to_write entries, tt));
        at_exit = (lent_to_write l.state, (lent_to_write l.entries, tt));
        promise = (refl, refl, refl);
        state_before = refl;
        entries_before = refl;
        state_after = refl;
        entries_after = refl;
      },
    )

pub door_reads_as_one : DoorReadsAsOne
door_reads_as_one = record {
  piece_asks_nothing = λ κs a. tt;
  end_asks_nothing = λ κs a. tt;
  reads_as_one = read_as_one standard good_standard PieceOfDoor EndOfDoor piece_makes end_makes piece_outcome end_outcome;
}
