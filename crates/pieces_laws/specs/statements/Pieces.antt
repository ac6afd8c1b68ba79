-- Messages in pieces, 02, T-09: what is asked of the two calls holds of whatever outcomes the contracts of `pieces::read_piece` and `pieces::read_end` admit, for
-- every good set of service characters. The contracts are those of crates/pieces/src/lib.rt, as the check reads them (`Reads`), and no copies. Any slices will do.
use Rattle.std.specs.Prelude.{◌≡◌, ℕ, List}
use Rattle.reading.specs.meaning.Service.{GoodService}
use Rattle.reading.specs.declared.service.Service.{Service}
use Rattle.pieces.specs.meaning.Calls.{Left}
use Rattle.pieces.specs.meaning.Pieces.{ReadAsOne}
use Rattle.pieces.specs.meaning.Calls.{piece_number, end_number}
use Rattle.pieces.proofs.read_piece.Reads as read_piece
use Rattle.pieces.proofs.read_end.Reads as read_end

-- An outcome that the contract of a piece admits. The contract has the arguments one in another, in their order: the service characters, the state's
-- numbers, the piece, the starts and the record. What is answered is told by its number, as C has it.
pub record PiecePromised (s : Service) (state piece starts entries : List ℕ) (l : Left) (left : List ℕ) : Type 1 where
  pub lifetimes : _
  pub passed : _
  pub outcome : _
  pub at_exit : _
  pub promise : read_piece.Post lifetimes passed outcome at_exit
  pub answered : l.answer ≡ piece_number outcome
  pub service : passed.0 ≡ s
  pub state_before : passed.1.0.now ≡ state
  pub piece_before : passed.1.1.0.now ≡ piece
  pub starts_before : passed.1.1.1.0.now ≡ starts
  pub entries_before : passed.1.1.1.1.0.now ≡ entries
  pub state_after : at_exit.1.0.now ≡ l.state
  pub starts_after : at_exit.1.1.1.0.now ≡ left
  pub entries_after : at_exit.1.1.1.1.0.now ≡ l.entries

-- the same of the end: the state's numbers and the record
pub record EndPromised (state entries : List ℕ) (l : Left) : Type 1 where
  pub lifetimes : _
  pub passed : _
  pub outcome : _
  pub at_exit : _
  pub promise : read_end.Post lifetimes passed outcome at_exit
  pub answered : l.answer ≡ end_number outcome
  pub state_before : passed.0.now ≡ state
  pub entries_before : passed.1.0.now ≡ entries
  pub state_after : at_exit.0.now ≡ l.state
  pub entries_after : at_exit.1.0.now ≡ l.entries

pub record PiecesReadAsOne : Type 1 where
  -- "nothing has to be checked first": the contracts ask for nothing
  pub piece_asks_nothing : (κs : _) (a : _) → read_piece.Pre κs a
  pub end_asks_nothing : (κs : _) (a : _) → read_end.Pre κs a
  pub reads_as_one : (s : Service) → GoodService s → ReadAsOne s (PiecePromised s) EndPromised
