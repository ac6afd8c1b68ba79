-- Law one-outcome, of the two calls: two outcomes that meet a promise are the same answer, and leave the same numbers, starts and record. The promises
-- are the contracts of src/ themselves, as the check reads them (`Reads`), and no copies.
use mathlib.Core.Path.{◌≡◌, sym, ◌∙◌}
use Rattle.pieces.proofs.read_piece.Reads as read_piece
use Rattle.pieces.proofs.read_end.Reads as read_end
use Rattle.pieces.proofs.piece_number.Reads as piece_number
use Rattle.pieces.proofs.end_number.Reads as end_number

-- of the arguments at exit, the numbers are the second, the starts the fourth and the record the fifth
pub one_read_piece : (κs : _) (a : _) (r q : _) (x y : _) → read_piece.Post κs a r x → read_piece.Post κs a q y
    → (r ≡ q) × (x.1.0.now ≡ y.1.0.now) × (x.1.1.1.0.now ≡ y.1.1.1.0.now) × (x.1.1.1.1.0.now ≡ y.1.1.1.1.0.now)
one_read_piece κs a r q x y m n = (m.0 ∙ sym n.0, m.1.1.0 ∙ sym n.1.1.0, m.1.1.1.0 ∙ sym n.1.1.1.0, m.1.1.1.1 ∙ sym n.1.1.1.1)

-- the numbers are the first, the record the second
pub one_read_end : (κs : _) (a : _) (r q : _) (x y : _) → read_end.Post κs a r x → read_end.Post κs a q y
    → (r ≡ q) × (x.0.now ≡ y.0.now) × (x.1.0.now ≡ y.1.0.now)
one_read_end κs a r q x y m n = (m.0 ∙ sym n.0, m.1.1.0 ∙ sym n.1.1.0, m.1.1.1 ∙ sym n.1.1.1)

-- the numbers of what they answered
pub one_piece_number : (κs : _) (a : _) (r q : _) (x y : _) → piece_number.Post κs a r x → piece_number.Post κs a q y → r ≡ q
one_piece_number κs a r q x y m n = m ∙ sym n

pub one_end_number : (κs : _) (a : _) (r q : _) (x y : _) → end_number.Post κs a r x → end_number.Post κs a q y → r ≡ q
one_end_number κs a r q x y m n = m ∙ sym n
