-- Law one-outcome, of `judge` and of the exported calls: two outcomes that meet a promise are the same answer, and leave the same
-- tables. The promises are the contracts of src/ themselves, as the check reads them (`Reads`), and no copies.
use mathlib.Core.Path.{◌≡◌, sym, ap, ◌∙◌}
use Rattle.book_laws.proofs.OneOutcome.{one_judged}
use Rattle.judging.specs.meaning.Tables.{Tables}
use Rattle.judging.proofs.judge.Reads as judge
use Rattle.tracksaddle.proofs.tracksaddle_check_book.Reads as check_book
use Rattle.tracksaddle.proofs.tracksaddle_find_component.Reads as find_component
use Rattle.tracksaddle.proofs.tracksaddle_judge.Reads as exported
use Rattle.tracksaddle.proofs.tracksaddle_read_end.Reads as read_end
use Rattle.tracksaddle.proofs.tracksaddle_read_piece.Reads as read_piece
use Rattle.tracksaddle.proofs.tracksaddle_tally_add.Reads as tally_add
use Rattle.tracksaddle.proofs.tracksaddle_tally_clear.Reads as tally_clear

-- of the arguments at exit, the lent tables are the last three
pub one_judge : (κs : _) (a : _) (r q : _) (x y : _) → judge.Post κs a r x → judge.Post κs a q y
    → (r ≡ q)
    × (x.1.1.1.1.0.now ≡ y.1.1.1.1.0.now)
    × (x.1.1.1.1.1.0.now ≡ y.1.1.1.1.1.0.now)
    × (x.1.1.1.1.1.1.0.now ≡ y.1.1.1.1.1.1.0.now)
one_judge κs a r q x y m n =
    let same = m.1 ∙ sym n.1 in
    (m.0 ∙ sym n.0, ap (λ (t : Tables). t.starts) same, ap (λ (t : Tables). t.homes) same, ap (λ (t : Tables). t.parents) same)

-- of a call's arguments at exit, the lent table `part` is the fifth
pub one_find_component : (κs : _) (a : _) (r q : _) (x y : _) → find_component.Post κs a r x → find_component.Post κs a q y
    → x.1.1.1.1.0.now ≡ y.1.1.1.1.0.now
one_find_component κs a r q x y m n = m ∙ sym n

pub one_check_book : (κs : _) (a : _) (r q : _) (x y : _) → check_book.Post κs a r x → check_book.Post κs a q y → r ≡ q
one_check_book κs a r q x y m n = one_judged _ r q m n

-- the number, the lent record, which is the seventh argument, and the three tables before it
pub one_exported : (κs : _) (a : _) (r q : _) (x y : _) → exported.Post κs a r x → exported.Post κs a q y
    → (r ≡ q)
    × (x.1.1.1.1.1.1.0.now ≡ y.1.1.1.1.1.1.0.now)
    × (x.1.1.1.0.now ≡ y.1.1.1.0.now)
    × (x.1.1.1.1.0.now ≡ y.1.1.1.1.0.now)
    × (x.1.1.1.1.1.0.now ≡ y.1.1.1.1.1.0.now)
one_exported κs a r q x y m n =
    let same = m.2 ∙ sym n.2 in
    (m.0 ∙ sym n.0, m.1 ∙ sym n.1, ap (λ (t : Tables). t.starts) same, ap (λ (t : Tables). t.homes) same, ap (λ (t : Tables). t.parents) same)

-- the answer, and the lent tally, which is the first argument
pub one_tally_add : (κs : _) (a : _) (r q : _) (x y : _) → tally_add.Post κs a r x → tally_add.Post κs a q y → (r ≡ q) × (x.0.now ≡ y.0.now)
one_tally_add κs a r q x y m n = (m.0 ∙ sym n.0, m.1 ∙ sym n.1)

pub one_tally_clear : (κs : _) (a : _) (r q : _) (x y : _) → tally_clear.Post κs a r x → tally_clear.Post κs a q y → (r ≡ q) × (x.0.now ≡ y.0.now)
one_tally_clear κs a r q x y m n = (m.0 ∙ sym n.0, m.1 ∙ sym n.1)

-- the answer, the state's numbers, the starts and the record: the first, the third and the fourth argument
pub one_read_piece : (κs : _) (a : _) (r q : _) (x y : _) → read_piece.Post κs a r x → read_piece.Post κs a q y
    → (r ≡ q) × (x.0.now ≡ y.0.now) × (x.1.1.0.now ≡ y.1.1.0.now) × (x.1.1.1.0.now ≡ y.1.1.1.0.now)
one_read_piece κs a r q x y m n = (m.0 ∙ sym n.0, m.1 ∙ sym n.1, m.2 ∙ sym n.2, m.3 ∙ sym n.3)

-- the answer, the state's numbers and the record
pub one_read_end : (κs : _) (a : _) (r q : _) (x y : _) → read_end.Post κs a r x → read_end.Post κs a q y
    → (r ≡ q) × (x.0.now ≡ y.0.now) × (x.1.0.now ≡ y.1.0.now)
one_read_end κs a r q x y m n = (m.0 ∙ sym n.0, m.1 ∙ sym n.1, m.2 ∙ sym n.2)
