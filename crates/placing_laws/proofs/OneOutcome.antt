-- Law one-outcome: for each public call, two outcomes that meet its promise are the same answer, and leave the same tables.
-- The promises are the contracts of src/ themselves, as the check reads them (`Reads`), and no copies.
use mathlib.Core.Path.{◌≡◌, sym, ◌∙◌}
use Rattle.reading_laws.proofs.OneOutcome.{One}
use Rattle.placing.proofs.test_placing.Reads as test_placing
use Rattle.placing.proofs.write_tree.Reads as write_tree
use Rattle.placing.proofs.place_of.Reads as place_of
use Rattle.placing.proofs.start_of.Reads as start_of_lem

pub one_test_placing : One test_placing.Post
one_test_placing κs a r q x y m n = m ∙ sym n

-- of the arguments at exit, the lent tables are the last three
pub one_write_tree : (κs : _) (a : _) (r q : _) (x y : _) → write_tree.Post κs a r x → write_tree.Post κs a q y
    → (x.1.1.1.1.0.now ≡ y.1.1.1.1.0.now) × (x.1.1.1.1.1.0.now ≡ y.1.1.1.1.1.0.now)
    × (x.1.1.1.1.1.1.0.now ≡ y.1.1.1.1.1.1.0.now)
one_write_tree κs a r q x y m n = (m.0 ∙ sym n.0, m.1.0 ∙ sym n.1.0, m.1.1 ∙ sym n.1.1)

pub one_place_of : One place_of.Post
one_place_of κs a r q x y m n = m ∙ sym n

pub one_start_of : One start_of_lem.Post
one_start_of κs a r q x y m n = m ∙ sym n
