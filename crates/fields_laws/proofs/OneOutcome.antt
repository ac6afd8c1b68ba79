-- Law one-outcome: for each public call, two outcomes that meet its promise are the same answer.
-- The promises are the contracts of src/ themselves, as the check reads them (`Reads`), and no copies.
use mathlib.Core.Path.{sym, ◌∙◌}
use Rattle.reading_laws.proofs.OneOutcome.{One}
use Rattle.fields.proofs.test_fields.Reads as test_fields

pub one_test_fields : One test_fields.Post
one_test_fields κs a r q x y m n = m.0 ∙ sym n.0
