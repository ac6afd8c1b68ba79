-- Law one-outcome: for each public call, two outcomes that meet its promise are the same answer.
-- The promises are the contracts of src/ themselves, as the check reads them (`Reads`), and no copies.
use mathlib.Core.Path.{sym, ◌∙◌}
use Rattle.reading_laws.proofs.OneOutcome.{One}
use Rattle.rules.proofs.are_truth_values.Reads as are_truth_values
use Rattle.rules.proofs.first_row.first_row.Reads as first_row
use Rattle.rules.proofs.identifier.find_identifier.Reads as find_identifier

pub one_are_truth_values : One are_truth_values.Post
one_are_truth_values κs a r q x y m n = m ∙ sym n

pub one_first_row : One first_row.Post
one_first_row κs a r q x y m n = m ∙ sym n

pub one_find_identifier : One find_identifier.Post
one_find_identifier κs a r q x y m n = m ∙ sym n
