-- What is written into a lent table: numbers in order, "as many as fit, with nothing else there changed" (01, of the record; the header
-- promises the same of a component's part).
use Rattle.std.specs.Prelude.{ℕ, List, [], ◌∷◌}

-- these numbers, in order, in place of a table's first entries
unfoldable pub as_many_as_fit : List ℕ → List ℕ → List ℕ
as_many_as_fit [] table = table
as_many_as_fit (number ∷ numbers) [] = []
as_many_as_fit (number ∷ numbers) (entry ∷ table) = number ∷ as_many_as_fit numbers table
