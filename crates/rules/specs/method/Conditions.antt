-- A list of conditions as it is tested and read. 01, number 2.
use Rattle.std.specs.Prelude.{ℕ, List, Bool, leb, cond, Option, Some, None}
use Rattle.std.specs.List.{list_all}
use Rattle.rules.specs.meaning.Conditions.{told, is_unknown}

-- 01: "a byte above 2 (0 false, 1 true, 2 unknown)" is not among them
abbrev pub are_truth_values : List ℕ → Bool
are_truth_values cs = list_all (λ c. leb c 2) cs

-- what is said of a condition, none where it is unknown
abbrev pub known : List ℕ → ℕ → Option Bool
known cs k = cond (is_unknown cs k) None (Some (told cs k))
