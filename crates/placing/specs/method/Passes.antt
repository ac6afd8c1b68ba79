-- The two passes over a message: whether its segments can be placed, and the tables. 01, numbers 10 and 11.
use Rattle.std.specs.Prelude.{⊤, ℕ, suc, List, [], ◌∷◌, ◌++◌, map, Bool, true, false, cond, eqb, Option, None, Some, Result, Ok, Err}
use Rattle.std.proofs.lemmas.List.Edits.{sets}
use Rattle.guide.specs.meaning.Guide.{guide_of}
use Rattle.reading.specs.declared.service.Service.{Service}
use Rattle.guide.specs.meaning.Plan.{Plan, plan_in}
use Rattle.placing.specs.method.Fitting.{home_at}
use Rattle.placing.specs.method.Walking.{start, walked, is_alive}
use Rattle.placing.specs.method.Tree.{noted_parents}
use Rattle.placing.specs.declared.passes.Unplaced.{Unplaced}
use Rattle.placing.specs.declared.passes.Unplaced.TheVariants.{NoHome, Stops}
use Rattle.reading.specs.method.Starts.{starts_from}

-- the homes of the first n segments that a cursor finds from an offset on
abbrev pub homes_from : Service → List ℕ → List ℕ → ℕ → ℕ → List ℕ
homes_from s bs book n at = map (home_at s (guide_of book) bs) (starts_from s bs n at)

-- ---- the test: 10 for the first segment without a home, looked for in the whole message; else 11 for the first k homes that
-- begin no allowed sequence; else they begin one

-- the first stop stays
abbrev pub first_stop : Option ℕ → Bool → ℕ → Option ℕ
first_stop (Some j) alive k = Some j
first_stop None true k = None
first_stop None false k = Some k

abbrev pub outcome_of : Option ℕ → Result ⊤ Unplaced
outcome_of None = Ok tt
outcome_of (Some k) = Err (Stops k)

-- where these homes, k of them, have been seen, and this stop
unfoldable pub tested_from : Plan → List ℕ → Option ℕ → ℕ → List ℕ → Result ⊤ Unplaced
tested_from b seen stop k [] = outcome_of stop
tested_from b seen stop k (h ∷ hs) =
    cond (eqb h 0) (Err (NoHome (suc k)))
    (tested_from b (seen ++ (h ∷ [])) (first_stop stop (is_alive (walked b start (seen ++ (h ∷ [])))) (suc k)) (suc k) hs)

abbrev pub tested : Plan → List ℕ → Result ⊤ Unplaced
tested b hs = tested_from b [] None 0 hs

-- ---- the tables, but for the starts, which are reading's: 01: "write n entries in each (tag offsets, line numbers, the tree) and change none
-- beyond"

abbrev pub homes_table : Service → List ℕ → List ℕ → ℕ → List ℕ → List ℕ
homes_table s bs book n table = sets table 0 (homes_from s bs book n 0)

abbrev pub parents_table : Service → List ℕ → List ℕ → ℕ → List ℕ → List ℕ
parents_table s bs book n table = sets table 0 (noted_parents (plan_in book) (homes_from s bs book n 0))
