-- The tree in closed form: the last earlier trigger of the group around the line, for a trigger of the group around its own group.
use Rattle.std.specs.Prelude.{ℕ, zero, suc, List, [], ◌∷◌, ◌++◌, cond, eqb}
use Rattle.guide.specs.meaning.Plan.{Plan}
use Rattle.guide.specs.method.Targets.{target}
use Rattle.guide.specs.meaning.Tree.{owner}

-- the number of the last segment of home x, `found` if there is none; k segments stand before
unfoldable pub last_of : ℕ → ℕ → ℕ → List ℕ → ℕ
last_of x k found [] = found
last_of x k found (h ∷ hs) = last_of x (suc k) (cond (eqb h x) (suc k) found) hs

-- the trigger of the group's last instance, where these homes have been seen
abbrev pub held_by : ℕ → List ℕ → ℕ
held_by zero seen = 0
held_by (suc g) seen = last_of (suc (suc g)) 0 0 seen

unfoldable pub closed : Plan → List ℕ → List ℕ → List ℕ
closed b seen [] = []
closed b seen (h ∷ hs) = held_by (owner b (target b h)) seen ∷ closed b (seen ++ (h ∷ [])) hs

abbrev pub closed_parents : Plan → List ℕ → List ℕ
closed_parents b hs = closed b [] hs
