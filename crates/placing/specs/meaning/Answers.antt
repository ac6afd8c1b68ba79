-- Whether every segment has a home, and the first that has none. 01, number 10.
use Rattle.std.specs.Prelude.{ℕ, suc, ◌-◌, ◌≤◌, ◌<◌, ◌≡◌, List, length, get_or}

-- every segment has one, 0 being none
abbrev pub HaveHomes : List ℕ → Type 0
HaveHomes hs = (j : ℕ) → j < length hs → 0 < get_or hs j 0

-- 01, number 10: "a segment without a home", "first place"
pub record FirstWithout (hs : List ℕ) (k : ℕ) : Type 0 where
  pub some : 1 ≤ k
  pub within : k ≤ length hs
  pub there : get_or hs (k - 1) 0 ≡ 0
  pub before : (j : ℕ) → suc j < k → 0 < get_or hs j 0
