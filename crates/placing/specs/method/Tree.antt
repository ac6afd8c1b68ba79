-- The parents table as it is written, home by home.
use Rattle.std.specs.Prelude.{ℕ, suc, List, [], ◌∷◌, cond, get_or, set}
use Rattle.guide.specs.meaning.Plan.{Plan, is_trigger}
use Rattle.guide.specs.method.Targets.{target}

-- ---- home by home: for each depth the number of the trigger whose instance was opened there last, 0 for the message

abbrev pub root_only : List ℕ
root_only = 0 ∷ 0 ∷ 0 ∷ 0 ∷ 0 ∷ 0 ∷ 0 ∷ 0 ∷ []

abbrev pub parent_in : Plan → List ℕ → ℕ → ℕ
parent_in b trail h = get_or trail (b.depth (target b h)) 0

-- the segment of this number and home opens an instance, if it is a trigger
unfoldable pub opened_by : Plan → List ℕ → ℕ → ℕ → List ℕ
opened_by b trail h number = cond (is_trigger b h) (set trail (suc (b.depth (target b h))) number) trail

-- the entries for these homes, where k segments stand before
unfoldable pub noted : Plan → ℕ → List ℕ → List ℕ → List ℕ
noted b k trail [] = []
noted b k trail (h ∷ hs) = parent_in b trail h ∷ noted b (suc k) (opened_by b trail h (suc k)) hs

abbrev pub noted_parents : Plan → List ℕ → List ℕ
noted_parents b hs = noted b 0 root_only hs
