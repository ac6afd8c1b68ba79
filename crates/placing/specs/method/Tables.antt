-- What the tables say that a pass has written.
use Rattle.std.specs.Prelude.{ℕ, suc, List, [], ◌∷◌, cond, eqb, Option, None, Some}

-- a line or a place, where 0 says that there is none
abbrev pub or_none : ℕ → Option ℕ
or_none n = cond (eqb n 0) None (Some n)

-- the first of these segments whose home is line l, where k stand before; 0 if there is none
unfoldable pub place_from : ℕ → ℕ → List ℕ → ℕ
place_from l k [] = 0
place_from l k (h ∷ hs) = cond (eqb h l) (suc k) (place_from l (suc k) hs)
