-- How often a line is a home. The law one_identifier says that the Prüfidentifikator's line is one exactly once.
use Rattle.std.specs.Prelude.{ℕ, ◌+◌, List, [], ◌∷◌, cond, eqb}

unfoldable pub occurrences : ℕ → List ℕ → ℕ
occurrences x [] = 0
occurrences x (h ∷ hs) = cond (eqb h x) 1 0 + occurrences x hs
