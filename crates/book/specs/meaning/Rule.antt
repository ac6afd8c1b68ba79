-- Rules of a book, each read as a proposition (`Holds`). To run one as a test: specs/method/Run.antt.
use Rattle.std.specs.Prelude.{ℕ, ◌+◌, ◌≤◌, ◌<◌, ◌≡◌, ◌⊎◌}

infix 50 ◌≐◌ ◌≼◌
infixr 40 ◌and◌
infixr 35 ◌or◌
infixr 30 ◌⇒◌
pub data Rule : Type 0 where
  -- equal; at most
  ◌≐◌ ◌≼◌ : ℕ → ℕ → Rule
  -- both; one or the other; if the first then the second
  ◌and◌ ◌or◌ ◌⇒◌ : Rule → Rule → Rule
  never : Rule → Rule
  -- every number from the first on, so many of them
  every : ℕ → ℕ → (ℕ → Rule) → Rule

abbrev pub Holds : Rule → Type 0
Holds (a ≐ b) = a ≡ b
Holds (a ≼ b) = a ≤ b
Holds (r and s) = Holds r × Holds s
Holds (r or s) = Holds r ⊎ Holds s
Holds (r ⇒ s) = Holds r → Holds s
Holds (never r) = Holds r → ⊥
Holds (every first count r) = (i : ℕ) → first ≤ i → i < first + count → Holds (r i)
