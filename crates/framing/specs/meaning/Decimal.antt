-- A number in decimal without leading zeros. 01, number 8.
use Rattle.std.specs.Prelude.{ℕ, ◌+◌, ◌*◌, ◌-◌, ◌≡◌, List, [], ◌∷◌, true}
use Rattle.reading.specs.meaning.Service.{All}
use Rattle.reading.specs.meaning.Digit.{is_digit}

-- what digits make, behind others that make so much
unfoldable pub made_from : ℕ → List ℕ → ℕ
made_from made [] = made
made_from made (b ∷ bs) = made_from (10 * made + (b - 0x30)) bs

-- digits, the first of which is not 0, that make the number
pub record InDecimal (n : ℕ) (v : List ℕ) : Type 0 where
  pub first : ℕ
  pub others : List ℕ
  pub same : v ≡ first ∷ others
  pub digits : All (λ b. is_digit b ≡ true) v
  pub no_zero : first ≡ 0x30 → ⊥
  pub value : made_from 0 v ≡ n
