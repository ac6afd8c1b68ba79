-- A number in decimal as it is tested: no further than the number.
use Rattle.std.specs.Prelude.{ℕ, ◌+◌, ◌*◌, ◌-◌, List, [], ◌∷◌, Bool, false, not, ◌&&◌, eqb, leb}
use Rattle.reading.specs.meaning.Digit.{is_digit}

unfoldable pub is_decimal_from : ℕ → ℕ → List ℕ → Bool
is_decimal_from n made [] = eqb made n
is_decimal_from n made (b ∷ bs) = is_digit b && (leb (10 * made + (b - 0x30)) n && is_decimal_from n (10 * made + (b - 0x30)) bs)

abbrev pub leads : List ℕ → Bool
leads [] = false
leads (b ∷ bs) = not (eqb b 0x30)

abbrev pub is_decimal : ℕ → List ℕ → Bool
is_decimal n v = leads v && is_decimal_from n 0 v
