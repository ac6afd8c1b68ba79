-- The form n of a component as it is tested.
use Rattle.std.specs.Prelude.{ℕ, List, [], ◌∷◌, Bool, true, false, cond, ◌&&◌, eqb}
use Rattle.reading.specs.declared.service.Service.{Service}
use Rattle.fields.specs.meaning.Number.{minus}
use Rattle.reading.specs.meaning.Digit.{is_digit}

unfoldable pub starts_digit : List ℕ → Bool
starts_digit [] = false
starts_digit (b ∷ bs) = is_digit b

-- what stands behind the digits at the front
unfoldable pub after_digits : List ℕ → List ℕ
after_digits [] = []
after_digits (b ∷ bs) = cond (is_digit b) (after_digits bs) (b ∷ bs)

unfoldable pub is_none : List ℕ → Bool
is_none [] = true
is_none (b ∷ bs) = false

unfoldable pub are_digits : List ℕ → Bool
are_digits bs = starts_digit bs && is_none (after_digits bs)

-- behind the first digits: nothing, or the mark and one or more digits
unfoldable pub ends_number : Service → List ℕ → Bool
ends_number s [] = true
ends_number s (b ∷ bs) = eqb b s.decimal && are_digits bs

unfoldable pub without_sign : List ℕ → List ℕ
without_sign [] = []
without_sign (b ∷ bs) = cond (eqb b minus) bs (b ∷ bs)

unfoldable pub is_number : Service → List ℕ → Bool
is_number s v = starts_digit (without_sign v) && ends_number s (after_digits (without_sign v))
