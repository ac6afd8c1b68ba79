-- The form n of a value. 01, "Placing and judging", second paragraph.
use Rattle.std.specs.Prelude.{ℕ, suc, ◌<◌, ◌≡◌, List, [], ◌∷◌, ◌++◌, Bool, true, false, cond, ◌||◌, eqb, length}
use Rattle.reading.specs.meaning.Service.{All}
use Rattle.reading.specs.declared.service.Service.{Service}
use Rattle.reading.specs.meaning.Digit.{is_digit}

-- one or more digits
pub record Digits (bs : List ℕ) : Type 0 where
  pub all : All (λ b. is_digit b ≡ true) bs
  pub some : 0 < length bs

abbrev pub minus : ℕ
minus = 0x2d

-- "optionally `.` and one or more digits": the mark is the one that the service characters name
pub data Fraction : Type 0 where
  none : Fraction
  after : List ℕ → Fraction

abbrev pub ValidFraction : Fraction → Type 0
ValidFraction none = Unit {0}
ValidFraction (after digits) = Digits digits

abbrev pub write_fraction : Service → Fraction → List ℕ
write_fraction s none = []
write_fraction s (after digits) = s.decimal ∷ digits

abbrev pub write_sign : Bool → List ℕ → List ℕ
write_sign negative bs = cond negative (minus ∷ bs) bs

-- 01: "`n` is an optional `-`, one or more digits, and optionally `.` and one or more digits."
pub record IsNumber (s : Service) (v : List ℕ) : Type 0 where
  pub negative : Bool
  pub whole : List ℕ
  pub fraction : Fraction
  pub digits : Digits whole
  pub more : ValidFraction fraction
  pub same : v ≡ write_sign negative (whole ++ write_fraction s fraction)

-- 01: "for `n` the minus and the mark do not count (ISO 9735)"
unfoldable pub figures : Service → List ℕ → ℕ
figures s [] = 0
figures s (b ∷ bs) = cond (eqb b minus || eqb b s.decimal) (figures s bs) (suc (figures s bs))

-- what the law about numbers asks of a decimal mark; 02 (T-03) asks it of a file's own
pub record GoodMark (s : Service) : Type 0 where
  pub no_digit : is_digit s.decimal ≡ false
  pub no_minus : s.decimal ≡ minus → ⊥
