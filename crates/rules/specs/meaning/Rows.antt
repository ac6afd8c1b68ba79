-- A row: its expression under an assignment, and when it is broken. 01, "The guide book" (Row).
use Rattle.std.specs.Prelude.{ℕ, ◌%◌, List, [], ◌∷◌, map, Bool, true, false, not, cond, ◌&&◌, ◌||◌, eqb, leb}
use Rattle.guide.specs.meaning.View.{Row, in_use}
use Rattle.guide.specs.meaning.Words.{any_joint, never_mode, must_mode, must_if_mode, may_if_mode}
use Rattle.rules.specs.meaning.Conditions.{Assignment}

-- 01: "a byte is the number, plus 128 for "not""
abbrev pub condition_number : ℕ → ℕ
condition_number x = x % 128

abbrev pub is_negated : ℕ → Bool
is_negated x = leb 128 x

unfoldable pub literal : Assignment → ℕ → Bool
literal a x = cond (is_negated x) (not (a (condition_number x))) (a (condition_number x))

unfoldable pub all_hold : Assignment → List ℕ → Bool
all_hold a [] = true
all_hold a (x ∷ xs) = literal a x && all_hold a xs

unfoldable pub any_holds : Assignment → List ℕ → Bool
any_holds a [] = false
any_holds a (x ∷ xs) = literal a x || any_holds a xs

-- 01: "Joint 1 is all, 2 is any"
abbrev pub expression : Row → Assignment → Bool
expression w a = cond (eqb w.joint any_joint) (any_holds a (in_use w.conditions)) (all_hold a (in_use w.conditions))

-- the conditions that a row names
abbrev pub conditions_of : Row → List ℕ
conditions_of w = map condition_number (in_use w.conditions)

-- 01: "0 never, 1 must, 2 may, 3 must if the expression holds and otherwise never, 4 may if it holds and otherwise never."
abbrev pub is_broken : ℕ → Bool → Bool → Bool
is_broken mode present value =
    cond (eqb mode never_mode) present
    (cond (eqb mode must_mode) (not present)
    (cond (eqb mode must_if_mode) (cond present (not value) value)
    (cond (eqb mode may_if_mode) (present && not value) false)))
