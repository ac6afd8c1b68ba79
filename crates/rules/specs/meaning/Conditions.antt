-- Conditions: what the caller says of them, and the ways to fill in what is unknown. 01, number 2 and numbers 14 and 15.
use Rattle.std.specs.Prelude.{ℕ, zero, suc, ◌<◌, ◌≤◌, ◌≡◌, List, [], ◌∷◌, Bool, true, false, eqb, get_or}

-- a truth value for each condition number
abbrev pub Assignment : Type 0
Assignment = ℕ → Bool

-- 01: "(0 false, 1 true, 2 unknown)": the byte of a condition; they count from 1, and others have none
abbrev pub said : List ℕ → ℕ → ℕ
said cs zero = 0
said cs (suc k) = get_or cs k 0

abbrev pub is_unknown : List ℕ → ℕ → Bool
is_unknown cs k = eqb (said cs k) 2

abbrev pub told : List ℕ → Assignment
told cs k = eqb (said cs k) 1

-- ---- fillings: each unknown condition is true or false, the others are as they are told

abbrev pub Filling : List ℕ → Assignment → Type 0
Filling cs a = (k : ℕ) → is_unknown cs k ≡ false → a k ≡ told cs k

-- the same for condition lists: a byte 2 becomes 0 or 1, every other byte stays
abbrev pub Chosen : Bool → ℕ → ℕ → Type 0
Chosen true c f = f < 2
Chosen false c f = f ≡ c

abbrev pub Fills : List ℕ → List ℕ → Type 0
Fills [] [] = Unit {0}
Fills [] (f ∷ fs) = ⊥
Fills (c ∷ cs) [] = ⊥
Fills (c ∷ cs) (f ∷ fs) = Chosen (eqb c 2) c f × Fills cs fs

-- a list that knows more, or as much: a byte 2 becomes any of the three, every other byte stays
abbrev pub Learned : Bool → ℕ → ℕ → Type 0
Learned true c d = d ≤ 2
Learned false c d = d ≡ c

abbrev pub Learns : List ℕ → List ℕ → Type 0
Learns [] [] = Unit {0}
Learns [] (d ∷ ds) = ⊥
Learns (c ∷ cs) [] = ⊥
Learns (c ∷ cs) (d ∷ ds) = Learned (eqb c 2) c d × Learns cs ds
