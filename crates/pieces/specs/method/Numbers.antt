-- Progress as the numbers that the caller keeps.
use Rattle.std.specs.Prelude.{ℕ, List, [], ◌∷◌, Bool, cond, not, eqb, get_or, set}
use Rattle.reading.specs.declared.machine.State.{State}
use Rattle.reading.specs.declared.machine.State.TheVariants.{Start, Second, Third, Tagged, Opened, Parted, Inside, Released, Dead}
use Rattle.pieces.specs.declared.progress.Progress.{Progress}

abbrev pub state_number : State → ℕ
state_number Start = 0
state_number Second = 1
state_number Third = 2
state_number Tagged = 3
state_number Opened = 4
state_number Parted = 5
state_number Inside = 6
state_number Released = 7
state_number Dead = 8

unfoldable pub state_of : ℕ → State
state_of n =
    cond (eqb n 0) Start
    (cond (eqb n 1) Second
    (cond (eqb n 2) Third
    (cond (eqb n 3) Tagged
    (cond (eqb n 4) Opened
    (cond (eqb n 5) Parted
    (cond (eqb n 6) Inside
    (cond (eqb n 7) Released Dead)))))))

abbrev pub flag : Bool → ℕ
flag b = cond b 1 0

abbrev pub is_set : ℕ → Bool
is_set n = not (eqb n 0)

abbrev pub progress_of : List ℕ → Progress
progress_of numbers = record {
  ended = is_set (get_or numbers 0 0);
  state = state_of (get_or numbers 1 0);
  bytes = get_or numbers 2 0;
  bad = get_or numbers 3 0;
  segments = get_or numbers 4 0;
  start = get_or numbers 5 0;
  lacking = is_set (get_or numbers 6 0);
}

abbrev pub numbers_of : Progress → List ℕ
numbers_of p =
    flag p.ended ∷ state_number p.state ∷ p.bytes ∷ p.bad ∷ p.segments ∷ p.start ∷ flag p.lacking ∷ []

-- the same numbers of a message that has ended
abbrev pub ended : List ℕ → List ℕ
ended numbers = cond (is_set (get_or numbers 0 0)) numbers (set numbers 0 1)
