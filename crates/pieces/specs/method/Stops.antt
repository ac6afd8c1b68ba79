-- Where the machine stops on its way through a piece.
use Rattle.std.specs.Prelude.{ℕ, ◌+◌, ◌≤◌, ◌≡◌, List, [], ◌∷◌, Bool, true, false, cond, ◌||◌, eqb, drop}
use Rattle.reading.specs.method.Machine.{stepped, is_start, is_dead}
use Rattle.reading.specs.declared.service.Service.{Service}
use Rattle.reading.specs.declared.machine.State.{State}
use Rattle.reading.specs.declared.machine.State.TheVariants.{Start, Second, Third, Tagged, Opened, Parted, Inside, Released, Dead}
use Rattle.pieces.specs.declared.piece.Stop.{Stop}

-- behind a byte that ends a segment or is bad
abbrev pub stops : State → Bool
stops q = is_start q || is_dead q

abbrev pub stop : State → ℕ → Stop
stop q at = record { state = q; at = at }

-- from an offset on, in a state: the first byte behind which it stops, and the state then; the end if there is none
unfoldable pub pass_on : Service → State → ℕ → List ℕ → Stop
pass_on s p at [] = stop p at
pass_on s p at (b ∷ bs) = cond (stops (stepped s p b)) (stop (stepped s p b) at) (pass_on s (stepped s p b) (at + 1) bs)

-- ---- over data

-- right behind a mark or behind data, where text may follow
abbrev pub is_held : State → Bool
is_held Start = false
is_held Second = false
is_held Third = false
is_held Tagged = false
is_held Opened = true
is_held Parted = true
is_held Inside = true
is_held Released = false
is_held Dead = false

-- behind text, of which this is the last byte
abbrev pub after_text : Service → ℕ → State
after_text s b = cond (eqb b s.component) Parted Inside

-- from an offset on, in a state, the machine comes to another: it stops from the one on where it stops from the other on
pub record PassesData (s : Service) (bs : List ℕ) (q : State) (from : ℕ) (x : Stop) : Type 0 where
  pub onward : from ≤ x.at
  pub same : pass_on s q from (drop from bs) ≡ pass_on s x.state x.at (drop x.at bs)
