-- What one function of the code keeps for another: no definition of 01's, and no promise of a public call.
use Rattle.std.specs.Prelude.{ℕ, ◌+◌, ◌-◌, ◌≤◌, ◌≡◌, List, Bool, true, false, eqb, ltb, length, drop, get_or, Option, None, unwrap_or}
use Rattle.reading.specs.method.Machine.{pick, end_on, segment_end}
use Rattle.reading.specs.declared.service.Service.{Service}
use Rattle.reading.specs.declared.machine.State.{State}
use Rattle.reading.specs.declared.machine.State.TheVariants.{Tagged, Opened, Parted, Inside}

-- a tag stands there and a byte behind it, from where reading goes on; or no segment does
abbrev pub TagOrNone : List ℕ → ℕ → Bool → Type 0
TagOrNone bs at true = (at + 4 ≤ length bs) × ((s : Service) → segment_end s bs at ≡ end_on s Tagged (at + 3) (drop (at + 3) bs))
TagOrNone bs at false = (s : Service) → segment_end s bs at ≡ None

-- the state that two flags stand for: whether the byte before opens an element, and whether it parts two components
abbrev pub held_by : Bool → Bool → State
held_by opened true = Parted
held_by true false = Opened
held_by false false = Inside

-- the same behind text from `from` up to `at`, where there is any: then they say what its last byte is
abbrev pub opened_by : ℕ → ℕ → Bool → Bool
opened_by from at was = pick (ltb from at) false was

abbrev pub marked_by : Service → List ℕ → ℕ → ℕ → Bool → Bool
marked_by s bs from at was = pick (ltb from at) (eqb (get_or bs (at - 1) 0) s.component) was

-- a segment's end as a number: the length of the bytes, which is no end, for none
abbrev pub or_length : List ℕ → Option ℕ → ℕ
or_length bs end = unwrap_or end (length bs)

-- from an offset up to another there is only text: what is found from the one on is found from the other on
pub record Passed (s : Service) (bs : List ℕ) (from at : ℕ) : Type 0 where
  pub onward : from ≤ at
  pub same : (opened parted : Bool)
      → end_on s (held_by opened parted) from (drop from bs) ≡ end_on s (held_by (opened_by from at opened) (marked_by s bs from at parted)) at (drop at bs)
