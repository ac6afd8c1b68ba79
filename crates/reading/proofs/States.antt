-- What a byte does to a segment: it ends it, the segment goes on, or reading is past a fault. Laws about bytes that are read one after
-- the other look at the state behind a byte in these three cases, so that a further state is named here and not in each of them.
use Prim.Native.Nat.{ℕ, ◌+◌}
use mathlib.Core.Path.{◌≡◌, refl, ap}
use mathlib.Core.Bool.{Bool, false}
use Rattle.reading.specs.method.Machine.{pick, is_start, is_dead, ended}
use Rattle.reading.specs.declared.machine.State.{State}
use Rattle.reading.specs.declared.machine.State.TheVariants.{Start, Second, Third, Tagged, Opened, Parted, Inside, Released, Dead}

pub data Course : State → Type 0 where
  ends : Course Start
  goes_on : {q : State} → is_start q ≡ false → is_dead q ≡ false → Course q
  fails : Course Dead

pub course : (q : State) → Course q
course Start = ends
course Second = goes_on refl refl
course Third = goes_on refl refl
course Tagged = goes_on refl refl
course Opened = goes_on refl refl
course Parted = goes_on refl refl
course Inside = goes_on refl refl
course Released = goes_on refl refl
course Dead = fails

-- no segment more has ended where one goes on
pub none_ended : (q : State) (n : ℕ) → is_start q ≡ false → ended q n ≡ n
none_ended q n t = ap (λ (x : Bool). pick x (n + 1) n) t
