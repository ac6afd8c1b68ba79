-- How the pass over the homes goes on from one segment to the next. Only the contracts of src/watch.rt speak of it;
-- what the instances are, and what is found in them, stands in Scanning.antt.
use Rattle.std.specs.Prelude.{ℕ, ◌<◌, ◌^◌, not, cond, ◌&&◌, eqb, Option, IfSome, Ok}
use Rattle.rules.specs.method.Scanning.{Outcome, instance_of, report_in}
use Rattle.rules.specs.declared.watch.Watch.{Watch}

-- a segment's number, or none; they count from 1
abbrev pub IsSegment : Option ℕ → Type 0
IsSegment o = IfSome o (λ t. (0 < t) × (t < 2 ^ 32))

-- what stands before the first trigger of a group is none of its instances
abbrev pub reported_at : Watch → ℕ → ℕ → ℕ → Outcome
reported_at w l t seen = cond (eqb t 0 && not (eqb w.trigger 0)) (Ok tt) (report_in w l (instance_of t seen))
