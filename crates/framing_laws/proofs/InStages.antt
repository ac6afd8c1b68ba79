-- "It stops at the first fault in this order": a stage, and what comes behind it.
use mathlib.Core.Path.{◌≡◌, refl, ap, ◌∙◌}
use mathlib.Core.Bool.{Bool, true, false, cond}
use lib.Dec.{eqb}
use Rattle.framing.specs.declared.verdict.Verdict.{Verdict}

-- a fault is the answer; otherwise the next stage decides, which may look at what was answered
abbrev pub then : Verdict → (Verdict → Verdict) → Verdict
then v next = cond (eqb v.number 0) (next v) v

pub then_then : (v : Verdict) (f g : Verdict → Verdict) → then (then v f) g ≡ then v (λ x. then (f x) g)
then_then v f g = go (eqb v.number 0) refl
  where
    go : (b : Bool) → eqb v.number 0 ≡ b → then (cond b (f v) v) g ≡ cond b (then (f v) g) v
    go true e = refl
    go false e = rw e

pub then_fault_lem : (b : Bool) (x y : Verdict) (f : Verdict → Verdict) → eqb x.number 0 ≡ false → then (cond b y x) f ≡ cond b (then y f) x
then_fault_lem true x y f e = refl
then_fault_lem false x y f e = rw e

-- so it may be asked of each stage by itself
pub then_good : (b : Bool) (x y : Verdict) (f : Verdict → Verdict) → eqb x.number 0 ≡ false → eqb y.number 0 ≡ true → then (cond b y x) f ≡ cond b (f y) x
then_good b x y f e h = then_fault_lem b x y f e ∙ ap (λ (z : Verdict). cond b z x) (rw h)
