-- How deep the lines of a plan lie.
use Prim.Native.Nat.{ℕ, zero, suc, ◌<◌}
use native.Mathlib.Omega.{arith}
use mathlib.Core.Path.{◌≡◌, refl}
use Rattle.guide.specs.meaning.Plan.{Plan, deep}

-- a line is one deeper than its depth says
pub line_deep : (b : Plan) (x : ℕ) → 0 < x → deep b x ≡ suc (b.depth x)
line_deep b zero h = absurd (omega arith)
line_deep b (suc x) h = refl
