-- The line that a home opens or repeats.
use Rattle.std.specs.Prelude.{ℕ, pred, cond}
use Rattle.guide.specs.meaning.Plan.{Plan, is_trigger}

-- a trigger opens its group
unfoldable pub target : Plan → ℕ → ℕ
target b l = cond (is_trigger b l) (pred l) l
