-- The group that a line belongs to.
use Rattle.std.specs.Prelude.{ℕ, zero, suc, cond, ltb}
use Rattle.guide.specs.meaning.Plan.{Plan, deep}

-- the last line before x that lies higher than d, 0 for the message
unfoldable pub climb : Plan → ℕ → ℕ → ℕ
climb b d zero = 0
climb b d (suc x) = cond (ltb (deep b x) d) x (climb b d x)

-- the group that a line belongs to, 0 for the message
abbrev pub owner : Plan → ℕ → ℕ
owner b l = climb b (deep b l) l
