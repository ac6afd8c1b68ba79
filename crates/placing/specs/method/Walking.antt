-- The walk through the lines as it is done, home by home: the open lines, outermost first, each with how often it has come in its
-- parent's instance. No open line is a refusal. 01: "The open line and a count kept for each of the eight depths tell how far it
-- has come." The laws of placing_laws say what the walk means in terms of placement trees.
use Rattle.std.specs.Prelude.{ℕ, zero, suc, ◌-◌, ◌≤◌, ◌<◌, ◌≡◌, List, [], ◌∷◌, ◌++◌, Bool, true, false, cond, not, ◌&&◌, eqb, ltb, leb, length, get_or, take, drop}
use Rattle.guide.specs.meaning.Plan.{Plan, is_trigger}
use Rattle.guide.specs.method.Targets.{target}
use Rattle.placing.specs.declared.walk.Level.{Level}
use Rattle.placing.specs.declared.walk.Walk.{Walk}

abbrev pub level : ℕ → ℕ → Level
level l n = record { line = l; count = n }

-- before the first home: line 0 stands where the lines of depth 0 will
abbrev pub start : List Level
start = level 0 1 ∷ []

-- ---- the line that a home opens or repeats

-- a home is a line of the book, and no group
pub record SegmentLine (b : Plan) (l : ℕ) : Type 0 where
  pub some : 0 < l
  pub within : l ≤ b.lines
  pub segment : b.group l ≡ false

-- a segment line, whose place (with its group's, if it opens one) lies within the eight depths
unfoldable pub is_placeable : Plan → ℕ → Bool
is_placeable b l = ltb 0 l && (leb l b.lines && (not (b.group l) && ltb (b.depth (target b l)) (cond (is_trigger b l) 7 8)))

-- ---- leaving lines out

-- line x, met while lines of depth d are awaited, must not be left out
abbrev pub is_wanted : Plan → ℕ → ℕ → Bool
is_wanted b d x = eqb (b.depth x) d && b.required x

-- of so many lines from x on, as far as they belong to an instance with lines of depth d: none of depth d is required
unfoldable pub is_clear : Plan → ℕ → ℕ → ℕ → Bool
is_clear b d x zero = true
is_clear b d x (suc n) = cond (ltb (b.depth x) d) true (not (is_wanted b d x) && is_clear b d (suc x) n)

-- so many lines from x on all belong to an instance with lines of depth d, and none of depth d is required
unfoldable pub is_passed : Plan → ℕ → ℕ → ℕ → Bool
is_passed b d x zero = true
is_passed b d x (suc n) = not (ltb (b.depth x) d) && (not (is_wanted b d x) && is_passed b d (suc x) n)

-- nothing that is required is missing behind the open line of depth d
abbrev pub can_close : Plan → ℕ → Level → Bool
can_close b d v = is_clear b d (suc v.line) (b.lines - v.line)

-- every open instance with lines of depth d and deeper can be closed
unfoldable pub can_close_all : Plan → ℕ → List Level → Bool
can_close_all b d [] = true
can_close_all b d (v ∷ vs) = can_close b d v && can_close_all b (suc d) vs

-- ---- one home more

-- from the open line to line t: once more, or on
abbrev pub can_move : Plan → Level → ℕ → Bool
can_move b v t = cond (eqb v.line t) (ltb v.count (b.maximum t)) (ltb v.line t && is_passed b (b.depth t) (suc v.line) (t - suc v.line))

unfoldable pub admits : Plan → List Level → ℕ → Bool
admits b vs t =
    ltb (b.depth t) (length vs)
    && (can_move b (get_or vs (b.depth t) (level 0 0)) t && can_close_all b (suc (b.depth t)) (drop (suc (b.depth t)) vs))

abbrev pub raised : Level → ℕ → Level
raised v t = level t (cond (eqb v.line t) (suc v.count) 1)

-- the open lines where line t, of depth d, has come once more
unfoldable pub stacked : ℕ → List Level → ℕ → List Level
stacked d vs t = take d vs ++ (raised (get_or vs d (level 0 0)) t ∷ [])

-- the trigger is the first line of the instance that it opens
abbrev pub entered : Bool → ℕ → List Level
entered true l = level l 1 ∷ []
entered false l = []

unfoldable pub advanced : Plan → List Level → ℕ → List Level
advanced b vs l =
    cond (is_placeable b l && admits b vs (target b l)) (stacked (b.depth (target b l)) vs (target b l) ++ entered (is_trigger b l) l) []

unfoldable pub walked : Plan → List Level → List ℕ → List Level
walked b vs [] = vs
walked b vs (l ∷ ls) = walked b (advanced b vs l) ls

abbrev pub is_alive : List Level → Bool
is_alive [] = false
is_alive (v ∷ vs) = true

-- ---- the state that the code keeps

abbrev pub open_lines : Walk → List Level
open_lines w = w.levels.items
