-- Where a row applies, and whether its line is present there. 01: "Rows apply once per instance of the line's parent (once for the
-- root). A line is present there if it has at least one segment or instance." All of it is read off the homes and the tree.
use Rattle.std.specs.Prelude.{ℕ, zero, suc, List, [], ◌∷◌, Bool, not, cond, ◌&&◌, eqb}
use Rattle.guide.specs.meaning.Plan.{Plan, is_trigger}

-- the segments of home h, by their numbers, where the first of these has number j
unfoldable pub segments_of : ℕ → ℕ → List ℕ → List ℕ
segments_of h j [] = []
segments_of h j (x ∷ xs) = cond (eqb x h) (j ∷ segments_of h (suc j) xs) (segments_of h (suc j) xs)

-- the instances of a group, each by its trigger's number; the message itself, line 0, has one, 0
abbrev pub instances_of : ℕ → List ℕ → List ℕ
instances_of zero hs = 0 ∷ []
instances_of (suc g) hs = segments_of (suc (suc g)) 1 hs

-- the segments that show a line: its own; for a group the triggers of its instances
abbrev pub shown_by : Plan → ℕ → ℕ
shown_by b l = cond (b.group l) (suc l) l

-- the first segment of home h whose parent is instance t, 0 if there is none; the first of these has number j
unfoldable pub first_in : ℕ → ℕ → ℕ → List ℕ → List ℕ → ℕ
first_in h t j [] ps = 0
first_in h t j (x ∷ xs) [] = 0
first_in h t j (x ∷ xs) (p ∷ ps) = cond (eqb x h && eqb p t) j (first_in h t (suc j) xs ps)

-- a line's first segment in instance t of its parent, 0 if it is not present there. A trigger stands in the instance that it opens,
-- though the tree points to the one around.
abbrev pub first_of : Plan → ℕ → ℕ → List ℕ → List ℕ → ℕ
first_of b l t hs ps = cond (is_trigger b l) t (first_in (shown_by b l) t 1 hs ps)

abbrev pub is_present : ℕ → Bool
is_present seen = not (eqb seen 0)

-- 01: "Its place is the line's first segment in the instance if present, otherwise the parent's trigger (1 for the root)."
abbrev pub place_in : ℕ → ℕ → ℕ
place_in t seen = cond (eqb seen 0) (cond (eqb t 0) 1 t) seen
