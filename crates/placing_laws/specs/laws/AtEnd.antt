-- The end of a walk. No code asks for it: that a message ends on the last line is known from its tags (01, number 7).
use Rattle.std.specs.Prelude.{List, [], ◌∷◌, Bool, false, eqb}
use Rattle.guide.specs.meaning.Plan.{Plan}
use Rattle.placing.specs.declared.walk.Level.{Level}

-- the walk has come to the last line
abbrev pub is_at_end : Plan → List Level → Bool
is_at_end b [] = false
is_at_end b (v ∷ []) = eqb v.line b.lines
is_at_end b (v ∷ w ∷ vs) = false
