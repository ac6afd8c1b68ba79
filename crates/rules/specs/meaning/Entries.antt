-- The rows of a message, in the order in which the first one at fault is told, and which fillings break one. 01, numbers 14 and 15.
use Rattle.std.specs.Prelude.{ℕ, zero, suc, ◌≡◌, List, [], ◌∷◌, ◌++◌, Bool, true}
use Rattle.guide.specs.meaning.Guide.{Guide}
use Rattle.guide.specs.meaning.View.{row_of, Row}
use Rattle.guide.specs.meaning.Plan.{plan_of}
use Rattle.guide.specs.meaning.Tree.{owner}
use Rattle.rules.specs.meaning.Conditions.{Assignment, Filling}
use Rattle.rules.specs.meaning.Rows.{expression, conditions_of, is_broken}
use Rattle.rules.specs.meaning.Instances.{instances_of, first_of, is_present, place_in}

-- a row in one instance of its line's parent: where it is reported, the conditions that it names, and which assignments break it
pub record Entry : Type 0 where
  pub place : ℕ
  pub line : ℕ
  pub conditions : List ℕ
  pub is_broken_by : Assignment → Bool

-- of row w, of line l, in instance t, where the line's first segment is `seen`
abbrev pub entry_for : Row → ℕ → ℕ → ℕ → Entry
entry_for w l t seen =
    record {
      place = place_in t seen;
      line = l;
      conditions = conditions_of w;
      is_broken_by = λ a. is_broken w.mode (is_present seen) (expression w a);
    }

unfoldable pub entries_in : Guide → ℕ → ℕ → List ℕ → List ℕ → List ℕ → List Entry
entries_in g p l hs ps [] = []
entries_in g p l hs ps (t ∷ ts) = entry_for (row_of g p l) l t (first_of (plan_of g) l t hs ps) ∷ entries_in g p l hs ps ts

-- 01: "by line and then by instance": so many lines from line l on
unfoldable pub entries_from : Guide → ℕ → List ℕ → List ℕ → ℕ → ℕ → List Entry
entries_from g p hs ps l zero = []
entries_from g p hs ps l (suc count) = entries_in g p l hs ps (instances_of (owner (plan_of g) l) hs) ++ entries_from g p hs ps (suc l) count

abbrev pub entries_of : Guide → ℕ → List ℕ → List ℕ → List Entry
entries_of g p hs ps = entries_from g p hs ps 1 g.lines

-- ---- over the fillings of the unknown conditions

-- "broken in some fillings", "broken in every filling"
pub record SomeBreaks (cs : List ℕ) (e : Entry) : Type 0 where
  pub filling : Assignment
  pub fills : Filling cs filling
  pub breaks : e.is_broken_by filling ≡ true

abbrev pub EveryBreaks : List ℕ → Entry → Type 0
EveryBreaks cs e = (a : Assignment) → Filling cs a → e.is_broken_by a ≡ true
