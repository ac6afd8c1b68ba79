-- The answer. 01, "Verdict numbers": "The call returns one answer record: number, place, line, element, component, condition;
-- entries not named are 0."
use Rattle.std.specs.Prelude.{ℕ, List, [], ◌∷◌}
use Rattle.framing.specs.declared.verdict.Place.{Place}
use Rattle.framing.specs.declared.verdict.Verdict.{Verdict}

abbrev pub place : ℕ → ℕ → ℕ → ℕ → Place
place k l e c = record { at = k; line = l; element = e; component = c }

abbrev pub verdict : ℕ → Place → ℕ → Verdict
verdict number k condition = record { number = number; place = k; condition = condition }

-- a number with its place alone
abbrev pub answer : ℕ → ℕ → Verdict
answer number k = verdict number (place k 0 0 0) 0

-- the record's numbers in 01's order
abbrev pub numbers_of : Verdict → List ℕ
numbers_of v = v.number ∷ v.place.at ∷ v.place.line ∷ v.place.element ∷ v.place.component ∷ v.condition ∷ []
