-- The first row that some filling breaks, found by trying. What "some filling" and "every filling" mean stands in
-- rules/specs/meaning/Entries.antt.
use Rattle.std.specs.Prelude.{ℕ, ◌-◌, List, [], ◌∷◌, Bool, not, cond, ◌||◌, set}
use Rattle.guide.specs.meaning.Guide.{Guide}
use Rattle.rules.specs.meaning.Conditions.{Assignment, is_unknown, told}
use Rattle.rules.specs.meaning.Entries.{Entry, entries_of}
use Rattle.rules.specs.method.Scanning.{first_unknown}
use Rattle.rules.specs.method.Scanning.{Outcome}
use Rattle.rules.specs.declared.finding.Finding.TheVariants.{Broken, Unsettled}
use Rattle.std.specs.Prelude.{Ok, Err}

-- ---- "some filling", "every filling": of the conditions that a test looks at, one after the other, the unknown ones are tried
-- with false and with true (laws some_filling and every_filling)

-- the list where condition k is known
abbrev pub filled : List ℕ → ℕ → ℕ → List ℕ
filled cs k c = set cs (k - 1) c

unfoldable pub some : List ℕ → List ℕ → (Assignment → Bool) → Bool
some cs [] test = test (told cs)
some cs (k ∷ ks) test = cond (is_unknown cs k) (some (filled cs k 0) ks test || some (filled cs k 1) ks test) (some cs ks test)

abbrev pub every : List ℕ → List ℕ → (Assignment → Bool) → Bool
every cs ks test = not (some cs ks (λ a. not (test a)))

-- ---- among the rows

-- under one assignment: the first entry that it breaks
unfoldable pub found_under : Assignment → List Entry → Outcome
found_under a [] = Ok tt
found_under a (e ∷ es) = cond (e.is_broken_by a) (Err (Broken e.place e.line)) (found_under a es)

-- 01, number 14: "broken in every filling"; number 15: "broken in some fillings only", "lowest unknown condition of the row"
abbrev pub reported : List ℕ → Entry → Outcome
reported cs e =
    cond (every cs e.conditions e.is_broken_by) (Err (Broken e.place e.line)) (Err (Unsettled e.place e.line (first_unknown cs e.conditions)))

-- 01: "14 and 15 speak of the first row, by line and then by instance, that some filling breaks."
unfoldable pub found_among : List ℕ → List Entry → Outcome
found_among cs [] = Ok tt
found_among cs (e ∷ es) = cond (some cs e.conditions e.is_broken_by) (reported cs e) (found_among cs es)

abbrev pub first_row : Guide → ℕ → List ℕ → List ℕ → List ℕ → Outcome
first_row g p cs hs ps = found_among cs (entries_of g p hs ps)
