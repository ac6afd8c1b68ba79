-- A rule run as a test. One law, in proofs/Rules.antt, says that a rule holds exactly when its test says so; so no rule of the book needs a
-- law of its own.
use Rattle.std.specs.Prelude.{ℕ, zero, suc, Bool, true, not, ◌&&◌, ◌||◌, eqb, leb}
use Rattle.book.specs.meaning.Rule.{Rule, ◌≐◌, ◌≼◌, ◌and◌, ◌or◌, ◌⇒◌, never, every}

-- a test of every number from the first on, so many of them
unfoldable pub all : ℕ → ℕ → (ℕ → Bool) → Bool
all first zero test = true
all first (suc count) test = test first && all (suc first) count test

abbrev pub run : Rule → Bool
run (a ≐ b) = eqb a b
run (a ≼ b) = leb a b
run (r and s) = run r && run s
run (r or s) = run r || run s
run (r ⇒ s) = not (run r) || run s
run (never r) = not (run r)
run (every first count r) = all first count (λ i. run (r i))
