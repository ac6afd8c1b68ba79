-- What the test of a message's homes answers, and what each answer says. 01, numbers 10 and 11.
use Rattle.std.specs.Prelude.{⊤, ℕ, List, Result, Ok, Err}
use Rattle.guide.specs.meaning.Plan.{Plan}
use Rattle.placing.specs.meaning.Placement as placement
use Rattle.placing.specs.meaning.Answers.{HaveHomes, FirstWithout}
use Rattle.placing.specs.declared.passes.Unplaced.{Unplaced}
use Rattle.placing.specs.declared.passes.Unplaced.TheVariants.{NoHome, Stops}

abbrev pub Means : Plan → List ℕ → Result ⊤ Unplaced → Type 0
Means b hs (Ok _) = HaveHomes hs × placement.Begins b hs
Means b hs (Err (NoHome k)) = FirstWithout hs k
Means b hs (Err (Stops k)) = HaveHomes hs × placement.Stops b hs k
