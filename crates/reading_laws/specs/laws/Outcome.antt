-- What each answer of the reading says of the bytes, and where segments start.
use Rattle.std.specs.Prelude.{ℕ, ◌≡◌, List, length, take}
use Rattle.reading.specs.meaning.Message.{Message, render}
use Rattle.reading.specs.meaning.WellFormed.{WellFormed, FirstBad}
use Rattle.reading.specs.method.Outcome.{Outcome, Segments, BadAt}
use Rattle.reading.specs.declared.service.Service.{Service}

abbrev pub Means : Service → List ℕ → Outcome → Type 0
Means s bs (Segments n) = (w : WellFormed s bs) × (length w.message ≡ n)
Means s bs (BadAt k) = FirstBad s bs k

-- where the segment behind the first k starts: behind what is written of those
abbrev pub start_after : Service → Message → ℕ → ℕ
start_after s m k = length (render s (take k m))
