-- Bytes one after the other, each with the number of entries that are lent with it, over one memory for starts.
use Rattle.std.specs.Prelude.{ℕ, List, [], ◌∷◌, ◌++◌, take, drop}
use Rattle.reading.specs.declared.service.Service.{Service}
use Rattle.pieces.specs.method.Progress.{Held, held, progress_by, starts_by}

abbrev pub ran_by : Service → Held → ℕ → ℕ → Held
ran_by s x b lent = held (progress_by s x.progress lent b) (starts_by s x.progress (take lent x.starts) b ++ drop lent x.starts)

unfoldable pub run : Service → Held → List ℕ → List ℕ → Held
run s x [] lents = x
run s x (b ∷ bs) [] = x
run s x (b ∷ bs) (lent ∷ lents) = run s (ran_by s x b lent) bs lents
