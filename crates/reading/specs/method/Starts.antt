-- Where segments start, as a cursor finds them in any bytes. 01: "A reading place moves on from segment to segment."; "tag
-- offsets".
use Rattle.std.specs.Prelude.{ℕ, zero, suc, List, [], ◌∷◌, map, Option, Some, None}
use Rattle.std.proofs.lemmas.List.Edits.{sets}
use Rattle.slices.specs.method.Entries.{entry}
use Rattle.reading.specs.method.Machine.{next_segment}
use Rattle.reading.specs.declared.service.Service.{Service}
use Rattle.reading.specs.declared.cursor.Cursor.{Cursor}
use Rattle.reading.specs.declared.span.Span.{Span}

abbrev pub starts_then : Option (Span × Cursor) → (ℕ → List ℕ) → ℕ → List ℕ
starts_then (Some (x, next)) more at = at ∷ more next.at
starts_then None more at = []

-- where the first n segments start that a cursor finds from an offset on, as many as there are
unfoldable pub starts_from : Service → List ℕ → ℕ → ℕ → List ℕ
starts_from s bs zero at = []
starts_from s bs (suc n) at = starts_then (next_segment s bs at) (starts_from s bs n) at

-- in a lent table: `sets table 0 xs` is the table with these entries from the first on, as many as fit
abbrev pub starts_table : Service → List ℕ → ℕ → List ℕ → List ℕ
starts_table s bs n table = sets table 0 (map entry (starts_from s bs n 0))
