-- The Prüfidentifikator that a message names, as it is looked for. 01, number 13: "is not in the book".
use Rattle.std.specs.Prelude.{ℕ, zero, suc, List, cond, Option, Some, None}
use Rattle.guide.specs.meaning.Guide.{Guide}
use Rattle.reading.specs.meaning.Component.{same_component}
use Rattle.rules.specs.meaning.Identifiers.{identifier_value}

-- among so many from number p on; the numbers of a book's Prüfidentifikatoren count from 0
unfoldable pub identified_from : Guide → List ℕ → ℕ → ℕ → Option ℕ
identified_from g value p zero = None
identified_from g value p (suc count) = cond (same_component value (identifier_value g p)) (Some p) (identified_from g value (suc p) count)

abbrev pub identified : Guide → List ℕ → Option ℕ
identified g value = identified_from g value 0 g.identifiers
