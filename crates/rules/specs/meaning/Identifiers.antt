-- The Prüfidentifikator's value. 01, number 13.
use Rattle.std.specs.Prelude.{ℕ, List, [], ◌∷◌}
use Rattle.guide.specs.meaning.Guide.{Guide}

-- 01: "five digits"
abbrev pub identifier_value : Guide → ℕ → List ℕ
identifier_value g p = g.identifier_byte p 0 ∷ g.identifier_byte p 1 ∷ g.identifier_byte p 2 ∷ g.identifier_byte p 3 ∷ g.identifier_byte p 4 ∷ []
