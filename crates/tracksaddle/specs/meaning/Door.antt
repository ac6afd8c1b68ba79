-- What the C door hands over, where it differs from what the layers below hand up.
use Rattle.std.specs.Prelude.{ℕ, ◌-◌, List, [], ◌∷◌}
use Rattle.reading.specs.declared.span.Span.{Span}

-- a component's part as C gets it: offset and length
abbrev pub part_numbers : Span → List ℕ
part_numbers x = x.start ∷ (x.end - x.start) ∷ []
