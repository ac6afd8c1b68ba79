-- The components of a segment as they are written, release bytes included: for any bytes and any service characters.
-- 01, "Bytes of a message": a separator that is not released ends a component, an element or the segment.
use Rattle.std.specs.Prelude.{ℕ, List, [], ◌∷◌, Bool, true, false, ◌||◌}
use Rattle.reading.specs.method.Machine.{kind_of}
use Rattle.reading.specs.declared.service.Service.{Service}
use Rattle.reading.specs.declared.bytes.Kind.{Kind}
use Rattle.reading.specs.declared.bytes.Kind.TheVariants.{Component, Element, Terminator, Release, Plain, Other}

abbrev pub Raw : Type 0
Raw = List ℕ

-- what is left of a segment, from inside a component on: of the component, of its element, and the further elements
pub data Cut : Type 0 where
  pieces : Raw → List Raw → List (List Raw) → Cut

abbrev pub add_byte : ℕ → Cut → Cut
add_byte b (pieces x xs es) = pieces (b ∷ x) xs es

abbrev pub add_component : Cut → Cut
add_component (pieces x xs es) = pieces [] (x ∷ xs) es

abbrev pub add_element : Cut → Cut
add_element (pieces x xs es) = pieces [] [] ((x ∷ xs) ∷ es)

-- by the kind of a byte that is not released; `rest` is of what stands behind it: is the next byte released?
abbrev pub cut_by : Kind → ℕ → (Bool → Cut) → Cut
cut_by Component b rest = add_component (rest false)
cut_by Element b rest = add_element (rest false)
cut_by Terminator b rest = pieces [] [] []
cut_by Release b rest = add_byte b (rest true)
cut_by Plain b rest = add_byte b (rest false)
cut_by Other b rest = add_byte b (rest false)

unfoldable pub cut : Service → Bool → List ℕ → Cut
cut s r [] = pieces [] [] []
cut s true (b ∷ bs) = add_byte b (cut s false bs)
cut s false (b ∷ bs) = cut_by (kind_of s b) b (λ r. cut s r bs)

abbrev pub components_in : Cut → List Raw
components_in (pieces x xs es) = x ∷ xs

abbrev pub further_in : Cut → List (List Raw)
further_in (pieces x xs es) = es

unfoldable pub has_bytes : Raw → Bool
has_bytes [] = false
has_bytes (b ∷ bs) = true

unfoldable pub any_bytes : List Raw → Bool
any_bytes [] = false
any_bytes (x ∷ xs) = has_bytes x || any_bytes xs
