-- The test of a segment against its line's fields as it is done: one pass over its components, as they are written, and over the
-- fields. Total for any bytes, any book and any service characters; the laws of fields_laws say that it finds the least fault.
use Rattle.std.specs.Prelude.{ℕ, suc, ◌+◌, ◌≤◌, List, [], ◌∷◌, Bool, false, cond, not, ◌&&◌, ◌||◌, Result, Ok, Err, eqb, leb, length, drop}
use Rattle.guide.specs.meaning.Guide.{Guide}
use Rattle.guide.specs.meaning.View.{numbers_from}
use Rattle.guide.specs.meaning.Words.{number_form, empty_presence, must_presence, with_element_presence}
use Rattle.guide.specs.method.Codes.{is_any_code}
use Rattle.reading.specs.meaning.Component.{value_of}
use Rattle.reading.specs.declared.service.Service.{Service}
use Rattle.fields.specs.method.Number.{is_number}
use Rattle.fields.specs.meaning.Number.{figures}
use Rattle.fields.specs.meaning.Fields.{at_fault}
use Rattle.fields.specs.method.Parts.{Raw, cut, further_in, has_bytes, any_bytes}
use Rattle.fields.specs.declared.fault.Fault.{Fault}
use Rattle.fields.specs.declared.passes.FirstFault.{FirstFault}

-- ---- one component and the field that names it. Fields go by their number in the book.

-- "first code (2) and count (2), count 0 for any value"
unfoldable pub has_code : Guide → ℕ → Raw → Bool
has_code g f x = eqb (g.value_count f) 0 || is_any_code g (g.first_value f) (g.value_count f) x

-- 01: "Length counts the value's bytes"
unfoldable pub fits_text : Service → Guide → ℕ → Raw → Bool
fits_text s g f x = leb (length (value_of s x)) (g.longest f) && has_code g f x

-- 01: "for `n` the minus and the mark do not count". No byte of a number is ever released.
unfoldable pub fits_number : Service → Guide → ℕ → Raw → Bool
fits_number s g f x = is_number s x && (leb (figures s x) (g.longest f) && has_code g f x)

-- "form (1 an, 2 n)"
unfoldable pub fits : Service → Guide → ℕ → Raw → Bool
fits s g f x = cond (eqb (g.form f) number_form) (fits_number s g f x) (fits_text s g f x)

-- "1 must have bytes, .., 3 must if any component of its element has bytes"
unfoldable pub is_missing : Guide → Bool → ℕ → Bool
is_missing g some f = eqb (g.presence f) must_presence || (eqb (g.presence f) with_element_presence && some)

-- "0 must be empty"; 01: "Form, length and codes are tested where the value has bytes."
unfoldable pub is_broken : Service → Guide → Bool → ℕ → Raw → Bool
is_broken s g some f x = cond (has_bytes x) (eqb (g.presence f) empty_presence || not (fits s g f x)) (is_missing g some f)

abbrev pub names : Guide → ℕ → ℕ → ℕ → Bool
names g e c f = eqb (g.element f) e && eqb (g.component f) c

-- does the first of the fields that are left name the component? They rise, so no other can.
unfoldable pub names_first : Guide → ℕ → ℕ → List ℕ → Bool
names_first g e c [] = false
names_first g e c (f ∷ fs) = names g e c f

-- ---- the components of an element, and the fields that are left

-- this component is at fault; or none was, and these fields are left
pub data Tested : Type 0 where
  broken : ℕ → Tested
  kept : List ℕ → Tested

abbrev pub then_test : Tested → (List ℕ → Tested) → Tested
then_test (broken c) more = broken c
then_test (kept fs) more = more fs

-- 01: "A component with bytes that no field names is a fault."
abbrev pub test_unnamed : ℕ → Raw → List ℕ → Tested
test_unnamed c x fs = cond (has_bytes x) (broken c) (kept fs)

unfoldable pub test_component : Service → Guide → Bool → ℕ → ℕ → Raw → List ℕ → Tested
test_component s g some e c x [] = test_unnamed c x []
test_component s g some e c x (f ∷ fs) = cond (names g e c f) (cond (is_broken s g some f x) (broken c) (kept fs)) (test_unnamed c x (f ∷ fs))

-- the fields of an element beyond its last component: 01: "An absent component has the empty value."
unfoldable pub test_absent : Guide → Bool → ℕ → List ℕ → Tested
test_absent g some e [] = kept []
test_absent g some e (f ∷ fs) =
    cond (eqb (g.element f) e) (cond (is_missing g some f) (broken (g.component f)) (test_absent g some e fs)) (kept (f ∷ fs))

-- the components from c on
unfoldable pub test_components : Service → Guide → Bool → ℕ → ℕ → List Raw → List ℕ → Tested
test_components s g some e c [] fs = test_absent g some e fs
test_components s g some e c (x ∷ xs) fs = then_test (test_component s g some e c x fs) (test_components s g some e (suc c) xs)

abbrev pub test_element : Service → Guide → ℕ → List Raw → List ℕ → Tested
test_element s g e xs fs = test_components s g (any_bytes xs) e 1 xs fs

-- ---- the elements of a segment

abbrev pub then_fault : ℕ → Tested → (List ℕ → Result (Unit {0}) Fault) → Result (Unit {0}) Fault
then_fault e (broken c) more = at_fault e c
then_fault e (kept fs) more = more fs

-- the fields of elements beyond the last: none of these has bytes
unfoldable pub test_rest : Guide → List ℕ → Result (Unit {0}) Fault
test_rest g [] = Ok tt
test_rest g (f ∷ fs) = cond (is_missing g false f) (at_fault (g.element f) (g.component f)) (test_rest g fs)

-- the elements from e on
unfoldable pub test_elements : Service → Guide → ℕ → List (List Raw) → List ℕ → Result (Unit {0}) Fault
test_elements s g e [] fs = test_rest g fs
test_elements s g e (x ∷ xs) fs = then_fault e (test_element s g e x fs) (test_elements s g (suc e) xs)

-- of the segment whose tag starts at an offset. The tag has three bytes; what stands between it and the first element, in bytes that
-- are no well-formed segment, is passed over.
unfoldable pub fault_at : Service → Guide → List ℕ → ℕ → ℕ → Result (Unit {0}) Fault
fault_at s g bs at line = test_elements s g 1 (further_in (cut s false (drop (at + 3) bs))) (numbers_from (g.first_field line) (g.field_count line))

-- its numbers are small beside those of 32 bits, where the message is not longer than 01 allows
abbrev pub Near : ℕ → ℕ → Type 0
Near n x = x ≤ n + 256

abbrev pub InReach : ℕ → Result (Unit {0}) Fault → Type 0
InReach n (Err x) = Near n x.element × Near n x.component
InReach n (Ok _) = Unit {0}

-- ---- the segments of a message, k of them before these: 01, number 12: "first place, its line, and the smallest (element,
-- component) at fault there"

abbrev pub first_at : ℕ → ℕ → ℕ → ℕ → Result (Unit {0}) FirstFault
first_at place line e c = Err (record { place = place; line = line; element = e; component = c })

abbrev pub then_first : ℕ → ℕ → Result (Unit {0}) Fault → Result (Unit {0}) FirstFault → Result (Unit {0}) FirstFault
then_first k line (Err x) more = first_at (suc k) line x.element x.component
then_first k line (Ok _) more = more

unfoldable pub first_fault : Service → Guide → List ℕ → ℕ → List ℕ → List ℕ → Result (Unit {0}) FirstFault
first_fault s g bs k [] homes = Ok tt
first_fault s g bs k (at ∷ starts) [] = Ok tt
first_fault s g bs k (at ∷ starts) (line ∷ homes) = then_first k line (fault_at s g bs at line) (first_fault s g bs (suc k) starts homes)

abbrev pub FirstInReach : ℕ → Result (Unit {0}) FirstFault → Type 0
FirstInReach n (Err x) = Near n x.element × Near n x.component
FirstInReach n (Ok _) = Unit {0}
