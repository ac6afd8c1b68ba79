-- A component's value, and where it lies. 01, "Bytes of a message", second paragraph.
use Rattle.std.specs.Prelude.{ℕ, zero, suc, ◌+◌, List, [], ◌∷◌, Bool, true, false, ◌&&◌, length, eqb}
use Rattle.reading.specs.meaning.Message.{Component, Element, Segment, write_component, write_element}
use Rattle.reading.specs.meaning.WellFormed.{SegmentAt, NoSegmentAt, end_of}
use Rattle.reading.specs.declared.service.Service.{Service}
use Rattle.reading.specs.declared.span.Span.{Span}

-- ---- the value

abbrev pub kept_or_released : Bool → ℕ → List ℕ → List ℕ → List ℕ
kept_or_released true b kept released = released
kept_or_released false b kept released = b ∷ kept

-- 01: "A component's value is its bytes with each releasing `?` removed." The Bool: the next byte is released.
unfoldable pub value_from : Service → Bool → List ℕ → List ℕ
value_from s r [] = []
value_from s true (b ∷ bs) = b ∷ value_from s false bs
value_from s false (b ∷ bs) = kept_or_released (eqb b s.release) b (value_from s false bs) (value_from s true bs)

abbrev pub value_of : Service → List ℕ → List ℕ
value_of s bs = value_from s false bs

abbrev pub components_of : Element → List Component
components_of x = x.first ∷ x.more

-- the component with c others before it, in its element with e others before it; 01: "An absent component has the empty value."
abbrev pub value_in_components : ℕ → List Component → Component
value_in_components c [] = []
value_in_components zero (v ∷ vs) = v
value_in_components (suc c) (v ∷ vs) = value_in_components c vs

abbrev pub value_in_elements : ℕ → ℕ → List Element → Component
value_in_elements e c [] = []
value_in_elements zero c (x ∷ xs) = value_in_components c (components_of x)
value_in_elements (suc e) c (x ∷ xs) = value_in_elements e c xs

-- 01: "Elements count from 1, components from 1 within their element."
abbrev pub value_at : Segment → ℕ → ℕ → Component
value_at g zero c = []
value_at g (suc e) zero = []
value_at g (suc e) (suc c) = value_in_elements e c g.elements

-- ---- the place, counted from the message's first byte

pub data ComponentPlace : Type 0 where
  -- where its bytes start and where they end; an empty one has a place of its own
  present : ℕ → ℕ → ComponentPlace
  -- where the segment's `'` stands
  absent : ℕ → ComponentPlace
  -- 01: "If element or component is 0, or no well-formed segment starts at the given offset"
  nowhere : ComponentPlace

-- the component with c of these before it, the first of which starts at `at`, in a segment whose `'` stands at `end`
abbrev pub place_in_components : Service → ℕ → ℕ → ℕ → List Component → ComponentPlace
place_in_components s end at c [] = absent end
place_in_components s end at zero (v ∷ vs) = present at (at + length (write_component s v []))
place_in_components s end at (suc c) (v ∷ vs) = place_in_components s end (at + length (write_component s v []) + 1) c vs

-- the same in the element with e of these before it, the first of which is opened at `at`
abbrev pub place_in_elements : Service → ℕ → ℕ → ℕ → ℕ → List Element → ComponentPlace
place_in_elements s end at e c [] = absent end
place_in_elements s end at zero c (x ∷ xs) = place_in_components s end (at + 1) c (components_of x)
place_in_elements s end at (suc e) c (x ∷ xs) = place_in_elements s end (at + length (write_element s x [])) e c xs

-- of a segment whose tag starts at `at`
abbrev pub place_in : Service → ℕ → Segment → ℕ → ℕ → ComponentPlace
place_in s at g zero c = nowhere
place_in s at g (suc e) zero = nowhere
place_in s at g (suc e) (suc c) = place_in_elements s (end_of s at g) (at + 3) e c g.elements

-- where a component lies in any bytes
pub data Lies (s : Service) (bs : List ℕ) (at e c : ℕ) : ComponentPlace → Type 0 where
  in_segment : (g : Segment) → SegmentAt s bs at g → Lies s bs at e c (place_in s at g e c)
  no_segment : NoSegmentAt s bs at → Lies s bs at e c nowhere

abbrev pub span : ℕ → ℕ → Span
span a b = record { start = a; end = b }

-- 01: "if absent, as the empty part at the segment's `'`"; nowhere: "the empty part at the message's end comes back"
abbrev pub span_of : ℕ → ComponentPlace → Span
span_of total (present a b) = span a b
span_of total (absent end) = span end end
span_of total nowhere = span total total

-- ---- two values

unfoldable pub same_component : List ℕ → List ℕ → Bool
same_component [] [] = true
same_component [] (y ∷ ys) = false
same_component (x ∷ xs) [] = false
same_component (x ∷ xs) (y ∷ ys) = eqb x y && same_component xs ys
