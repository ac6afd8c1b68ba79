-- The reading as it is done, byte by byte: definitions that compute, total for any five service characters.
-- The laws of reading_laws say that, under a good set, they mean what Message, WellFormed and Component say.
use Rattle.std.specs.Prelude.{ℕ, ◌+◌, List, [], ◌∷◌, Bool, true, false, not, ◌&&◌, eqb, leb, ltb, length, drop, Option, Some, None}
use Rattle.reading.specs.meaning.Service.{is_data, is_tag_byte}
use Rattle.reading.specs.meaning.Component.{span}
use Rattle.reading.specs.declared.service.Service.{Service}
use Rattle.reading.specs.declared.span.Span.{Span}
use Rattle.reading.specs.declared.bytes.Kind.{Kind}
use Rattle.reading.specs.declared.bytes.Kind.TheVariants.{Component, Element, Terminator, Release, Plain, Other}
use Rattle.reading.specs.declared.machine.State.{State}
use Rattle.reading.specs.declared.machine.State.TheVariants.{Start, Second, Third, Tagged, Opened, Parted, Inside, Released, Dead}
use Rattle.reading.specs.method.Outcome.{Outcome, Segments, BadAt}
use Rattle.reading.specs.declared.cursor.Cursor.{Cursor}

-- ---- a byte

abbrev pub pick : {A : Type 0} → Bool → A → A → A
pick true a b = a
pick false a b = b

unfoldable pub kind_of : Service → ℕ → Kind
kind_of s b =
    pick (eqb b s.release) Release
    (pick (eqb b s.component) Component
    (pick (eqb b s.element) Element
    (pick (eqb b s.terminator) Terminator
    (pick (is_data b) Plain Other))))

-- data of ASCII that ends neither an element nor a segment and releases nothing
unfoldable pub is_text : Service → ℕ → Bool
is_text s b = leb 0x20 b && (leb b 0x7e && (not (eqb b s.terminator) && (not (eqb b s.element) && not (eqb b s.release))))

-- ---- a step

abbrev pub after_tag : Bool → State → State
after_tag true next = next
after_tag false next = Dead

-- 01: "then elements each opened by `+`, then `'`"
abbrev pub after_tagged : Kind → State
after_tagged Component = Dead
after_tagged Element = Opened
after_tagged Terminator = Start
after_tagged Release = Dead
after_tagged Plain = Dead
after_tagged Other = Dead

-- 02, T-05: "`'` directly after an unreleased `+`"
abbrev pub after_opened : Kind → State
after_opened Component = Parted
after_opened Element = Opened
after_opened Terminator = Dead
after_opened Release = Released
after_opened Plain = Inside
after_opened Other = Dead

-- 02, T-05: "`+` or `'` directly after an unreleased `:`"
abbrev pub after_parted : Kind → State
after_parted Component = Parted
after_parted Element = Dead
after_parted Terminator = Dead
after_parted Release = Released
after_parted Plain = Inside
after_parted Other = Dead

abbrev pub after_inside : Kind → State
after_inside Component = Parted
after_inside Element = Opened
after_inside Terminator = Start
after_inside Release = Released
after_inside Plain = Inside
after_inside Other = Dead

abbrev pub after_released : Kind → State
after_released Component = Inside
after_released Element = Inside
after_released Terminator = Inside
after_released Release = Inside
after_released Plain = Dead
after_released Other = Dead

abbrev pub stepped : Service → State → ℕ → State
stepped s Start b = after_tag (is_tag_byte b) Second
stepped s Second b = after_tag (is_tag_byte b) Third
stepped s Third b = after_tag (is_tag_byte b) Tagged
stepped s Tagged b = after_tagged (kind_of s b)
stepped s Opened b = after_opened (kind_of s b)
stepped s Parted b = after_parted (kind_of s b)
stepped s Inside b = after_inside (kind_of s b)
stepped s Released b = after_released (kind_of s b)
stepped s Dead b = Dead

abbrev pub is_start : State → Bool
is_start Start = true
is_start Second = false
is_start Third = false
is_start Tagged = false
is_start Opened = false
is_start Parted = false
is_start Inside = false
is_start Released = false
is_start Dead = false

abbrev pub is_dead : State → Bool
is_dead Start = false
is_dead Second = false
is_dead Third = false
is_dead Tagged = false
is_dead Opened = false
is_dead Parted = false
is_dead Inside = false
is_dead Released = false
is_dead Dead = true

-- ---- a scan

-- so many segments have ended, and one more where a state says so
abbrev pub ended : State → ℕ → ℕ
ended p n = pick (is_start p) (n + 1) n

abbrev pub finished : State → ℕ → ℕ → Outcome
finished p n at = pick (is_start p && ltb 0 n) (Segments n) (BadAt at)

unfoldable pub scan_on : Service → State → ℕ → ℕ → List ℕ → Outcome
scan_on s p n at [] = finished p n at
scan_on s p n at (b ∷ bs) = pick (is_dead (stepped s p b)) (BadAt at) (scan_on s (stepped s p b) (ended (stepped s p b) n) (at + 1) bs)

abbrev pub scanned : Service → List ℕ → Outcome
scanned s bs = scan_on s Start 0 0 bs

-- the first byte behind which reading is past a fault; the end if there is none
unfoldable pub bad_on : Service → State → ℕ → List ℕ → ℕ
bad_on s p at [] = at
bad_on s p at (b ∷ bs) = pick (is_dead (stepped s p b)) at (bad_on s (stepped s p b) (at + 1) bs)

abbrev pub bad_from : Service → List ℕ → ℕ → ℕ
bad_from s bs from = bad_on s Start from (drop from bs)

-- ---- a segment's end

unfoldable pub end_on : Service → State → ℕ → List ℕ → Option ℕ
end_on s p at [] = None
end_on s p at (b ∷ bs) =
    pick (is_start (stepped s p b)) (Some at)
    (pick (is_dead (stepped s p b)) None (end_on s (stepped s p b) (at + 1) bs))

abbrev pub segment_end : Service → List ℕ → ℕ → Option ℕ
segment_end s bs at = end_on s Start at (drop at bs)

abbrev pub found_by : ℕ → Option ℕ → Option (Span × Cursor)
found_by at (Some end) = Some (span at end, record { at = end + 1 })
found_by at None = None

abbrev pub next_segment : Service → List ℕ → ℕ → Option (Span × Cursor)
next_segment s bs at = found_by at (segment_end s bs at)

-- ---- a component: a search through a segment

-- where a search stands: the numbers of the element and of the component that are being read, where that component starts, and
-- whether the next byte is released
pub record Seek : Type 0 where
  pub element : ℕ
  pub component : ℕ
  pub start : ℕ
  pub released : Bool

-- what a byte makes of it
pub data Sought : Type 0 where
  On : Seek → Sought
  Ends : Span → Sought

abbrev pub seek : ℕ → ℕ → ℕ → Bool → Seek
seek e c start r = record { element = e; component = c; start = start; released = r }

unfoldable pub is_here : Seek → ℕ → ℕ → Bool
is_here k e c = eqb k.element e && eqb k.component c

abbrev pub ends_component : Kind → Bool
ends_component Component = true
ends_component Element = true
ends_component Terminator = true
ends_component Release = false
ends_component Plain = false
ends_component Other = false

-- a byte that does not end the component that is sought; an absent one lies at the terminator
abbrev pub passed : Seek → ℕ → Kind → Sought
passed k at Component = On (seek k.element (k.component + 1) (at + 1) false)
passed k at Element = On (seek (k.element + 1) 1 (at + 1) false)
passed k at Terminator = Ends (span at at)
passed k at Release = On (seek k.element k.component k.start true)
passed k at Plain = On k
passed k at Other = On k

abbrev pub sought : ℕ → ℕ → Seek → ℕ → Kind → Sought
sought e c k at kind =
    pick k.released (On (seek k.element k.component k.start false))
    (pick (ends_component kind && is_here k e c) (Ends (span k.start at)) (passed k at kind))

abbrev pub go_on : Sought → (Seek → Span) → Span
go_on (On k) more = more k
go_on (Ends x) more = x

unfoldable pub seek_on : Service → ℕ → ℕ → Seek → ℕ → List ℕ → Span
seek_on s e c k at [] = span at at
seek_on s e c k at (b ∷ bs) = go_on (sought e c k at (kind_of s b)) (λ next. seek_on s e c next (at + 1) bs)

abbrev pub seek_from : Service → List ℕ → ℕ → ℕ → ℕ → Span
seek_from s bs from e c = seek_on s e c (seek 0 0 from false) from (drop from bs)

-- the tag has three bytes
abbrev pub span_by : Service → List ℕ → ℕ → ℕ → ℕ → Option ℕ → Span
span_by s bs at e c (Some end) = seek_from s bs (at + 3) e c
span_by s bs at e c None = span (length bs) (length bs)

abbrev pub component_span : Service → List ℕ → ℕ → ℕ → ℕ → Span
component_span s bs at e c =
    pick (eqb e 0) (span (length bs) (length bs))
    (pick (eqb c 0) (span (length bs) (length bs)) (span_by s bs at e c (segment_end s bs at)))
