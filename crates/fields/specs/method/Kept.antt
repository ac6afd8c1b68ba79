-- What the functions inside hand on to each other: nothing here is needed to read what the public ones promise.
use Rattle.std.specs.Prelude.{ℕ, ◌-◌, ◌≤◌, ◌≡◌, List, [], ◌∷◌, ◌++◌, Bool, true, false, cond, Result, Ok, Err, length, drop}
use Rattle.std.specs.declared.ops.Range.{Range}
use Rattle.guide.specs.meaning.View.{numbers_from}
use Rattle.reading.specs.method.Machine.{kind_of}
use Rattle.reading.specs.declared.service.Service.{Service}
use Rattle.reading.specs.declared.bytes.Kind.{Kind}
use Rattle.reading.specs.contracts.bytes.Kind.{the_type}
use denote.Enum.Bare.{sameb}
use Rattle.reading.specs.declared.bytes.Kind.TheVariants.{Component, Element, Terminator, Release, Plain, Other}
use Rattle.fields.specs.method.Parts.{Raw, Cut, pieces, cut, components_in, further_in}
use Rattle.fields.specs.method.Testing.{Tested, broken, kept, Near}
use Rattle.fields.specs.declared.fault.Fault.{Fault}
use Rattle.fields.specs.declared.element.Closed.{Closed}

-- ---- what a byte is, where it is not released

abbrev pub is_release : Kind → Bool
is_release Component = false
is_release Element = false
is_release Terminator = false
is_release Release = true
is_release Plain = false
is_release Other = false

-- it ends a component, an element or the segment
abbrev pub is_mark : Kind → Bool
is_mark Component = true
is_mark Element = true
is_mark Terminator = true
is_mark Release = false
is_mark Plain = false
is_mark Other = false

-- `==` on kinds
abbrev pub same_kind : Kind → Kind → Bool
same_kind = sameb the_type

-- such a byte stands at the front
unfoldable pub opens : Kind → Service → List ℕ → Bool
opens mark s [] = false
opens mark s (b ∷ bs) = same_kind (kind_of s b) mark

-- ---- a component that has been read

abbrev pub elements_in : Cut → List (List Raw)
elements_in (pieces x xs es) = (x ∷ xs) ∷ es

-- by the byte that ends a component: the further components of its element, and the further elements
abbrev pub behind_component : Service → List ℕ → List Raw
behind_component s bs = cond (opens Component s bs) (components_in (cut s false (drop 1 bs))) []

abbrev pub behind_element : Service → List ℕ → List (List Raw)
behind_element s bs = cond (opens Element s bs) (elements_in (cut s false (drop 1 bs))) []

abbrev pub further_behind : Service → List ℕ → List (List Raw)
further_behind s bs = cond (opens Component s bs) (further_in (cut s false (drop 1 bs))) (behind_element s bs)

-- the component at the front of bs, and what stands behind it
pub record Reads (s : Service) (bs part behind : List ℕ) : Type 0 where
  pub whole : bs ≡ part ++ behind
  pub cuts : cut s false bs ≡ pieces part (behind_component s behind) (further_behind s behind)

-- what is left of bs behind some of its bytes
pub record Tail (bs behind : List ℕ) : Type 0 where
  pub passed : List ℕ
  pub whole : bs ≡ passed ++ behind

-- what stands behind the element at the front of bs, or behind what stands between the tag and the first: the further elements
pub record Ends (s : Service) (bs behind : List ℕ) : Type 0 where
  pub tail : Tail bs behind
  pub further : further_in (cut s false bs) ≡ behind_element s behind

-- ---- fields that have been tested

-- the fields of a line that are left
abbrev pub fields_from : ℕ → ℕ → List ℕ
fields_from f last = numbers_from f (last - f)

abbrev pub fields_in : Range ℕ → List ℕ
fields_in left = fields_from left.start left.end

abbrev pub tested_by : Result (Range ℕ) Fault → Tested
tested_by (Err x) = broken x.component
tested_by (Ok left) = kept (fields_in left)

-- of the fields that were left none is passed beyond the last
abbrev pub Within : Range ℕ → Range ℕ → Type 0
Within fields left = fields.start ≤ fields.end → (left.start ≤ left.end) × (left.end ≡ fields.end)

-- a fault is one of the element e, and its component is not beyond the n-th
abbrev pub FaultWithin : ℕ → ℕ → Range ℕ → Result (Range ℕ) Fault → Type 0
FaultWithin e n fields (Err x) = (x.element ≡ e) × (x.component ≤ n)
FaultWithin e n fields (Ok left) = Within fields left

-- ---- the element e at the front of bs that has been tested

abbrev pub ClosesBy : Service → List ℕ → ℕ → Range ℕ → Result Closed Fault → Type 0
ClosesBy s bs e fields (Err x) = (x.element ≡ e) × Near (length bs) x.component
ClosesBy s bs e fields (Ok x) = Ends s bs x.behind.now × Within fields x.left

abbrev pub when_closed : Result Closed Fault → (Range ℕ → Tested) → Tested
when_closed (Err x) more = broken x.component
when_closed (Ok x) more = more x.left
