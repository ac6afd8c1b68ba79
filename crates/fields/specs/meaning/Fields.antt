-- When a segment keeps the fields of its line, and its least fault otherwise. 01, "The guide book" (Field) and "Placing and
-- judging", second paragraph; number 12.
use Rattle.std.specs.Prelude.{ℕ, ◌≤◌, ◌<◌, ◌≡◌, List, [], ◌∷◌, Result, Ok, Err, length}
use Rattle.guide.specs.meaning.View.{Field}
use Rattle.guide.specs.meaning.Words.{number_form, empty_presence, must_presence, with_element_presence}
use Rattle.reading.specs.meaning.Message.{Component}
use Rattle.reading.specs.declared.service.Service.{Service}
use Rattle.fields.specs.meaning.Number.{IsNumber, figures}
use Rattle.fields.specs.declared.fault.Fault.{Fault}

-- the values of a segment, by element and component; an absent component has the empty value
abbrev pub Values : Type 0
Values = ℕ → ℕ → Component

pub data In {A : Type 0} (x : A) : List A → Type 0 where
  here : {xs : List A} → In x (x ∷ xs)
  there : {y : A} {xs : List A} → In x xs → In x (y ∷ xs)

abbrev pub HasBytes : Component → Type 0
HasBytes v = v ≡ [] → ⊥

-- "first code (2) and count (2), count 0 for any value"
abbrev pub OneOf : List (List ℕ) → Component → Type 0
OneOf [] v = Unit {0}
OneOf (code ∷ codes) v = In v (code ∷ codes)

-- 01: "`an` allows any data"; "Length counts the value's bytes"
pub record FitsText (f : Field) (v : Component) : Type 0 where
  pub short : length v ≤ f.longest
  pub code : OneOf f.codes v

pub record FitsNumber (s : Service) (f : Field) (v : Component) : Type 0 where
  pub number : IsNumber s v
  pub short : figures s v ≤ f.longest
  pub code : OneOf f.codes v

-- "form (1 an, 2 n)"
pub record Fits (s : Service) (f : Field) (v : Component) : Type 0 where
  pub numeric : f.form ≡ number_form → FitsNumber s f v
  pub text : (f.form ≡ number_form → ⊥) → FitsText f v

-- "presence (0 must be empty, 1 must have bytes, 2 may, 3 must if any component of its element has bytes)"; 01: "Form, length and
-- codes are tested where the value has bytes."
pub data Breaks (s : Service) (f : Field) (v : Values) : Type 0 where
  must_be_empty : f.presence ≡ empty_presence → HasBytes (v f.element f.component) → Breaks s f v
  must_have : f.presence ≡ must_presence → v f.element f.component ≡ [] → Breaks s f v
  must_with : f.presence ≡ with_element_presence → v f.element f.component ≡ [] → (c : ℕ) → HasBytes (v f.element c) → Breaks s f v
  unfit : HasBytes (v f.element f.component) → (Fits s f (v f.element f.component) → ⊥) → Breaks s f v

-- a place is at fault: a field that names it is broken; or, 01: "A component with bytes that no field names is a fault."
pub data Faulty (s : Service) (fs : List Field) (v : Values) (e c : ℕ) : Type 0 where
  named : (f : Field) → In f fs → f.element ≡ e → f.component ≡ c → Breaks s f v → Faulty s fs v e c
  unnamed : ((f : Field) → In f fs → f.element ≡ e → f.component ≡ c → ⊥) → HasBytes (v e c) → Faulty s fs v e c

-- the order of places
pub data Before (e' c' e c : ℕ) : Type 0 where
  sooner : e' < e → Before e' c' e c
  beside : e' ≡ e → c' < c → Before e' c' e c

abbrev pub at_fault : ℕ → ℕ → Result (Unit {0}) Fault
at_fault e c = Err (record { element = e; component = c })

-- 01, number 12: "the smallest (element, component) at fault there"
abbrev pub LeastFault : Service → List Field → Values → Result (Unit {0}) Fault → Type 0
LeastFault s fs v (Err x) = Faulty s fs v x.element x.component × ((e' c' : ℕ) → Before e' c' x.element x.component → Faulty s fs v e' c' → ⊥)
LeastFault s fs v (Ok _) = (e c : ℕ) → Faulty s fs v e c → ⊥
