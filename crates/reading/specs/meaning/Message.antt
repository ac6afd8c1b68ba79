-- A message, apart from its bytes, and how it is written. 01, "Bytes of a message".
use Rattle.std.specs.Prelude.{ℕ, ◌<◌, ◌≡◌, List, [], ◌∷◌, Bool, true, false, length}
use Rattle.reading.specs.meaning.Service.{All, IsData, is_tag_byte, must_release}
use Rattle.reading.specs.declared.service.Service.{Service}

-- ---- what a message is

-- a component, by its value
abbrev pub Component : Type 0
Component = List ℕ

-- `+` alone opens an element of one empty component, so an element has at least one
pub record Element : Type 0 where
  pub first : Component
  pub more : List Component

pub record Tag : Type 0 where
  pub first : ℕ
  pub second : ℕ
  pub third : ℕ

-- 01: "A segment is a tag of three bytes (A–Z, 0–9), then elements each opened by `+`, then `'`."
pub record Segment : Type 0 where
  pub tag : Tag
  pub elements : List Element

abbrev pub Message : Type 0
Message = List Segment

-- ---- which are valid: tags of tag bytes, values of data bytes, and no trailing separators. 01 as T-05 amends it (docs/amendments.md): "An
-- element is one empty component, or its last component has bytes; a segment's last element has bytes."

abbrev pub ValidComponent : Component → Type 0
ValidComponent c = All IsData c

abbrev pub HasBytes : Component → Type 0
HasBytes [] = ⊥
HasBytes (b ∷ bs) = Unit {0}

-- P of the last one, if there is any
abbrev pub Last : {A : Type 0} → (A → Type 0) → List A → Type 0
Last P [] = Unit {0}
Last P (x ∷ []) = P x
Last P (x ∷ y ∷ ys) = Last P (y ∷ ys)

-- one component may be empty; of several, the last has bytes
pub record ValidElement (e : Element) : Type 0 where
  pub first : ValidComponent e.first
  pub more : All ValidComponent e.more
  pub ended : Last HasBytes e.more

-- a valid element that has bytes ends in them
abbrev pub EndsInBytes : Element → Type 0
EndsInBytes e = Last HasBytes (e.first ∷ e.more)

pub record ValidTag (t : Tag) : Type 0 where
  pub first : is_tag_byte t.first ≡ true
  pub second : is_tag_byte t.second ≡ true
  pub third : is_tag_byte t.third ≡ true

pub record ValidSegment (g : Segment) : Type 0 where
  pub tag : ValidTag g.tag
  pub elements : All ValidElement g.elements
  pub ended : Last EndsInBytes g.elements

-- 01: "A message is one or more segments."
pub record ValidMessage (m : Message) : Type 0 where
  pub segments : All ValidSegment m
  pub non_empty : 0 < length m

-- ---- how each part is written, in front of what follows it

abbrev pub released : Bool → ℕ → ℕ → List ℕ → List ℕ
released true release b rest = release ∷ b ∷ rest
released false release b rest = b ∷ rest

-- 01: "A separator or `?` as data has `?` before it; `?` before any other byte is a fault."
unfoldable pub write_component : Service → Component → List ℕ → List ℕ
write_component s [] rest = rest
write_component s (b ∷ bs) rest = released (must_release s b) s.release b (write_component s bs rest)

unfoldable pub write_more : Service → List Component → List ℕ → List ℕ
write_more s [] rest = rest
write_more s (c ∷ cs) rest = s.component ∷ write_component s c (write_more s cs rest)

abbrev pub write_element : Service → Element → List ℕ → List ℕ
write_element s e rest = s.element ∷ write_component s e.first (write_more s e.more rest)

unfoldable pub write_elements : Service → List Element → List ℕ → List ℕ
write_elements s [] rest = rest
write_elements s (e ∷ es) rest = write_element s e (write_elements s es rest)

abbrev pub write_tag : Tag → List ℕ → List ℕ
write_tag t rest = t.first ∷ t.second ∷ t.third ∷ rest

abbrev pub write_segment : Service → Segment → List ℕ → List ℕ
write_segment s g rest = write_tag g.tag (write_elements s g.elements (s.terminator ∷ rest))

-- 01: "Nothing stands between segments; CR and LF are faults." (They are no data bytes.)
unfoldable pub write_segments : Service → Message → List ℕ → List ℕ
write_segments s [] rest = rest
write_segments s (g ∷ gs) rest = write_segment s g (write_segments s gs rest)

abbrev pub render : Service → Message → List ℕ
render s m = write_segments s m []
