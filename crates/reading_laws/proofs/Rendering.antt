-- What is written in front of a rest is what is written alone, and then the rest; and how many bytes that is.
use Prim.Native.Nat.{ℕ, ◌+◌}
use mathlib.Core.Path.{◌≡◌, refl, sym, ap, ◌∙◌}
use mathlib.Core.List.{List, [], ◌∷◌, ◌++◌, append_assoc}
use mathlib.Core.Bool.{Bool, true, false}
use lib.ListN.{length, length-append}
use Rattle.reading.specs.meaning.Service.{must_release}
use Rattle.reading.specs.meaning.Message.{Component, Element, Segment, Message, released, write_component, write_more, write_element, write_elements, write_tag, write_segment, write_segments, render}
use Rattle.reading.specs.declared.service.Service.{Service}

-- a writer that puts its bytes in front of whatever follows
abbrev pub Front : (List ℕ → List ℕ) → Type 0
Front write = (rest : List ℕ) → write rest ≡ write [] ++ rest

-- one after another, two such writers are one
both_front : (write later : List ℕ → List ℕ) → Front write → Front later → Front (λ rest. write (later rest))
both_front write later f g rest =
    f (later rest) ∙ ap (λ (x : List ℕ). write [] ++ x) (g rest) ∙ sym (append_assoc (write []) (later []) rest) ∙ ap (λ (x : List ℕ). x ++ rest) (sym (f (later [])))

byte_front : (b : ℕ) → Front (◌∷◌ b)
byte_front b rest = refl

front_long : (write : List ℕ → List ℕ) → Front write → (rest : List ℕ) → length (write rest) ≡ length (write []) + length rest
front_long write f rest = ap length (f rest) ∙ length-append (write []) rest

released_front : (t : Bool) (r b : ℕ) → Front (released t r b)
released_front true r b rest = refl
released_front false r b rest = refl

module _ (s : Service) where
  pub component_front : (c : Component) → Front (write_component s c)
  unfolding write_component
  component_front [] = λ rest. refl
  component_front (b ∷ bs) = both_front (released (must_release s b) s.release b) (write_component s bs) (released_front (must_release s b) s.release b) (component_front bs)

  pub more_front : (cs : List Component) → Front (write_more s cs)
  unfolding write_more
  more_front [] = λ rest. refl
  more_front (c ∷ cs) =
      both_front (◌∷◌ s.component) (λ rest. write_component s c (write_more s cs rest)) (byte_front s.component)
      (both_front (write_component s c) (write_more s cs) (component_front c) (more_front cs))

  pub element_front : (x : Element) → Front (write_element s x)
  element_front x =
      both_front (◌∷◌ s.element) (λ rest. write_component s x.first (write_more s x.more rest)) (byte_front s.element)
      (both_front (write_component s x.first) (write_more s x.more) (component_front x.first) (more_front x.more))

  pub elements_front : (xs : List Element) → Front (write_elements s xs)
  unfolding write_elements
  elements_front [] = λ rest. refl
  elements_front (x ∷ xs) = both_front (write_element s x) (write_elements s xs) (element_front x) (elements_front xs)

  pub segment_front : (g : Segment) → Front (write_segment s g)
  segment_front g =
      both_front (write_tag g.tag) (λ rest. write_elements s g.elements (s.terminator ∷ rest)) (λ rest. refl)
      (both_front (write_elements s g.elements) (◌∷◌ s.terminator) (elements_front g.elements) (byte_front s.terminator))

  pub segments_front : (m : Message) → Front (write_segments s m)
  unfolding write_segments
  segments_front [] = λ rest. refl
  segments_front (g ∷ m) = both_front (write_segment s g) (write_segments s m) (segment_front g) (segments_front m)

  pub segments_append : (m n : Message) (rest : List ℕ) → write_segments s (m ++ n) rest ≡ write_segments s m (write_segments s n rest)
  unfolding write_segments
  segments_append [] n rest = refl
  segments_append (g ∷ m) n rest = ap (write_segment s g) (segments_append m n rest)

  -- lengths
  pub component_long : (c : Component) (rest : List ℕ) → length (write_component s c rest) ≡ length (write_component s c []) + length rest
  component_long c = front_long (write_component s c) (component_front c)

  pub more_long : (cs : List Component) (rest : List ℕ) → length (write_more s cs rest) ≡ length (write_more s cs []) + length rest
  more_long cs = front_long (write_more s cs) (more_front cs)

  pub element_long : (x : Element) (rest : List ℕ) → length (write_element s x rest) ≡ length (write_element s x []) + length rest
  element_long x = front_long (write_element s x) (element_front x)

  pub elements_long : (xs : List Element) (rest : List ℕ) → length (write_elements s xs rest) ≡ length (write_elements s xs []) + length rest
  elements_long xs = front_long (write_elements s xs) (elements_front xs)

  pub segments_long : (m : Message) (rest : List ℕ) → length (write_segments s m rest) ≡ length (render s m) + length rest
  segments_long m = front_long (write_segments s m) (segments_front m)
