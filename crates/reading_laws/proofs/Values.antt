-- What lies at a component's place is its value, written; so an upper layer may speak of values alone.
use Prim.Native.Nat.{ℕ, zero, suc, ◌+◌, ◌-◌}
use native.Mathlib.Omega.{arith}
use mathlib.Core.Path.{◌≡◌, sym, ap, ◌∙◌}
use mathlib.Core.List.{List, [], ◌∷◌, ◌++◌}
use mathlib.Core.Bool.{true}
use mathlib.Core.Logic.{◌↔◌}
use lib.ListN.{length, take, drop}
use lib.Seq.{take-append_seam, drop-append_seam, drop-append-add, drop-drop}
use Rattle.reading.specs.meaning.Service.{GoodService}
use Rattle.reading.specs.meaning.Message.{Component, Element, Segment, write_component, write_more, write_element, write_elements}
use Rattle.reading.specs.meaning.WellFormed.{SegmentAt, end_of}
use Rattle.reading.specs.meaning.Component.{place_in_components, place_in_elements, value_in_components, value_in_elements, value_at, value_of, span, span_of, same_component}
use Rattle.reading.specs.method.Machine.{component_span}
use Rattle.reading.specs.method.Part.{bytes_in}
use Rattle.reading.specs.declared.service.Service.{Service}
use Rattle.reading.specs.declared.span.Span.{Span}
use Rattle.reading_laws.proofs.Rendering.{component_front, element_front}
use Rattle.reading_laws.proofs.OneReading.{value_written, same_value}
use Rattle.reading_laws.proofs.Spans.{span_in_segment}

-- an empty part is the writing of the empty value
empty : (s : Service) (at : ℕ) (bs : List ℕ) → bytes_in (span at at) bs ≡ write_component s [] []
unfolding write_component
empty s at bs = let none : at - at ≡ 0 = omega arith in ap (λ (n : ℕ). take n (drop at bs)) none

-- what stands behind a front that ends in a separator
behind_front : (at b : ℕ) (bs front rest : List ℕ) → drop at bs ≡ front ++ (b ∷ rest) → drop (at + length front + 1) bs ≡ rest
behind_front at b bs front rest e =
    let same : at + length front + 1 ≡ at + (length front + 1) = omega arith in
    ap (λ (n : ℕ). drop n bs) same ∙ sym (drop-drop (length front + 1) at bs) ∙ ap (drop (length front + 1)) e ∙ drop-append-add front (b ∷ rest) 1

module _ (s : Service) (bs : List ℕ) (total end : ℕ) where
  in_components : (c at : ℕ) (v : Component) (vs : List Component) (rest : List ℕ) → drop at bs ≡ write_component s v (write_more s vs rest)
      → bytes_in (span_of total (place_in_components s end at c (v ∷ vs))) bs ≡ write_component s (value_in_components c (v ∷ vs)) []
  unfolding write_more
  in_components zero at v vs rest e =
      let wide : at + length (write_component s v []) - at ≡ length (write_component s v []) = omega arith in
      ap (λ (n : ℕ). take n (drop at bs)) wide ∙ ap (take (length (write_component s v []))) (e ∙ component_front s v (write_more s vs rest))
      ∙ take-append_seam (write_component s v []) (write_more s vs rest)
  in_components (suc c) at v [] rest e = empty s end bs
  in_components (suc c) at v (w ∷ vs) rest e =
      in_components c (at + length (write_component s v []) + 1) w vs rest
      (behind_front at s.component bs (write_component s v []) (write_component s w (write_more s vs rest))
      (e ∙ component_front s v (s.component ∷ write_component s w (write_more s vs rest))))

  in_elements : (e c at : ℕ) (xs : List Element) (rest : List ℕ) → drop at bs ≡ write_elements s xs rest
      → bytes_in (span_of total (place_in_elements s end at e c xs)) bs ≡ write_component s (value_in_elements e c xs) []
  unfolding write_elements
  in_elements e c at [] rest h = empty s end bs
  in_elements zero c at (x ∷ xs) rest h =
      in_components c (at + 1) x.first x.more (write_elements s xs rest) (sym (drop-drop 1 at bs) ∙ ap (drop 1) h)
  in_elements (suc e) c at (x ∷ xs) rest h =
      in_elements e c (at + length (write_element s x [])) xs rest
      (sym (drop-drop (length (write_element s x [])) at bs) ∙ ap (drop (length (write_element s x []))) (h ∙ element_front s x (write_elements s xs rest))
      ∙ drop-append_seam (write_element s x []) (write_elements s xs rest))

module _ (s : Service) (good : GoodService s) where
  -- the bytes of the part are the component's value, written
  pub part_is_value : (bs : List ℕ) (at e c : ℕ) (g : Segment) → SegmentAt s bs at g
      → bytes_in (component_span s bs at e c) bs ≡ write_component s (value_at g e c) []
  part_is_value bs at zero c g i = empty s (length bs) bs
  part_is_value bs at (suc e) zero g i =
      ap (λ (x : Span). bytes_in x bs) (span_in_segment s good bs at (suc e) 0 g i)
      ∙ empty s (length bs) bs
  part_is_value bs at (suc e) (suc c) g i =
      let tail : drop (at + 3) bs ≡ write_elements s g.elements (s.terminator ∷ i.rest) = sym (drop-drop 3 at bs) ∙ ap (drop 3) i.same in
      ap (λ (x : Span). bytes_in x bs) (span_in_segment s good bs at (suc e) (suc c) g i)
      ∙ in_elements s bs (length bs) (end_of s at g) e c (at + 3) g.elements (s.terminator ∷ i.rest) tail

  -- and with the releases removed they are the value itself
  pub value_of_part : (bs : List ℕ) (at e c : ℕ) (g : Segment) → SegmentAt s bs at g
      → value_of s (bytes_in (component_span s bs at e c) bs) ≡ value_at g e c
  value_of_part bs at e c g i = ap (value_of s) (part_is_value bs at e c g i) ∙ value_written s (value_at g e c)

  -- two parts have the same bytes exactly when their components have the same value
  pub same_part : (bs : List ℕ) (at e c : ℕ) (g : Segment) (other : List ℕ) (there f d : ℕ) (h : Segment) → SegmentAt s bs at g → SegmentAt s other there h
      → (same_component (bytes_in (component_span s bs at e c) bs) (bytes_in (component_span s other there f d) other) ≡ true) ↔ (value_at g e c ≡ value_at h f d)
  same_part bs at e c g other there f d h i j = rw (part_is_value bs at e c g i, part_is_value other there f d h j) (same_value s (value_at g e c) (value_at h f d))
