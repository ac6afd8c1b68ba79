-- Law field_fault: the test of a segment against its line answers the least (element, component) at fault, or that there is none.
-- 01, number 12. The segment's components are cut as they are written (Pieces), each field's test means what 01 says (Broken), and
-- the pass finds the least fault (Least).
use Prim.Native.Nat.{ℕ, zero, suc, ◌+◌, ◌-◌, ◌≤◌}
use native.Mathlib.Omega.{arith}
use native.Mathlib.Decide.{dec_lt}
use mathlib.Core.Path.{◌≡◌, refl, sym, ap, ◌∙◌, subst}
use mathlib.Core.List.{List, [], ◌∷◌, map, Memᴰ}
use mathlib.Core.Logic.{dite, ⊎_elim}
use Rattle.guide.specs.meaning.Guide.{Guide, guide_of}
use Rattle.book.specs.meaning.GoodBook.{GoodBook}
use Rattle.guide.specs.meaning.View.{numbers_from, Field, field_of, line_of}
use Rattle.book_laws.proofs.Clauses.{line_fields}
use Rattle.book_laws.proofs.ViewedLines.{InOrder, good_field, line_fields_in_order}
use Rattle.reading.specs.meaning.Service.{GoodService}
use Rattle.reading.specs.meaning.Message.{Component, Element, Segment}
use Rattle.reading.specs.meaning.WellFormed.{SegmentAt}
use Rattle.reading.specs.meaning.Component.{components_of, value_in_components, value_in_elements, value_at}
use Rattle.reading.specs.declared.service.Service.{Service}
use Rattle.fields.specs.meaning.Number.{GoodMark}
use Rattle.fields.specs.meaning.Fields.{Values, In, LeastFault}
use Rattle.fields.specs.meaning.Fields.In.{here, there}
use Rattle.fields.specs.meaning.Fields.Before.{sooner, beside}
use Rattle.fields.specs.method.Parts.{Cut, further_in}
use Rattle.fields.specs.method.Testing.{test_elements, fault_at}
use Rattle.fields_laws.proofs.Pieces.{raw_of, raws_of, cut_segment}
use Rattle.fields_laws.proofs.Broken.{fits_as_written, tests}
use Rattle.fields_laws.proofs.Places.{later, along, Rises, numbered, least_of_all}
use Rattle.fields_laws.proofs.Least.{AllTest, Left, end_element, Components, Elements, elements_least}

-- ---- the fields of a line

member : {h : Field} {fs : List Field} → In h fs → Memᴰ h fs
member here = Memᴰ.head refl
member (there i) = Memᴰ.tail (member i)

module _ (book : List ℕ) (good : GoodBook book) where
  abbrev g : Guide
  g = guide_of book

  rises : (count first : ℕ) → first + count ≤ g.fields → InOrder (map (field_of g) (numbers_from first count)) → Rises (map (field_of g) (numbers_from first count))
  rises zero first h p = tt
  rises (suc count) first h p =
      let f = good_field book good first (omega arith) in (
        f.element,
        f.component,
        λ k i. ⊎_elim sooner (λ o. beside o.0 o.1) (p.0 k (member i)),
        rises count (suc first) (omega arith) p.1,
      )

  module _ (s : Service) (service : GoodService s) (mark : GoodMark s) (v : Values) where
    all_test : (count first : ℕ) → first + count ≤ g.fields → AllTest s g v (numbers_from first count)
    all_test zero first h = tt
    all_test (suc count) first h =
        (tests s g v first (fits_as_written s service mark book good first (omega arith)), all_test count (suc first) (omega arith))

    left_of_line : (line : ℕ) → 1 ≤ line → line ≤ g.lines → Left s g v (numbers_from (g.first_field line) (g.field_count line)) 1 0
    left_of_line line h k =
        let r = rises (g.field_count line) (g.first_field line) (line_fields book good line h k) (line_fields_in_order book good line h k) in
        record {
          rises = r;
          tested = all_test (g.field_count line) (g.first_field line) (line_fields book good line h k);
          ahead = λ f i.
              let n = (numbered (map (field_of g) (numbers_from (g.first_field line) (g.field_count line))) r f i).0 in
              dite (dec_lt 1 f.element) later (λ m. along (omega arith) (omega arith));
        }

-- ---- the values of a segment

module _ (s : Service) (v : Values) where
  components_of_lem : (e c : ℕ) (xs : List Component) → ((i : ℕ) → v e (c + i) ≡ value_in_components i xs) → (g : Guide) → Components s g v e c (map (raw_of s) xs)
  components_of_lem e c [] h g = λ y l. let z : y ≡ c + (y - c) = omega arith in ap (v e) z ∙ h (y - c)
  components_of_lem e c (x ∷ xs) h g = (
    let z : c ≡ c + 0 = omega arith in ap (raw_of s) (sym (ap (v e) z ∙ h 0)),
    components_of_lem e (suc c) xs (λ i. let z : suc c + i ≡ c + suc i = omega arith in ap (v e) z ∙ h (suc i)) g,
  )

  elements_of : (e : ℕ) (xs : List Element) → ((i c : ℕ) → v (e + i) (suc c) ≡ value_in_elements i c xs) → ((x : ℕ) → v x 0 ≡ []) → (g : Guide) → Elements s g v e (map (raws_of s) xs)
  elements_of e [] h o g = none-there
    where
      none-there : (x y : ℕ) → e ≤ x → v x y ≡ []
      none-there x zero l = o x
      none-there x (suc y) l = let z : x ≡ e + (x - e) = omega arith in ap (λ (w : ℕ). v w (suc y)) z ∙ h (x - e) y
  elements_of e (x ∷ xs) h o g = (
    o e,
    components_of_lem e 1 (components_of x)
        (λ i. let z : e ≡ e + 0 = omega arith in let y : 1 + i ≡ suc i = omega arith in ap (v e) y ∙ ap (λ (w : ℕ). v w (suc i)) z ∙ h 0 i) g,
    elements_of (suc e) xs (λ i c. let z : suc e + i ≡ e + suc i = omega arith in ap (λ (w : ℕ). v w (suc c)) z ∙ h (suc i) c) o g,
  )

no_component : (g : Segment) (e : ℕ) → value_at g e 0 ≡ []
no_component g zero = refl
no_component g (suc e) = refl

values_of : (s : Service) (b : Guide) (g : Segment) → Elements s b (value_at g) 1 (map (raws_of s) g.elements)
values_of s b g =
    elements_of s (value_at g) 1 g.elements (λ i c. let z : 1 + i ≡ suc i = omega arith in ap (λ (w : ℕ). value_at g w (suc c)) z) (no_component g) b

-- ---- the law

module _ (s : Service) (service : GoodService s) (mark : GoodMark s) (book : List ℕ) (good : GoodBook book) where
  pub field_fault : (line : ℕ) → 1 ≤ line → line ≤ (guide_of book).lines → (bs : List ℕ) (at : ℕ) (g : Segment) → SegmentAt s bs at g
      → LeastFault s (line_of (guide_of book) line).fields (value_at g) (fault_at s (guide_of book) bs at line)
  unfolding fault_at
  field_fault line h k bs at g i =
      let b = guide_of book in
      let fs = numbers_from (b.first_field line) (b.field_count line) in
      let left = left_of_line book good s service mark (value_at g) line h k in
      subst (LeastFault s (line_of b line).fields (value_at g)) (sym (ap (λ (x : Cut). test_elements s b 1 (further_in x) fs) (cut_segment s service bs at g i)))
      (least_of_all s (value_at g) (map (field_of b) fs) (test_elements s b 1 (map (raws_of s) g.elements) fs)
      (end_element s b (value_at g) fs 0 0 (test_elements s b 1 (map (raws_of s) g.elements) fs) left.ahead (λ y l. refl)
      (elements_least s b (value_at g) (map (raws_of s) g.elements) 1 fs (values_of s b g) left)))
