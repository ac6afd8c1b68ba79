-- Why T-05 had to stand before T-11: with its two clauses T-11's sentence is true, and with one of them left out there are two texts that have
-- the same tags and the same values at all places.
use Prim.Native.Nat.{ℕ, zero, suc, ◌<◌}
use native.Mathlib.Omega.{arith}
use mathlib.Core.Path.{◌≡◌, refl, ap}
use mathlib.Core.List.{List, [], ◌∷◌}
use lib.ListN.{length}
use Rattle.reading.specs.meaning.Service.{All, GoodService, standard, is_data, is_tag_byte, must_release}
use Rattle.reading.specs.meaning.Message.{Component, Element, Message, HasBytes, Last, EndsInBytes, ValidElement, ValidTag, ValidSegment, render, write_component, write_more, write_elements, write_segments}
use Rattle.reading.specs.meaning.WellFormed.{WellFormed}
use Rattle.reading.specs.meaning.Component.{value_in_elements}
use Rattle.reading.specs.statements.OneText.{value_in, Alike}
use Rattle.reading.specs.declared.service.Service.{Service}
use Rattle.reading_laws.specs.laws.Trailing.{ElementBy, SegmentBy, WellFormedBy, OneTextBy}
use Rattle.reading_laws.proofs.Lists.{all_map}
use Rattle.reading_laws.proofs.OneText.{one_reading_one_text}

-- T-05's clauses, and a clause that asks nothing
abbrev MoreEnd : List Component → Type 0
MoreEnd cs = Last HasBytes cs

abbrev ElementsEnd : List Element → Type 0
ElementsEnd xs = Last EndsInBytes xs

abbrev Unasked : {A : Type 0} → List A → Type 0
Unasked xs = Unit {0}

-- ---- with both

valid_elements : (xs : List Element) → All (ElementBy MoreEnd) xs → All ValidElement xs
valid_elements = all_map (ElementBy MoreEnd) ValidElement (λ x v. record { first = v.first; more = v.more; ended = v.ended })

valid_segments : (m : Message) → All (SegmentBy MoreEnd ElementsEnd) m → All ValidSegment m
valid_segments =
    all_map (SegmentBy MoreEnd ElementsEnd) ValidSegment
    (λ g v. record { tag = v.tag; elements = valid_elements g.elements v.elements; ended = v.ended })

abbrev well_formed : (s : Service) (text : List ℕ) → WellFormedBy MoreEnd ElementsEnd s text → WellFormed s text
well_formed s text w =
    record { message = w.message; valid = record { segments = valid_segments w.message w.segments; non_empty = w.non_empty }; same = w.same }

pub with_both : (s : Service) → GoodService s → OneTextBy MoreEnd ElementsEnd s
with_both s good text other x y = (one_reading_one_text s good).one_text text other (well_formed s text x) (well_formed s other y)

-- ---- with one of them left out: two texts of UNS, one longer than the other, with the same values

abbrev element : Component → List Component → Element
element v vs = record { first = v; more = vs }

abbrev uns : List Element → Message
uns xs = record { tag = record { first = 85; second = 78; third = 83 }; elements = xs } ∷ []

uns_tag : ValidTag (record { first = 85; second = 78; third = 83 })
unfolding is_tag_byte
uns_tag = record { first = refl; second = refl; third = refl }

alike : (xs ys : List Element) → ((e c : ℕ) → value_in_elements e c xs ≡ value_in_elements e c ys) → Alike (uns xs) (uns ys)
alike xs ys h = record { same_tags = refl; same_values = values }
  where
    values : (k e c : ℕ) → value_in (uns xs) k e c ≡ value_in (uns ys) k e c
    values zero e c = refl
    values (suc zero) zero c = refl
    values (suc zero) (suc e) zero = refl
    values (suc zero) (suc e) (suc c) = h e c
    values (suc (suc k)) e c = refl

module _ (More : List Component → Type 0) (Elements : List Element → Type 0) where
  -- a text of UNS with these elements
  record Text (text : List ℕ) (xs : List Element) : Type 0 where
    valid : All (ElementBy More) xs
    ended : Elements xs
    same : text ≡ render standard (uns xs)

  abbrev well_formed_text : (text : List ℕ) (xs : List Element) → Text text xs → WellFormedBy More Elements standard text
  well_formed_text text xs t =
      record {
        message = uns xs;
        segments = (record { tag = uns_tag; elements = t.valid; ended = t.ended }, tt);
        non_empty = omega arith;
        same = t.same;
      }

  refuted : (text other : List ℕ) (xs ys : List Element) → Text text xs → Text other ys → ((e c : ℕ) → value_in_elements e c xs ≡ value_in_elements e c ys)
      → length other < length text → OneTextBy More Elements standard → ⊥
  refuted text other xs ys t u h longer one =
      let same : length text ≡ length other = ap length (one text other (well_formed_text text xs t) (well_formed_text other ys u) (alike xs ys h)) in
      omega arith

-- an element's last component may be empty: UNS+1:+2' and UNS+1+2'
abbrev one : Element
one = element (49 ∷ []) []

abbrev one_and_empty : Element
one_and_empty = element (49 ∷ []) ([] ∷ [])

abbrev two : Element
two = element (50 ∷ []) []

empty_component : (e c : ℕ) → value_in_elements e c (one_and_empty ∷ two ∷ []) ≡ value_in_elements e c (one ∷ two ∷ [])
empty_component zero zero = refl
empty_component zero (suc zero) = refl
empty_component zero (suc (suc c)) = refl
empty_component (suc e) c = refl

pub without_component_clause : OneTextBy Unasked ElementsEnd standard → ⊥
unfolding is_data must_release write_component write_more write_elements write_segments
without_component_clause =
    let valid-two : All (ElementBy Unasked) (two ∷ []) = (record { first = (refl, tt); more = tt; ended = tt }, tt) in
    refuted Unasked ElementsEnd (85 ∷ 78 ∷ 83 ∷ 43 ∷ 49 ∷ 58 ∷ 43 ∷ 50 ∷ 39 ∷ []) (85 ∷ 78 ∷ 83 ∷ 43 ∷ 49 ∷ 43 ∷ 50 ∷ 39 ∷ []) (one_and_empty ∷ two ∷ []) (one ∷ two ∷ [])
    (record { valid = (record { first = (refl, tt); more = (tt, tt); ended = tt }, valid-two); ended = tt; same = refl })
    (record { valid = (record { first = (refl, tt); more = tt; ended = tt }, valid-two); ended = tt; same = refl }) empty_component (omega arith)

-- a segment's last element may be empty: UNS+' and UNS'
empty_element : (e c : ℕ) → value_in_elements e c (element [] [] ∷ []) ≡ value_in_elements e c []
empty_element zero zero = refl
empty_element zero (suc c) = refl
empty_element (suc e) c = refl

pub without_element_clause : OneTextBy MoreEnd Unasked standard → ⊥
unfolding write_component write_more write_elements write_segments
without_element_clause =
    refuted MoreEnd Unasked (85 ∷ 78 ∷ 83 ∷ 43 ∷ 39 ∷ []) (85 ∷ 78 ∷ 83 ∷ 39 ∷ []) (element [] [] ∷ []) []
    (record { valid = (record { first = tt; more = tt; ended = tt }, tt); ended = tt; same = refl }) (record { valid = tt; ended = tt; same = refl }) empty_element
    (omega arith)
