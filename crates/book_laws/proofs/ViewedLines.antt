-- A good book's lines as the layers above see them. 01, "The guide book": Line, Code, Field.
use Prim.Native.Nat.{ℕ, zero, suc, ◌+◌, ◌*◌, ◌≤◌, ◌<◌}
use native.Mathlib.Omega.{arith}
use native.Mathlib.Decide.{dec_lt}
use native.Mathlib.Numerals.{add-one}
use mathlib.Core.Path.{◌≡◌, refl}
use mathlib.Core.List.Memᴰ
use mathlib.Core.List.{List, [], ◌∷◌, map, Memᴰ}
use mathlib.Core.Logic.{◌⊎◌, inl, inr, dite, ◌↔◌}
use mathlib.Core.Bool.{true, false}
use lib.ListN.{length, get_or, length-take}
use borrow.Author.Tests.{eq-eqb, ne_eqb, eqb-true, eqb-false}
use Rattle.guide.specs.meaning.Words.{segment_kind, group_kind, with_element_presence, text_form, number_form}
use Rattle.book.specs.meaning.Rule.{Holds, ◌or◌}
use Rattle.guide.specs.meaning.Guide.{Guide, guide_of}
use Rattle.book.specs.meaning.GoodBook.{GoodBook, capital, digit, tag_rule, tag_byte_rule, selector_rule, code_rule, field_rule, field_place, range_rule}
use Rattle.guide.specs.meaning.View.{numbers_from, code_value, Field, field_of, line_of}
use Rattle.guide.proofs.WideNumbers.{tag_bytes}
use Rattle.book_laws.proofs.Clauses.{line_kind, line_depth, line_tag, line_required, line_selector, line_codes, line_maximum, line_fields, group_is_plain, fields_rise, code_rule_lem, field_rule_lem}

-- ---- what stands in a list of records is one of them

numbers_within : (count first x : ℕ) → Memᴰ x (numbers_from first count) → (first ≤ x) × (x < first + count)
numbers_within zero first x m = absurd (Memᴰ.not-nil m)
numbers_within (suc count) first x m = go (Memᴰ.cases_cons m) (numbers_within count (suc first) x)
  where
    go : (x ≡ first) ⊎ Memᴰ x (numbers_from (suc first) count) → (Memᴰ x (numbers_from (suc first) count) → (suc first ≤ x) × (x < suc first + count))
        → (first ≤ x) × (x < first + suc count)
    go (inl e) on = (omega arith, omega arith)
    go (inr n) on = let b = on n in (omega arith, omega arith)

-- a record of a list of them, by its number in the block
pub record Numbered {A : Type 0} (of : ℕ → A) (first count : ℕ) (x : A) : Type 0 where
  pub number : ℕ
  pub from : first ≤ number
  pub to : number < first + count
  pub same : of number ≡ x

numbered : {A : Type 0} (of : ℕ → A) (first count : ℕ) (x : A) → Memᴰ x (map of (numbers_from first count)) → Numbered of first count x
numbered of first count x m =
    let r = Memᴰ.of_map of (numbers_from first count) m in
    let b = numbers_within count first r.0 r.1 in
    record { number = r.0; from = b.0; to = b.1; same = r.2 }

no_records : {A : Type 0} (of : ℕ → A) (first count : ℕ) → count ≡ 0 → map of (numbers_from first count) ≡ []
no_records of first zero e = refl
no_records of first (suc count) e = absurd (omega arith)

some_records : {A : Type 0} (of : ℕ → A) (first count : ℕ) → 1 ≤ count → map of (numbers_from first count) ≡ [] → ⊥
some_records of first zero h e = omega arith
some_records of first (suc count) h e = let z : ◌≡◌ {A = ℕ} 0 1 = cc in omega arith

one_of_three : (P : ℕ → Type 0) (a b c x : ℕ) → P a → P b → P c → Memᴰ x (a ∷ b ∷ c ∷ []) → P x
one_of_three P a b c x p q r m =
    elim (Memᴰ.cases_cons m) [
      | inl e ↦ rw e p
      | inr n ↦ elim (Memᴰ.cases_cons n) [ inl e ↦ rw e q | inr o ↦ rw (Memᴰ.eq_of_singleton o) r ]
    ]

-- ---- fields and codes

-- 01: "element, component (both 1–255); presence (0 .. 3 ..); form (1 an, 2 n); longest (2), at least 1"; codes as below
pub record GoodField (f : Field) : Type 0 where
  pub element : 1 ≤ f.element
  pub element_most : f.element ≤ 255
  pub component : 1 ≤ f.component
  pub component_most : f.component ≤ 255
  pub presence : f.presence ≤ with_element_presence
  pub form : (f.form ≡ text_form) ⊎ (f.form ≡ number_form)
  pub longest : 1 ≤ f.longest
  pub codes : (v : List ℕ) → Memᴰ v f.codes → (1 ≤ length v) × (length v ≤ 6)

-- a field's place as one number, and fields whose places rise strictly
abbrev pub place_of : Field → ℕ
place_of f = 256 * f.element + f.component

abbrev pub PlacesRise : List Field → Type 0
PlacesRise [] = Unit {0}
PlacesRise (f ∷ fs) = ((h : Field) → Memᴰ h fs → place_of f < place_of h) × PlacesRise fs

-- 01: "rise in (element, component)": by the element, and within one by the component
abbrev pub Before : Field → Field → Type 0
Before f h = (f.element < h.element) ⊎ ((f.element ≡ h.element) × (f.component < h.component))

abbrev pub InOrder : List Field → Type 0
InOrder [] = Unit {0}
InOrder (f ∷ fs) = ((h : Field) → Memᴰ h fs → Before f h) × InOrder fs

-- the numbers tell the order, since no component is above 255
pub rises_in_order : (f h : Field) → h.component < 256 → place_of f < place_of h → Before f h
rises_in_order f h byte less = dite (dec_lt f.element h.element) inl (λ n. inr (omega arith, omega arith))

module _ (g : Guide) where
  -- each of so many fields, from a first on, lies below the next
  abbrev Steps : ℕ → ℕ → Type 0
  Steps first count = (f : ℕ) → first ≤ f → f + 1 < first + count → field_place g f + 1 ≤ field_place g (f + 1)

  behind : (count first : ℕ) → Steps first (suc count) → (h : Field) → Memᴰ h (map (field_of g) (numbers_from (suc first) count)) → field_place g first < place_of h
  behind zero first steps h x = absurd (Memᴰ.not-nil x)
  behind (suc count) first steps h x = go (Memᴰ.cases_cons x) (behind count (suc first) (λ f a b. steps f (omega arith) (omega arith)) h)
    where
      next : field_place g first < field_place g (suc first)
      next = let s = rw (add-one first) at (steps first (omega arith) (omega arith)) in omega arith

      go : (h ≡ field_of g (suc first)) ⊎ Memᴰ h (map (field_of g) (numbers_from (suc (suc first)) count))
          → (Memᴰ h (map (field_of g) (numbers_from (suc (suc first)) count)) → field_place g (suc first) < place_of h) → field_place g first < place_of h
      go (inl e) on = rw e next
      go (inr n) on = let a = next in let b = on n in omega arith

  rising : (count first : ℕ) → Steps first count → PlacesRise (map (field_of g) (numbers_from first count))
  rising zero first steps = tt
  rising (suc count) first steps = (behind count first steps, rising count (suc first) (λ f a b. steps f (omega arith) (omega arith)))

module _ (bs : List ℕ) (good : GoodBook bs) where
  -- 01: "length 1–6"
  pub code_length_lem : (c : ℕ) → c < (guide_of bs).codes → (1 ≤ length (code_value (guide_of bs) c)) × (length (code_value (guide_of bs) c) ≤ 6)
  unfolding code_rule
  code_length_lem c h =
      let r = (code_rule_lem bs good c h).0.0 in
      (simp length-take (omega arith), simp length-take (omega arith))

  values : (first count : ℕ) → first + count ≤ (guide_of bs).codes → (v : List ℕ) → Memᴰ v (map (code_value (guide_of bs)) (numbers_from first count))
      → (1 ≤ length v) × (length v ≤ 6)
  values first count inside v m =
      let n = numbered (code_value (guide_of bs)) first count v m in
      rw n.same at (code_length_lem n.number (let t = n.to in omega arith))

  pub good_field : (f : ℕ) → f < (guide_of bs).fields → GoodField (field_of (guide_of bs) f)
  unfolding field_rule range_rule
  good_field f h =
      let r = field_rule_lem bs good f h in
      record {
        element = r.0.0.0;
        element_most = r.0.0.1;
        component = r.0.1.0.0;
        component_most = r.0.1.0.1;
        presence = r.0.1.1;
        form = r.1.0.0;
        longest = r.1.0.1.0;
        codes = values ((guide_of bs).first_value f) ((guide_of bs).value_count f) r.1.1.0;
      }

  in_order : (count first : ℕ) → first + count ≤ (guide_of bs).fields → PlacesRise (map (field_of (guide_of bs)) (numbers_from first count))
      → InOrder (map (field_of (guide_of bs)) (numbers_from first count))
  in_order zero first inside rise = tt
  in_order (suc count) first inside rise = (after, in_order count (suc first) (omega arith) rise.1)
    where
      after : (h : Field) → Memᴰ h (map (field_of (guide_of bs)) (numbers_from (suc first) count)) → Before (field_of (guide_of bs) first) h
      after h m =
          let n = numbered (field_of (guide_of bs)) (suc first) count h m in
          let to = n.to in
          let good = rw n.same at (good_field n.number (omega arith)) in
          let most = good.component_most in
          rises_in_order (field_of (guide_of bs) first) h (omega arith) (rise.0 h m)

-- ---- one line

-- the tag as one number, first byte lowest
pub tag_number_lem : (bs : List ℕ) (l : ℕ)
    → (guide_of bs).tag l
    ≡ get_or (line_of (guide_of bs) l).tag 0 0 + 256 * get_or (line_of (guide_of bs) l).tag 1 0 + 65536 * get_or (line_of (guide_of bs) l).tag 2 0
tag_number_lem bs l = tag_bytes bs l

module _ (bs : List ℕ) (good : GoodBook bs) (l : ℕ) (from : 1 ≤ l) (to : l ≤ (guide_of bs).lines) where
  -- 01: "kind (1 segment, 2 group)"
  pub is_group_lem : ((line_of (guide_of bs) l).is_group ≡ true) ↔ ((guide_of bs).kind l ≡ group_kind)
  is_group_lem = (eqb-true _ _, eq-eqb _ _)

  pub is_segment : ((line_of (guide_of bs) l).is_group ≡ false) ↔ ((guide_of bs).kind l ≡ segment_kind)
  is_segment = (λ e. go (line_kind bs good l from to) (eqb-false _ _ e), λ e. ne_eqb ((guide_of bs).kind l) group_kind (λ f. omega arith))
    where
      go : ((guide_of bs).kind l ≡ segment_kind) ⊎ ((guide_of bs).kind l ≡ group_kind) → ((guide_of bs).kind l ≡ group_kind → ⊥) → (guide_of bs).kind l ≡ segment_kind
      go (inl e) n = e
      go (inr e) n = absurd (n e)

  -- 01: "required 0/1"
  pub is_required : ((line_of (guide_of bs) l).required ≡ true) ↔ ((guide_of bs).required l ≡ 1)
  is_required = (eqb-true _ _, eq-eqb _ _)

  pub is_not_required : ((line_of (guide_of bs) l).required ≡ false) ↔ ((guide_of bs).required l ≡ 0)
  is_not_required = (λ e. let n = eqb-false ((guide_of bs).required l) 1 e in let r = line_required bs good l from to in omega arith, λ e. ne_eqb ((guide_of bs).required l) 1 (λ f. omega arith))

  -- 01: "no line deeper than 7"
  pub depth_within : (line_of (guide_of bs) l).depth ≤ 7
  depth_within = line_depth bs good l from to

  -- 01: "maximum (4), 1–999,999"
  pub maximum_within : (1 ≤ (line_of (guide_of bs) l).maximum) × ((line_of (guide_of bs) l).maximum ≤ 999999)
  maximum_within = line_maximum bs good l from to

  -- 01: "tag (3 of A–Z, 0–9; zero for a group)"
  pub segment_tag : (line_of (guide_of bs) l).is_group ≡ false → (x : ℕ) → Memᴰ x (line_of (guide_of bs) l).tag → Holds (capital x or digit x)
  unfolding tag_rule tag_byte_rule
  segment_tag e x m =
      let k = is_segment.0 e in let t = line_tag bs good l from to in
      one_of_three (λ x. Holds (capital x or digit x)) _ _ _ x (t.0.0 k) (t.1.0.0 k) (t.1.1.0 k) m

  pub group_tag : (line_of (guide_of bs) l).is_group ≡ true → (line_of (guide_of bs) l).tag ≡ 0 ∷ 0 ∷ 0 ∷ []
  unfolding tag_rule tag_byte_rule
  group_tag e = let k = is_group_lem.0 e in let t = line_tag bs good l from to in rw (t.0.1 k, t.1.0.1 k, t.1.1.1 k)

  -- 01: "A selector has both numbers 1–255 and at least one code, or both 0 and no code."
  pub with_selector : 1 ≤ (line_of (guide_of bs) l).selector_element → (1 ≤ (line_of (guide_of bs) l).selector_component) × ((line_of (guide_of bs) l).codes ≡ [] → ⊥)
  unfolding selector_rule
  with_selector h = go (line_selector bs good l from to)
    where
      go : Holds (selector_rule (guide_of bs) l) → (1 ≤ (guide_of bs).selector_component l) × ((line_of (guide_of bs) l).codes ≡ [] → ⊥)
      go (inl s) = (s.1.0.0, some_records (code_value (guide_of bs)) ((guide_of bs).first_code l) ((guide_of bs).code_count l) s.1.1)
      go (inr n) = let z = n.0 in absurd (omega arith)

  pub without_selector : (line_of (guide_of bs) l).selector_element ≡ 0 → ((line_of (guide_of bs) l).selector_component ≡ 0) × ((line_of (guide_of bs) l).codes ≡ [])
  unfolding selector_rule
  without_selector h = go (line_selector bs good l from to)
    where
      go : Holds (selector_rule (guide_of bs) l) → ((guide_of bs).selector_component l ≡ 0) × ((line_of (guide_of bs) l).codes ≡ [])
      go (inl s) = let z = s.0.0 in absurd (omega arith)
      go (inr n) = (n.1.0, no_records (code_value (guide_of bs)) ((guide_of bs).first_code l) ((guide_of bs).code_count l) n.1.1)

  -- 01: "A group has no selector, codes or fields."
  pub group_has_none : (line_of (guide_of bs) l).is_group ≡ true
      → ((line_of (guide_of bs) l).selector_element ≡ 0) × ((line_of (guide_of bs) l).codes ≡ []) × ((line_of (guide_of bs) l).fields ≡ [])
  unfolding selector_rule
  group_has_none e = (go (line_selector bs good l from to), no_records _ _ _ plain.0, no_records _ _ _ plain.1)
    where
      plain : ((guide_of bs).code_count l ≡ 0) × ((guide_of bs).field_count l ≡ 0)
      plain = group_is_plain bs good l from to (is_group_lem.0 e)

      go : Holds (selector_rule (guide_of bs) l) → (guide_of bs).selector_element l ≡ 0
      go (inl s) = let a = s.1.1 in let b = plain.0 in absurd (omega arith)
      go (inr n) = n.0

  -- a code of the line is one of the block's, by its number there
  pub line_code : (v : List ℕ) → Memᴰ v (line_of (guide_of bs) l).codes → Numbered (code_value (guide_of bs)) ((guide_of bs).first_code l) ((guide_of bs).code_count l) v
  line_code = numbered (code_value (guide_of bs)) ((guide_of bs).first_code l) ((guide_of bs).code_count l)

  -- 01: "length 1–6"
  pub line_code_length : (v : List ℕ) → Memᴰ v (line_of (guide_of bs) l).codes → (1 ≤ length v) × (length v ≤ 6)
  line_code_length = values bs good ((guide_of bs).first_code l) ((guide_of bs).code_count l) (line_codes bs good l from to)

  -- what holds of a field holds of each of the line's
  pub line_field : (f : Field) → Memᴰ f (line_of (guide_of bs) l).fields → GoodField f
  line_field f m =
      let n = numbered (field_of (guide_of bs)) ((guide_of bs).first_field l) ((guide_of bs).field_count l) f m in
      let t = n.to in let inside = line_fields bs good l from to in
      rw n.same at (good_field bs good n.number (omega arith))

  -- 01: "A line's fields rise in (element, component)."
  pub line_fields_rise : PlacesRise (line_of (guide_of bs) l).fields
  line_fields_rise = rising (guide_of bs) ((guide_of bs).field_count l) ((guide_of bs).first_field l) (λ f a b. fields_rise bs good l from to f a (omega arith))

  pub line_fields_in_order : InOrder (line_of (guide_of bs) l).fields
  line_fields_in_order = in_order bs good ((guide_of bs).field_count l) ((guide_of bs).first_field l) (line_fields bs good l from to) line_fields_rise
