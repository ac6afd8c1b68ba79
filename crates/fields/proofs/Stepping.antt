-- The steps through the fields of a line: each says what one field, one component or one element makes of the test of all that
-- is left.
use Prim.Native.Nat.{ℕ, suc, ◌+◌, ◌-◌, ◌≤◌, ◌<◌}
use native.Mathlib.Omega.{arith}
use native.Mathlib.Decide.{dec_lt}
use native.Mathlib.Numerals.{add-one}
use mathlib.Core.Path.{◌≡◌, refl, sym, ap, ap₂, ◌∙◌}
use mathlib.Core.List.{List, [], ◌∷◌}
use mathlib.Core.Bool.{Bool, true, false, cond, ◌&&◌, false≢true}
use mathlib.Core.Logic.{dite}
use lib.Dec.{eqb}
use lib.ListN.{length, drop, length-drop}
use borrow.Author.Tests.{eq-eqb, ne_eqb}
use Rattle.guide.specs.meaning.Guide.{Guide}
use Rattle.guide.specs.meaning.View.{numbers_from}
use Rattle.reading.specs.declared.service.Service.{Service}
use Rattle.reading.specs.declared.bytes.Kind.TheVariants.{Component, Element}
use Rattle.fields.specs.method.Parts.{Raw, Cut, cut, components_in, further_in}
use Rattle.fields.specs.meaning.Fields.{at_fault}
use Rattle.fields.specs.method.Testing.{is_missing, is_broken, names_first, Tested, broken, kept, then_test, test_unnamed, test_component, test_absent, test_components, test_element, then_fault, test_rest, test_elements, fault_at, Near, InReach}
use Rattle.fields.specs.method.Kept.{Ends, opens, elements_in, behind_component, behind_element, Reads, Tail, Within, fields_from, fields_in}
use Rattle.std.specs.Prelude.{Result, Ok, Err}
use Rattle.std.specs.declared.ops.Range.{Range}
use Rattle.fields.specs.declared.fault.Fault.{Fault}
use Rattle.fields.proofs.Cutting.{split, next_shorter, behind_shorter, tail_here, tail_on, tail_next, tail_read, tail_shorter}
use Rattle.fields.proofs.Fitting.{bytes_none, bytes_some}

-- ---- the fields that are left

pub fields_next : (f last : ℕ) → f < last → fields_from f last ≡ f ∷ fields_from (f + 1) last
fields_next f last h =
    let z : last - f ≡ suc (last - (f + 1)) = omega arith in
    ap (numbers_from f) z ∙ ap (λ (x : ℕ). f ∷ numbers_from x (last - (f + 1))) (sym (add-one f))

pub fields_none : (f last : ℕ) → last ≤ f → fields_from f last ≡ []
fields_none f last h = let z : last - f ≡ 0 = omega arith in ap (numbers_from f) z

module _ (g : Guide) (e c f last : ℕ) where
  pub names_out : last ≤ f → false ≡ names_first g e c (fields_from f last)
  unfolding names_first
  names_out h = sym (ap (names_first g e c) (fields_none f last h))

  names_one : f < last → names_first g e c (fields_from f last) ≡ (eqb (g.element f) e && eqb (g.component f) c)
  unfolding names_first
  names_one h = ap (names_first g e c) (fields_next f last h)

  pub names_other : (x : ℕ) → f < last → x ≡ g.element f → (x ≡ e → ⊥) → false ≡ names_first g e c (fields_from f last)
  names_other x h i n = sym (names_one h ∙ ap (λ (t : Bool). t && eqb (g.component f) c) (ne_eqb (g.element f) e (λ y. n (i ∙ y))))

  pub names_by : (x y : ℕ) → f < last → x ≡ g.element f → x ≡ e → y ≡ g.component f → eqb y c ≡ names_first g e c (fields_from f last)
  names_by x y h i n k =
      ap (λ (z : ℕ). eqb z c) k ∙ sym (names_one h ∙ ap (λ (t : Bool). t && eqb (g.component f) c) (eq-eqb (g.element f) e (sym i ∙ n)))

  -- a field that names the component is there
  pub names_some : names_first g e c (fields_from f last) ≡ true → f < last
  names_some h = dite (dec_lt f last) (λ i. i) (λ n. absurd (false≢true (names_out (let k : last ≤ f = omega arith in k) ∙ h)))

-- ---- none is passed beyond the last

pub within_all : (fields : Range ℕ) → Within fields fields
within_all fields h = (h, refl)

pub within_on : (fields left last : Range ℕ) → Within fields left → Within left last → Within fields last
within_on fields left last v w h = let a = v h in let b = w a.0 in (b.0, b.1 ∙ a.1)

pub within_named : (g : Guide) (e c : ℕ) (fields : Range ℕ) → names_first g e c (fields_in fields) ≡ true → Within fields (record { start = fields.start + 1; end = fields.end })
within_named g e c fields h i = let k = names_some g e c fields.start fields.end h in (omega arith, refl)

-- ---- one component

module _ (s : Service) (g : Guide) (some : Bool) (e c : ℕ) (x : Raw) where
  test_unnamed_lem : (fs : List ℕ) → names_first g e c fs ≡ false → test_component s g some e c x fs ≡ test_unnamed c x fs
  unfolding test_component names_first
  test_unnamed_lem [] h = refl
  test_unnamed_lem (f ∷ fs) h =
      ap (λ (t : Bool). cond t (cond (is_broken s g some f x) (broken c) (kept fs)) (test_unnamed c x (f ∷ fs))) h

  test_named : (f : ℕ) (fs : List ℕ) → names_first g e c (f ∷ fs) ≡ true → test_component s g some e c x (f ∷ fs) ≡ cond (is_broken s g some f x) (broken c) (kept fs)
  unfolding test_component names_first
  test_named f fs h = ap (λ (t : Bool). cond t (cond (is_broken s g some f x) (broken c) (kept fs)) (test_unnamed c x (f ∷ fs))) h

  module _ (f last : ℕ) where
    pub unnamed_full : names_first g e c (fields_from f last) ≡ false → 0 < length x → test_component s g some e c x (fields_from f last) ≡ broken c
    unnamed_full n h =
        test_unnamed_lem (fields_from f last) n ∙ ap (λ (t : Bool). cond t (broken c) (kept (fields_from f last))) (bytes_some x (λ z. omega arith))

    pub unnamed_empty : names_first g e c (fields_from f last) ≡ false → length x ≤ 0 → test_component s g some e c x (fields_from f last) ≡ kept (fields_from f last)
    unnamed_empty n h =
        test_unnamed_lem (fields_from f last) n ∙ ap (λ (t : Bool). cond t (broken c) (kept (fields_from f last))) (bytes_none x (omega arith))

    named_by : (t : Bool) → names_first g e c (fields_from f last) ≡ true → is_broken s g some f x ≡ t
        → test_component s g some e c x (fields_from f last) ≡ cond t (broken c) (kept (fields_from (f + 1) last))
    named_by t n b =
        let i = names_some g e c f last n in
        ap (test_component s g some e c x) (fields_next f last i)
        ∙ test_named f (fields_from (f + 1) last) (ap (names_first g e c) (sym (fields_next f last i)) ∙ n)
        ∙ ap (λ (u : Bool). cond u (broken c) (kept (fields_from (f + 1) last))) b

    pub named_broken : names_first g e c (fields_from f last) ≡ true → is_broken s g some f x ≡ true → test_component s g some e c x (fields_from f last) ≡ broken c
    named_broken n b = named_by true n b

    pub named_kept : names_first g e c (fields_from f last) ≡ true → is_broken s g some f x ≡ false
        → test_component s g some e c x (fields_from f last) ≡ kept (fields_from (f + 1) last)
    named_kept n b = named_by false n b

-- ---- the fields beyond the last component

module _ (g : Guide) (some : Bool) (e f last : ℕ) where
  absent_by : (t u : Bool) → f < last → eqb (g.element f) e ≡ t → is_missing g some f ≡ u
      → test_absent g some e (fields_from f last) ≡ cond t (cond u (broken (g.component f)) (test_absent g some e (fields_from (f + 1) last))) (kept (fields_from f last))
  unfolding test_absent
  absent_by t u h i k =
      ap (test_absent g some e) (fields_next f last h)
      ∙ ap₂ (λ (p q : Bool). cond p (cond q (broken (g.component f)) (test_absent g some e (fields_from (f + 1) last))) (kept (f ∷ fields_from (f + 1) last))) i k
      ∙ ap (λ (fs : List ℕ). cond t (cond u (broken (g.component f)) (test_absent g some e (fields_from (f + 1) last))) (kept fs)) (sym (fields_next f last h))

  pub absent_out : last ≤ f → test_absent g some e (fields_from f last) ≡ kept (fields_from f last)
  unfolding test_absent
  absent_out h = ap (test_absent g some e) (fields_none f last h) ∙ ap kept (sym (fields_none f last h))

  module _ (h : f < last) (x : ℕ) (i : x ≡ g.element f) where
    pub absent_other : (x ≡ e → ⊥) → test_absent g some e (fields_from f last) ≡ kept (fields_from f last)
    absent_other n = absent_by false (is_missing g some f) h (ne_eqb (g.element f) e (λ y. n (i ∙ y))) refl

    pub absent_missing : x ≡ e → is_missing g some f ≡ true → (y : ℕ) → y ≡ g.component f → test_absent g some e (fields_from f last) ≡ broken y
    absent_missing n m y k = absent_by true true h (eq-eqb (g.element f) e (sym i ∙ n)) m ∙ ap broken (sym k)

    pub absent_on : x ≡ e → is_missing g some f ≡ false → test_absent g some e (fields_from (f + 1) last) ≡ test_absent g some e (fields_from f last)
    absent_on n m = sym (absent_by true false h (eq-eqb (g.element f) e (sym i ∙ n)) m)

-- ---- the fields beyond the last element

module _ (g : Guide) (f last : ℕ) where
  rest_by : (t : Bool) → f < last → is_missing g false f ≡ t → test_rest g (fields_from f last) ≡ cond t (at_fault (g.element f) (g.component f)) (test_rest g (fields_from (f + 1) last))
  unfolding test_rest
  rest_by t h m =
      ap (test_rest g) (fields_next f last h)
      ∙ ap (λ (p : Bool). cond p (at_fault (g.element f) (g.component f)) (test_rest g (fields_from (f + 1) last))) m

  pub rest_out : last ≤ f → Ok tt ≡ test_rest g (fields_from f last)
  unfolding test_rest
  rest_out h = sym (ap (test_rest g) (fields_none f last h))

  pub rest_missing : f < last → is_missing g false f ≡ true → (x y : ℕ) → x ≡ g.element f → y ≡ g.component f → at_fault x y ≡ test_rest g (fields_from f last)
  rest_missing h m x y i k = ap₂ at_fault i k ∙ sym (rest_by true h m)

  pub rest_on : f < last → is_missing g false f ≡ false → test_rest g (fields_from (f + 1) last) ≡ test_rest g (fields_from f last)
  rest_on h m = sym (rest_by false h m)

-- ---- the components of an element

module _ (s : Service) (g : Guide) (bs : List ℕ) (some : Bool) (e : ℕ) (fields : Range ℕ) where
  abbrev all_components : Tested
  all_components = test_components s g some e 1 (components_in (cut s false bs)) (fields_in fields)

  -- the test from this component on is the test of all
  pub record Going (c : ℕ) (rest : List ℕ) (left : Range ℕ) : Type 0 where
    pub first : 1 ≤ c
    pub counted : c + length rest ≤ length bs + 1
    pub tail : Tail bs rest
    pub within : Within fields left
    pub same : test_components s g some e c (components_in (cut s false rest)) (fields_in left) ≡ all_components
    pub further : further_in (cut s false rest) ≡ further_in (cut s false bs)

  pub going_begin : Going 1 bs fields
  going_begin = record { first = omega arith; counted = omega arith; tail = tail_here bs; within = within_all fields; same = refl; further = refl }

  module _ (c : ℕ) (rest part behind : List ℕ) (left : Range ℕ) (i : Going c rest left) (r : Reads s rest part behind) where
    -- one component, and what stands behind it
    read_test : test_components s g some e c (components_in (cut s false rest)) (fields_in left)
        ≡ then_test (test_component s g some e c part (fields_in left)) (test_components s g some e (suc c) (behind_component s behind))
    unfolding test_components
    read_test = ap (λ (x : Cut). test_components s g some e c (components_in x) (fields_in left)) r.cuts

    pub going_broken : (x : Fault) → test_component s g some e c part (fields_in left) ≡ broken x.component → (x.element ≡ e) × (x.component ≤ c)
        → (all_components ≡ broken x.component) × ((x.element ≡ e) × Near (length bs) x.component)
    going_broken x t w =
        let n = w.1 in let m = i.counted in (
          sym i.same ∙ read_test ∙ ap (λ (y : Tested). then_test y (test_components s g some e (suc c) (behind_component s behind))) t,
          (w.0, omega arith),
        )

    module _ (last : Range ℕ) (w : Within left last) (t : test_component s g some e c part (fields_in left) ≡ kept (fields_in last)) where
      kept_test : (o : Bool) → opens Component s behind ≡ o
          → test_components s g some e c (components_in (cut s false rest)) (fields_in left)
          ≡ test_components s g some e (suc c) (cond o (components_in (cut s false (drop 1 behind))) []) (fields_in last)
      kept_test o k =
          read_test ∙ ap (λ (y : Tested). then_test y (test_components s g some e (suc c) (behind_component s behind))) t
          ∙ ap (λ (y : Bool). test_components s g some e (suc c) (cond y (components_in (cut s false (drop 1 behind))) []) (fields_in last)) k

      kept_further : (o : Bool) → opens Component s behind ≡ o → further_in (cut s false rest) ≡ cond o (further_in (cut s false (drop 1 behind))) (behind_element s behind)
      kept_further o k = ap further_in r.cuts ∙ ap (λ (y : Bool). cond y (further_in (cut s false (drop 1 behind))) (behind_element s behind)) k

      pub going_on : (next : List ℕ) → (opens Component s behind ≡ true) × (next ≡ drop 1 behind) → Going (c + 1) next last
      going_on next o =
          let a = behind_shorter s rest part behind r in let d = i.counted in let n = next_shorter s Component behind next o in
          record {
            first = omega arith;
            counted = omega arith;
            tail = tail_on bs behind next (tail_on bs rest behind i.tail (tail_read s rest part behind r)) (tail_next behind next o.1);
            within = within_on fields left last i.within w;
            same =
                ap₂ (λ (x : ℕ) (l : List ℕ). test_components s g some e x (components_in (cut s false l)) (fields_in last)) (add-one c) o.1
                ∙ sym (kept_test true o.0) ∙ i.same;
            further = ap (λ (l : List ℕ). further_in (cut s false l)) o.1 ∙ sym (kept_further true o.0) ∙ i.further;
          }

      pub going_closed : opens Component s behind ≡ false → all_components ≡ test_absent g some e (fields_in last)
      unfolding test_components
      going_closed k = sym i.same ∙ kept_test false k

      pub going_ends : opens Component s behind ≡ false → Ends s bs behind × Within fields last
      going_ends k =
          (record { tail = tail_on bs rest behind i.tail (tail_read s rest part behind r); further = sym i.further ∙ kept_further false k }, within_on fields left last i.within w)

-- a fault among the first fields is near whatever the message is
pub near_more : (n : ℕ) (r : Result (Unit {0}) Fault) → InReach 0 r → InReach n r
near_more n (Err x) h = let a = h.0 in let b = h.1 in (omega arith, omega arith)
near_more n (Ok _) h = tt

-- ---- the elements of a segment

module _ (s : Service) (g : Guide) (bs : List ℕ) (at line : ℕ) where
  -- e elements have been tested, and this stands behind the last
  pub record Passing (e : ℕ) (behind : List ℕ) (left : Range ℕ) : Type 0 where
    pub counted : e + length behind ≤ length bs
    pub same : test_elements s g (suc e) (behind_element s behind) (fields_in left) ≡ fault_at s g bs at line

  pub passing_begin : (rest behind : List ℕ) (left : Range ℕ) → left.start ≡ g.first_field line → left.end ≡ left.start + g.field_count line
      → rest ≡ drop (at + 3) bs → Ends s rest behind → Passing 0 behind left
  unfolding fault_at
  passing_begin rest behind left i k d h =
      let m = tail_shorter rest behind h.tail in let n : length rest ≡ length bs - (at + 3) = ap length d ∙ length-drop (at + 3) bs in
      record {
        counted = omega arith;
        same =
            let z : left.end - left.start ≡ g.field_count line = omega arith in
            ap (λ (x : List (List Raw)). test_elements s g 1 x (fields_in left)) (sym h.further)
            ∙ ap₂ (λ (x : List ℕ) (fs : List ℕ). test_elements s g 1 (further_in (cut s false x)) fs) d (ap₂ numbers_from i z);
      }

  module _ (e : ℕ) (behind : List ℕ) (left : Range ℕ) (i : Passing e behind left) where
    pub passing_done : opens Element s behind ≡ false → test_rest g (fields_in left) ≡ fault_at s g bs at line
    unfolding test_elements
    passing_done o =
        sym (ap (λ (t : Bool). test_elements s g (suc e) (cond t (elements_in (cut s false (drop 1 behind))) []) (fields_in left)) o) ∙ i.same

    module _ (next : List ℕ) (o : (opens Element s behind ≡ true) × (next ≡ drop 1 behind)) where
      -- the next element, and those behind it
      element_test : fault_at s g bs at line
          ≡ then_fault (e + 1) (test_element s g (e + 1) (components_in (cut s false next)) (fields_in left)) (test_elements s g (suc (e + 1)) (further_in (cut s false next)))
      unfolding test_elements
      element_test =
          sym i.same
          ∙ ap (λ (t : Bool). test_elements s g (suc e) (cond t (elements_in (cut s false (drop 1 behind))) []) (fields_in left)) o.0
          ∙ ap₂ (λ (n : ℕ) (l : List ℕ). test_elements s g n (elements_in (cut s false l)) (fields_in left)) (sym (add-one e)) (sym o.1)
          ∙ ap (λ (x : List (List Raw)). test_elements s g (e + 1) x (fields_in left)) (split (cut s false next))

      -- by what the test of the element answers
      pub passing_broken : (x : Fault) → test_element s g (e + 1) (components_in (cut s false next)) (fields_in left) ≡ broken x.component
          → (x.element ≡ e + 1) × Near (length next) x.component → (Err x ≡ fault_at s g bs at line) × InReach (length bs) (Err x)
      passing_broken x t w =
          let n = i.counted in let m = next_shorter s Element behind next o in let k = w.0 in let j = w.1 in (
            ap (λ (y : ℕ). at_fault y x.component) k
                ∙ sym (element_test ∙ ap (λ (y : Tested). then_fault (e + 1) y (test_elements s g (suc (e + 1)) (further_in (cut s false next)))) t),
            (omega arith, omega arith),
          )

      pub passing_on : (last : Range ℕ) (closed : List ℕ) → test_element s g (e + 1) (components_in (cut s false next)) (fields_in left) ≡ kept (fields_in last)
          → Ends s next closed → Passing (e + 1) closed last
      passing_on last closed t w =
          let a = tail_shorter next closed w.tail in let n = i.counted in let m = next_shorter s Element behind next o in
          record {
            counted = omega arith;
            same =
                ap (λ (x : List (List Raw)). test_elements s g (suc (e + 1)) x (fields_in last)) (sym w.further)
                ∙ sym (element_test ∙ ap (λ (x : Tested). then_fault (e + 1) x (test_elements s g (suc (e + 1)) (further_in (cut s false next)))) t);
          }

-- ---- the steps of each function

pub ruleset naming = (names_out, names_other, names_by)

pub ruleset one_component = (names_some, named_broken, named_kept, unnamed_full, unnamed_empty, within_named, within_all)

pub ruleset absent = (absent_out, absent_other, absent_missing, absent_on)

pub ruleset rest = (rest_missing, rest_on, rest_out)

pub ruleset going = (going_begin, going_broken, going_closed, going_ends)

pub ruleset passing = (passing_broken, passing_done, near_more)
