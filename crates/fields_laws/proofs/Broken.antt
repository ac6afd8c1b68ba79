-- What the test of one field means: on a value as it is written, in a good book and under good service characters, it says true
-- exactly when the field is broken.
use Prim.Native.Nat.{ℕ, zero, suc, ◌+◌, ◌≤◌, ◌<◌}
use mathlib.Core.Path.{◌≡◌, refl, sym, ap, ◌∙◌, subst}
use mathlib.Core.List.{List, [], ◌∷◌, map}
use mathlib.Core.Bool.{Bool, true, false, cond, true≢false, false≢true, not, ◌&&◌, ◌||◌}
use mathlib.Core.Logic.{◌↔◌}
use lib.Dec.{eqb, leb, eqb-suc-zero}
use lib.ListN.{length}
use borrow.Author.Tests.{eq-eqb, eqb-true, eqb-false, leb-true, le-leb, not-false}
use Rattle.guide.specs.meaning.Words.{empty_presence, must_presence, number_form, with_element_presence}
use Rattle.guide.specs.meaning.Guide.{Guide, guide_of}
use Rattle.book.specs.meaning.GoodBook.{GoodBook, field_rule, range_rule}
use Rattle.guide.specs.meaning.View.{numbers_from, code_value, field_of}
use Rattle.book_laws.proofs.Clauses.{field_rule_lem}
use Rattle.placing.specs.meaning.Fitting.{is_among}
use Rattle.reading.proofs.Booleans.{both, left, right, neither, or-true}
use Rattle.placing_laws.proofs.Codes.{any_code}
use Rattle.reading.specs.meaning.Service.{GoodService, must_release}
use Rattle.reading.specs.meaning.Message.{Component, released, write_component}
use Rattle.reading.specs.meaning.Component.{value_of, same_component}
use Rattle.reading.specs.declared.service.Service.{Service}
use Rattle.reading.proofs.Comparing.{same_bytes_true}
use Rattle.reading_laws.proofs.OneReading.{value_written, same_bytes_refl}
use Rattle.fields.specs.meaning.Number.{GoodMark, figures}
use Rattle.fields.specs.method.Number.{is_number}
use Rattle.fields.specs.meaning.Fields.{Values, In, HasBytes, OneOf, FitsText, FitsNumber, Fits, Breaks}
use Rattle.fields.specs.meaning.Fields.In.{here, there}
use Rattle.fields.specs.meaning.Fields.Breaks.{must_be_empty, must_have, must_with, unfit}
use Rattle.fields.specs.method.Parts.{Raw, has_bytes}
use Rattle.fields.specs.method.Testing.{has_code, fits_text, fits_number, fits, is_missing, is_broken}
use Rattle.fields_laws.proofs.Numbers.{number, number_as_written, figures_as_written}
use Rattle.fields_laws.proofs.Pieces.{raw_of}

-- ---- codes

among_in : (v : Component) (codes : List (List ℕ)) → is_among v codes ≡ true → In v codes
unfolding is_among
among_in v [] h = absurd (false≢true h)
among_in v (code ∷ codes) h = go (same_component v code) refl h (among_in v codes)
  where
    go : (t : Bool) → same_component v code ≡ t → (t || is_among v codes) ≡ true → (is_among v codes ≡ true → In v codes) → In v (code ∷ codes)
    go true e h on = subst (λ (x : List ℕ). In v (x ∷ codes)) (same_bytes_true v code e) here
    go false e h on = there (on h)

in_among : (v : Component) (codes : List (List ℕ)) → In v codes → is_among v codes ≡ true
unfolding is_among
in_among v [] x' = elim x' [ ]
in_among v (code ∷ codes) here = ap (λ (t : Bool). t || is_among v codes) (same_bytes_refl v)
in_among v (code ∷ codes) (there i) = go (same_component v code) (in_among v codes i)
  where
    go : (t : Bool) → is_among v codes ≡ true → (t || is_among v codes) ≡ true
    go true h = refl
    go false h = h

one_of : (code : ℕ → List ℕ) (v : Component) (first count : ℕ)
    → ((eqb count 0 || is_among v (map code (numbers_from first count))) ≡ true) ↔ OneOf (map code (numbers_from first count)) v
one_of code v first zero = (λ h. tt, λ h. refl)
one_of code v first (suc count) = (
  λ h. among_in v (map code (numbers_from first (suc count))) (rw (eqb-suc-zero count) at h),
  λ h. rw (eqb-suc-zero count) (in_among v (map code (numbers_from first (suc count))) h),
)

-- ---- a value has bytes exactly when it is written with some

has_released : (t : Bool) (r b : ℕ) (rest : List ℕ) → has_bytes (released t r b rest) ≡ true
unfolding has_bytes
has_released true r b rest = refl
has_released false r b rest = refl

module _ (s : Service) where
  raw_some : (b : ℕ) (v : Component) → has_bytes (raw_of s (b ∷ v)) ≡ true
  unfolding write_component
  raw_some b v = has_released (must_release s b) s.release b (write_component s v [])

  raw_none : has_bytes (raw_of s []) ≡ false
  unfolding write_component has_bytes
  raw_none = refl

  pub raw_has : (v : Component) → has_bytes (raw_of s v) ≡ true → HasBytes v
  raw_has v h e = true≢false (sym h ∙ ap (λ (x : Component). has_bytes (raw_of s x)) e ∙ raw_none)

  pub raw_empty : (v : Component) → has_bytes (raw_of s v) ≡ false → v ≡ []
  raw_empty [] h = refl
  raw_empty (b ∷ v) h = absurd (true≢false (sym (raw_some b v) ∙ h))

-- ---- form, length and codes

module _ (s : Service) (service : GoodService s) (mark : GoodMark s) (book : List ℕ) (good : GoodBook book) (f : ℕ) (within : f < (guide_of book).fields) where
  abbrev g : Guide
  g = guide_of book

  range : g.first_value f + g.value_count f ≤ g.codes
  unfolding field_rule range_rule
  range = (field_rule_lem book good f within).1.1.0

  code_as_written : (v : Component) → has_code g f (raw_of s v) ≡ (eqb (g.value_count f) 0 || is_among v (map (code_value g) (numbers_from (g.first_value f) (g.value_count f))))
  unfolding has_code
  code_as_written v = ap (◌||◌ (eqb (g.value_count f) 0)) (any_code book good s service v (g.first_value f) (g.value_count f) range)

  has_code_lem : (v : Component) → (has_code g f (raw_of s v) ≡ true) ↔ OneOf (field_of g f).codes v
  has_code_lem v =
      let o = one_of (code_value g) v (g.first_value f) (g.value_count f) in
      (λ h. o.0 (sym (code_as_written v) ∙ h), λ h. code_as_written v ∙ o.1 h)

  text : (v : Component) → (fits_text s g f (raw_of s v) ≡ true) ↔ FitsText (field_of g f) v
  unfolding fits_text
  text v =
      let e : length (value_of s (raw_of s v)) ≡ length v = ap length (value_written s v) in
      let l = leb (length (value_of s (raw_of s v))) (g.longest f) in (
        λ h.
            record {
              short = subst (λ (n : ℕ). n ≤ g.longest f) e (leb-true _ _ (left l (has_code g f (raw_of s v)) h));
              code = (has_code_lem v).0 (right l (has_code g f (raw_of s v)) h);
            },
        λ i. both (le-leb _ _ (subst (λ (n : ℕ). n ≤ g.longest f) (sym e) i.short)) ((has_code_lem v).1 i.code),
      )

  numeric : (v : Component) → (fits_number s g f (raw_of s v) ≡ true) ↔ FitsNumber s (field_of g f) v
  unfolding fits_number
  numeric v =
      let l = leb (figures s (raw_of s v)) (g.longest f) in
      let c = has_code g f (raw_of s v) in (
        λ h.
            let n : is_number s v ≡ true = sym (number_as_written s service mark v) ∙ left (is_number s (raw_of s v)) (l && c) h in
            let m : (l && c) ≡ true = right (is_number s (raw_of s v)) (l && c) h in
            record {
              number = (number s mark v).0 n;
              short = subst (λ (k : ℕ). k ≤ g.longest f) (figures_as_written s service mark v n) (leb-true _ _ (left l c m));
              code = (has_code_lem v).0 (right l c m);
            },
        λ i.
            let n : is_number s v ≡ true = (number s mark v).1 i.number in
            both (number_as_written s service mark v ∙ n)
            (both (le-leb _ _ (subst (λ (k : ℕ). k ≤ g.longest f) (sym (figures_as_written s service mark v n)) i.short)) ((has_code_lem v).1 i.code)),
      )

  fits_by : (t : Bool) (x : Raw) → eqb (g.form f) number_form ≡ t → fits s g f x ≡ cond t (fits_number s g f x) (fits_text s g f x)
  unfolding fits
  fits_by t x e = ap (λ (u : Bool). cond u (fits_number s g f x) (fits_text s g f x)) e

  fits_sound : (v : Component) → fits s g f (raw_of s v) ≡ true → Fits s (field_of g f) v
  fits_sound v h = go (eqb (g.form f) number_form) refl
    where
      go : (t : Bool) → eqb (g.form f) number_form ≡ t → Fits s (field_of g f) v
      go true e =
          record { numeric = λ i. (numeric v).0 (sym (fits_by true (raw_of s v) e) ∙ h); text = λ n. absurd (n (eqb-true _ _ e)) }
      go false e =
          record { numeric = λ i. absurd (eqb-false _ _ e i); text = λ n. (text v).0 (sym (fits_by false (raw_of s v) e) ∙ h) }

  fits_complete : (v : Component) → Fits s (field_of g f) v → fits s g f (raw_of s v) ≡ true
  fits_complete v i = go (eqb (g.form f) number_form) refl
    where
      go : (t : Bool) → eqb (g.form f) number_form ≡ t → fits s g f (raw_of s v) ≡ true
      go true e = fits_by true (raw_of s v) e ∙ (numeric v).1 (i.numeric (eqb-true _ _ e))
      go false e = fits_by false (raw_of s v) e ∙ (text v).1 (i.text (eqb-false _ _ e))

  -- a value fits a field exactly when its bytes pass the test
  pub fits_as_written : (v : Component) → (fits s g f (raw_of s v) ≡ true) ↔ Fits s (field_of g f) v
  fits_as_written v = (fits_sound v, fits_complete v)

-- ---- the whole test

-- it is known whether an element has bytes
pub record Known (v : Values) (e : ℕ) (some : Bool) : Type 0 where
  pub has : some ≡ true → (c : ℕ) × HasBytes (v e c)
  pub lacks : some ≡ false → (c : ℕ) → v e c ≡ []

-- the test of a field says whether the values break it
pub record Tests (s : Service) (g : Guide) (v : Values) (f : ℕ) : Type 0 where
  pub breaks : (some : Bool) → Known v (g.element f) some → is_broken s g some f (raw_of s (v (g.element f) (g.component f))) ≡ true → Breaks s (field_of g f) v
  pub keeps : (some : Bool) → Known v (g.element f) some → is_broken s g some f (raw_of s (v (g.element f) (g.component f))) ≡ false → Breaks s (field_of g f) v → ⊥

module _ (s : Service) (g : Guide) (some : Bool) (f : ℕ) where
  pub broken_none : is_broken s g some f (raw_of s []) ≡ is_missing g some f
  unfolding is_broken write_component has_bytes
  broken_none = refl

  broken_some : (x : Raw) → has_bytes x ≡ true → is_broken s g some f x ≡ (eqb (g.presence f) empty_presence || not (fits s g f x))
  unfolding is_broken
  broken_some x h = ap (λ (t : Bool). cond t (eqb (g.presence f) empty_presence || not (fits s g f x)) (is_missing g some f)) h

  missing_by : (t u : Bool) → eqb (g.presence f) must_presence ≡ t → eqb (g.presence f) with_element_presence ≡ u → is_missing g some f ≡ (t || (u && some))
  unfolding is_missing
  missing_by t u p q = ap (λ (x : Bool). x || (eqb (g.presence f) with_element_presence && some)) p ∙ ap (λ (x : Bool). t || (x && some)) q

module _ (s : Service) (g : Guide) (v : Values) (f : ℕ) (right-test : (x : Component) → (fits s g f (raw_of s x) ≡ true) ↔ Fits s (field_of g f) x) where
  abbrev e : ℕ
  e = g.element f

  abbrev c : ℕ
  c = g.component f

  missing_sound : (some : Bool) → Known v e some → v e c ≡ [] → is_missing g some f ≡ true → Breaks s (field_of g f) v
  missing_sound some k z h = go (eqb (g.presence f) must_presence) (eqb (g.presence f) with_element_presence) some refl refl refl
    where
      go : (t u w : Bool) → eqb (g.presence f) must_presence ≡ t → eqb (g.presence f) with_element_presence ≡ u → some ≡ w → Breaks s (field_of g f) v
      go true u w p q o = must_have (eqb-true _ _ p) z
      go false true true p q o = must_with (eqb-true _ _ q) z (k.has o).0 (k.has o).1
      go false true false p q o = absurd (false≢true (sym o ∙ sym (missing_by s g some f false true p q) ∙ h))
      go false false w p q o = absurd (false≢true (sym (missing_by s g some f false false p q) ∙ h))

  full_sound : (some : Bool) (x : Component) → v e c ≡ x → HasBytes x → is_broken s g some f (raw_of s x) ≡ true → has_bytes (raw_of s x) ≡ true → Breaks s (field_of g f) v
  full_sound some x z n h b = go (eqb (g.presence f) empty_presence) (fits s g f (raw_of s x)) refl refl (sym (broken_some s g some f (raw_of s x) b) ∙ h)
    where
      full : HasBytes (v e c)
      full y = n (sym z ∙ y)

      go : (t u : Bool) → eqb (g.presence f) empty_presence ≡ t → fits s g f (raw_of s x) ≡ u → (eqb (g.presence f) empty_presence || not (fits s g f (raw_of s x))) ≡ true → Breaks s (field_of g f) v
      go true u p q o = must_be_empty (eqb-true _ _ p) full
      go false true p q o = absurd (false≢true (rw (p, q) at o))
      go false false p q o =
          unfit full (λ y. true≢false (sym ((right-test x).1 (subst (Fits s (field_of g f)) z y)) ∙ q))

  sound : (some : Bool) (x : Component) → v e c ≡ x → Known v e some → is_broken s g some f (raw_of s x) ≡ true → Breaks s (field_of g f) v
  sound some [] z k h = missing_sound some k z (sym (broken_none s g some f) ∙ h)
  sound some (b ∷ x) z k h = full_sound some (b ∷ x) z (raw_has s (b ∷ x) (raw_some s b x)) h (raw_some s b x)

  complete : (some : Bool) (x : Component) → v e c ≡ x → Known v e some → is_broken s g some f (raw_of s x) ≡ false → Breaks s (field_of g f) v → ⊥
  complete some [] z k h (must_be_empty p y) = y z
  complete some [] z k h (must_have p y) =
      true≢false (sym (missing_by s g some f true (eqb (g.presence f) with_element_presence) (eq-eqb _ _ p) refl) ∙ sym (broken_none s g some f) ∙ h)
  complete some [] z k h (must_with p y d w) = go some refl
    where
      go : (o : Bool) → some ≡ o → ⊥
      go true o =
          true≢false (
          sym (missing_by s g some f (eqb (g.presence f) must_presence) true refl (eq-eqb _ _ p) ∙ ap (λ (u : Bool). eqb (g.presence f) must_presence || u) o ∙ or-true (eqb (g.presence f) must_presence))
          ∙ sym (broken_none s g some f) ∙ h
          )
      go false o = w (k.lacks o d)
  complete some [] z k h (unfit y w) = y z
  complete some (b ∷ x) z k h (must_be_empty p y) =
      true≢false (sym (eq-eqb (g.presence f) empty_presence p) ∙ (neither (eqb (g.presence f) empty_presence) (not (fits s g f (raw_of s (b ∷ x)))) (sym (broken_some s g some f (raw_of s (b ∷ x)) (raw_some s b x)) ∙ h)).0)
  complete some (b ∷ x) z k h (must_have p y) = raw_has s (b ∷ x) (raw_some s b x) (sym z ∙ y)
  complete some (b ∷ x) z k h (must_with p y d w) = raw_has s (b ∷ x) (raw_some s b x) (sym z ∙ y)
  complete some (b ∷ x) z k h (unfit y w) =
      let q = (neither (eqb (g.presence f) empty_presence) (not (fits s g f (raw_of s (b ∷ x)))) (sym (broken_some s g some f (raw_of s (b ∷ x)) (raw_some s b x)) ∙ h)).1 in
      w (subst (Fits s (field_of g f)) (sym z) ((right-test (b ∷ x)).0 (not-false (fits s g f (raw_of s (b ∷ x))) q)))

  pub tests : Tests s g v f
  tests = record { breaks = λ some k h. sound some (v e c) refl k h; keeps = λ some k h. complete some (v e c) refl k h }
