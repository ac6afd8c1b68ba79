-- Law number: the test of the form n says true exactly of 01's numbers; and a number is written as it is, since no digit, no minus
-- and no decimal mark is ever released under good service characters.
use Prim.Native.Nat.{ℕ, ◌<◌}
use native.Mathlib.Omega.{arith}
use mathlib.Core.Path.{◌≡◌, refl, sym, ap, ◌∙◌, subst}
use mathlib.Core.List.{List, [], ◌∷◌, ◌++◌, append-nil}
use mathlib.Core.Bool.{Bool, true, false, cond, false≢true}
use mathlib.Core.Logic.{◌↔◌}
use lib.Dec.{eqb, leb}
use lib.ListN.{length}
use borrow.Author.Tests.{eq-eqb, ne_eqb, eqb-true, leb-true}
use Rattle.reading.specs.meaning.Service.{All, GoodService, standard, is_word_byte, must_release}
use Rattle.reading.specs.meaning.Message.{Component, released, write_component}
use Rattle.reading.specs.meaning.Component.{value_from, kept_or_released, value_of}
use Rattle.reading.specs.declared.service.Service.{Service}
use Rattle.reading_laws.proofs.Lists.{all_map, all_append}
use Rattle.reading_laws.proofs.Services.{digit_word}
use Rattle.reading_laws.proofs.OneReading.{not_release, value_written}
use Rattle.reading.proofs.Booleans.{both, left, right, same_test}
use Rattle.reading.specs.meaning.Digit.{is_digit}
use Rattle.fields.specs.meaning.Number.{Digits, minus, Fraction, none, after, ValidFraction, write_fraction, write_sign, IsNumber, figures, GoodMark}
use Rattle.fields.specs.method.Number.{starts_digit, after_digits, is_none, are_digits, ends_number, without_sign, is_number}

-- the standard decimal mark is good: the laws speak of something
pub good_mark_standard : GoodMark standard
unfolding is_digit
good_mark_standard = record { no_digit = refl; no_minus = λ e. omega arith }

-- ---- digits

abbrev IsDigit : ℕ → Type 0
IsDigit b = is_digit b ≡ true

abbrev leading : List ℕ → List ℕ
leading [] = []
leading (b ∷ bs) = cond (is_digit b) (b ∷ leading bs) []

digits_split : (bs : List ℕ) → bs ≡ leading bs ++ after_digits bs
unfolding after_digits
digits_split [] = refl
digits_split (b ∷ bs) = go (is_digit b) (digits_split bs)
  where
    go : (t : Bool) → bs ≡ leading bs ++ after_digits bs → b ∷ bs ≡ cond t (b ∷ leading bs) [] ++ cond t (after_digits bs) (b ∷ bs)
    go true e = ap (◌∷◌ b) e
    go false e = refl

leading_digits : (bs : List ℕ) → All IsDigit (leading bs)
leading_digits [] = tt
leading_digits (b ∷ bs) = go (is_digit b) refl (leading_digits bs)
  where
    go : (t : Bool) → is_digit b ≡ t → All IsDigit (leading bs) → All IsDigit (cond t (b ∷ leading bs) [])
    go true e h = (e, h)
    go false e h = tt

leading_some : (bs : List ℕ) → starts_digit bs ≡ true → 0 < length (leading bs)
unfolding starts_digit
leading_some [] h = absurd (false≢true h)
leading_some (b ∷ bs) h = rw h (omega arith)

none_left : (bs : List ℕ) → is_none bs ≡ true → bs ≡ []
unfolding is_none
none_left [] h = refl
none_left (b ∷ bs) h = absurd (false≢true h)

digits_of : (bs : List ℕ) → are_digits bs ≡ true → Digits bs
unfolding are_digits
digits_of bs h =
    let e : bs ≡ leading bs = digits_split bs ∙ ap (◌++◌ (leading bs)) (none_left (after_digits bs) (right (starts_digit bs) (is_none (after_digits bs)) h)) ∙ append-nil (leading bs) in
    record {
      all = subst (All IsDigit) (sym e) (leading_digits bs);
      some = let n = leading_some bs (left (starts_digit bs) (is_none (after_digits bs)) h) in let m = ap length e in omega arith;
    }

after_all : (ds rest : List ℕ) → All IsDigit ds → after_digits (ds ++ rest) ≡ after_digits rest
unfolding after_digits
after_all [] rest h = refl
after_all (d ∷ ds) rest h = ap (λ (t : Bool). cond t (after_digits (ds ++ rest)) (d ∷ (ds ++ rest))) h.0 ∙ after_all ds rest h.1

starts_all : (ds rest : List ℕ) → Digits ds → starts_digit (ds ++ rest) ≡ true
unfolding starts_digit
starts_all [] rest h = let n = h.some in absurd (omega arith)
starts_all (d ∷ ds) rest h = h.all.0

are_all : (ds : List ℕ) → Digits ds → are_digits ds ≡ true
unfolding are_digits after_digits is_none
are_all ds h =
    both (ap starts_digit (sym (append-nil ds)) ∙ starts_all ds [] h)
    (ap (λ (x : List ℕ). is_none (after_digits x)) (sym (append-nil ds)) ∙ ap is_none (after_all ds [] h.all))

digit_no_minus : (b : ℕ) → is_digit b ≡ true → b ≡ minus → ⊥
unfolding is_digit
digit_no_minus b h e = let n = leb-true 0x30 b (left (leb 0x30 b) (leb b 0x39) h) in omega arith

module _ (s : Service) where
  -- ---- a number by its test

  fraction_of : (bs : List ℕ) → ends_number s bs ≡ true → (f : Fraction) × ValidFraction f × (bs ≡ write_fraction s f)
  unfolding ends_number
  fraction_of [] h = (none, tt, refl)
  fraction_of (b ∷ bs) h = (
    after bs,
    digits_of bs (right (eqb b s.decimal) (are_digits bs) h),
    ap (λ (x : ℕ). x ∷ bs) (eqb-true b s.decimal (left (eqb b s.decimal) (are_digits bs) h)),
  )

  sign_of : (v : List ℕ) → (negative : Bool) × (v ≡ write_sign negative (without_sign v))
  unfolding without_sign
  sign_of [] = (false, refl)
  sign_of (b ∷ bs) = go (eqb b minus) refl
    where
      go : (t : Bool) → eqb b minus ≡ t → (negative : Bool) × (b ∷ bs ≡ write_sign negative (cond t bs (b ∷ bs)))
      go true e = (true, ap (λ (x : ℕ). x ∷ bs) (eqb-true b minus e))
      go false e = (false, refl)

  number_sound : (v : List ℕ) → is_number s v ≡ true → IsNumber s v
  unfolding is_number
  number_sound v h =
      let g = sign_of v in
      let u = without_sign v in
      let f = fraction_of (after_digits u) (right (starts_digit u) (ends_number s (after_digits u)) h) in
      record {
        negative = g.0;
        whole = leading u;
        fraction = f.0;
        digits = record { all = leading_digits u; some = leading_some u (left (starts_digit u) (ends_number s (after_digits u)) h) };
        more = f.1;
        same = g.1 ∙ ap (write_sign g.0) (digits_split u ∙ ap (◌++◌ (leading u)) f.2);
      }

  module _ (mark : GoodMark s) where
    fraction_after : (f : Fraction) → after_digits (write_fraction s f) ≡ write_fraction s f
    unfolding after_digits
    fraction_after none = refl
    fraction_after (after ds) = ap (λ (t : Bool). cond t (after_digits ds) (s.decimal ∷ ds)) mark.no_digit

    fraction_ends : (f : Fraction) → ValidFraction f → ends_number s (write_fraction s f) ≡ true
    unfolding ends_number
    fraction_ends none h = refl
    fraction_ends (after ds) h = both (eq-eqb s.decimal s.decimal refl) (are_all ds h)

    without : (negative : Bool) (whole rest : List ℕ) → Digits whole → without_sign (write_sign negative (whole ++ rest)) ≡ whole ++ rest
    unfolding without_sign
    without true whole rest h = ap (λ (t : Bool). cond t (whole ++ rest) (minus ∷ (whole ++ rest))) (eq-eqb minus minus refl)
    without false [] rest h = let n = h.some in absurd (omega arith)
    without false (d ∷ ds) rest h = ap (λ (t : Bool). cond t (ds ++ rest) (d ∷ (ds ++ rest))) (ne_eqb d minus (digit_no_minus d h.all.0))

    number_complete : (v : List ℕ) → IsNumber s v → is_number s v ≡ true
    unfolding is_number
    number_complete v i =
        let w = write_fraction s i.fraction in
        let u : without_sign v ≡ i.whole ++ w = ap without_sign i.same ∙ without i.negative i.whole w i.digits in
        both (ap starts_digit u ∙ starts_all i.whole w i.digits)
        (ap (λ (x : List ℕ). ends_number s (after_digits x)) u
        ∙ ap (ends_number s) (after_all i.whole w i.digits.all ∙ fraction_after i.fraction) ∙ fraction_ends i.fraction i.more)

    -- the law
    pub number : (v : List ℕ) → (is_number s v ≡ true) ↔ IsNumber s v
    number v = (number_sound v, number_complete v)

-- ---- as it is written

module _ (s : Service) where
  abbrev Plain : ℕ → Type 0
  Plain b = must_release s b ≡ false

  plain_written : (v : Component) → All Plain v → write_component s v [] ≡ v
  unfolding write_component
  plain_written [] h = refl
  plain_written (b ∷ bs) h = ap (λ (t : Bool). released t s.release b (write_component s bs [])) h.0 ∙ ap (◌∷◌ b) (plain_written bs h.1)

  plain_value : (x : List ℕ) → All Plain x → value_of s x ≡ x
  unfolding value_from
  plain_value [] h = refl
  plain_value (b ∷ bs) h =
      ap (λ (t : Bool). kept_or_released t b (value_from s false bs) (value_from s true bs)) (not_release s b h.0) ∙ ap (◌∷◌ b) (plain_value bs h.1)

minus_word : is_word_byte minus ≡ true
unfolding is_word_byte
minus_word = refl

module _ (s : Service) (good : GoodService s) (mark : GoodMark s) where
  decimal_plain : must_release s s.decimal ≡ false
  unfolding must_release
  decimal_plain =
      simp (
        ne_eqb s.decimal s.release good.different.1.1.0.0,
        ne_eqb s.decimal s.component (λ e. good.different.0.1.0 (sym e)),
        ne_eqb s.decimal s.element (λ e. good.different.1.0.0 (sym e)),
        ne_eqb s.decimal s.terminator good.different.1.1.0.1.0,
      )

  digits_plain : (ds : List ℕ) → All IsDigit ds → All (Plain s) ds
  digits_plain = all_map IsDigit (Plain s) (λ b h. good.words b (digit_word b h))

  fraction_plain : (f : Fraction) → ValidFraction f → All (Plain s) (write_fraction s f)
  fraction_plain none h = tt
  fraction_plain (after ds) h = (decimal_plain, digits_plain ds h.all)

  sign_plain : (negative : Bool) (bs : List ℕ) → All (Plain s) bs → All (Plain s) (write_sign negative bs)
  sign_plain true bs h = (good.words minus minus_word, h)
  sign_plain false bs h = h

  number_plain : (v : List ℕ) → IsNumber s v → All (Plain s) v
  number_plain v i =
      subst (All (Plain s)) (sym i.same)
      (sign_plain i.negative (i.whole ++ write_fraction s i.fraction)
      (all_append (Plain s) i.whole (write_fraction s i.fraction) (digits_plain i.whole i.digits.all) (fraction_plain i.fraction i.more)))

  -- where its bytes are a number they are its value, and where its value is a number it is its bytes
  raw_number : (v : Component) → is_number s (write_component s v []) ≡ true → write_component s v [] ≡ v
  raw_number v h =
      sym (plain_value s (write_component s v []) (number_plain (write_component s v []) ((number s mark (write_component s v [])).0 h))) ∙ value_written s v

  value_number : (v : Component) → is_number s v ≡ true → write_component s v [] ≡ v
  value_number v h = plain_written s v (number_plain v ((number s mark v).0 h))

  -- so the bytes may be tested for the value
  pub number_as_written : (v : Component) → is_number s (write_component s v []) ≡ is_number s v
  number_as_written v =
      same_test (is_number s (write_component s v [])) (is_number s v)
      (λ h. ap (is_number s) (sym (raw_number v h)) ∙ h)
      (λ h. ap (is_number s) (value_number v h) ∙ h)

  pub figures_as_written : (v : Component) → is_number s v ≡ true → figures s (write_component s v []) ≡ figures s v
  figures_as_written v h = ap (figures s) (value_number v h)
