-- What a byte is, with all that is known of it; a good set's bytes; and that the standard set is good.
use Prim.Native.Nat.{ℕ}
use native.Mathlib.Omega.{arith}
use mathlib.Core.Path.{◌≡◌, refl, sym, ap, ◌∙◌}
use mathlib.Core.Bool.{Bool, true, false, or-true, true≢false}
use lib.Dec.{eqb}
use borrow.Author.Tests.{eq-eqb, ne_eqb, eqb-true}
use Rattle.reading.specs.meaning.Service.{GoodService, standard, is_data, is_word_byte, must_release}
use Rattle.reading.specs.meaning.Digit.{is_digit}
use Rattle.reading.specs.method.Machine.{pick, kind_of}
use Rattle.reading.specs.declared.service.Service.{Service}
use Rattle.reading.specs.declared.bytes.Kind.{Kind}
use Rattle.reading.specs.declared.bytes.Kind.TheVariants.{Component, Element, Terminator, Release, Plain, Other}

-- one view carries the facts of each kind
pub data Seen (s : Service) (b : ℕ) : Kind → Type 0 where
  component : b ≡ s.component → must_release s b ≡ true → Seen s b Component
  element : b ≡ s.element → must_release s b ≡ true → Seen s b Element
  terminator : b ≡ s.terminator → must_release s b ≡ true → Seen s b Terminator
  release : b ≡ s.release → must_release s b ≡ true → Seen s b Release
  plain : is_data b ≡ true → must_release s b ≡ false → Seen s b Plain
  other : is_data b ≡ false → must_release s b ≡ false → Seen s b Other

pub see : (s : Service) (b : ℕ) → Seen s b (kind_of s b)
unfolding kind_of must_release
see s b = go (eqb b s.release) (eqb b s.component) (eqb b s.element) (eqb b s.terminator) (is_data b) refl refl refl refl refl
  where
    go : (r c e t d : Bool) → eqb b s.release ≡ r → eqb b s.component ≡ c → eqb b s.element ≡ e → eqb b s.terminator ≡ t → is_data b ≡ d
        → Seen s b (pick r Release (pick c Component (pick e Element (pick t Terminator (pick d Plain Other)))))
    go true c e t d hr hc he ht hd = release (eqb-true b s.release hr) (simp hr)
    go false true e t d hr hc he ht hd = component (eqb-true b s.component hc) (simp (hr, hc))
    go false false true t d hr hc he ht hd = element (eqb-true b s.element he) (simp (hr, hc, he))
    go false false false true d hr hc he ht hd = terminator (eqb-true b s.terminator ht) (simp (hr, hc, he, ht))
    go false false false false true hr hc he ht hd = plain hd (simp (hr, hc, he, ht))
    go false false false false false hr hc he ht hd = other hd (simp (hr, hc, he, ht))

-- a digit is a word byte
pub digit_word : (b : ℕ) → is_digit b ≡ true → is_word_byte b ≡ true
unfolding is_digit is_word_byte
digit_word b e = rw e

-- what must be released under the standard set is none of the word bytes
standard_words : (b : ℕ) → is_word_byte b ≡ true → must_release standard b ≡ false
unfolding is_word_byte is_data
standard_words b h = go (kind_of standard b) (see standard b)
  where
    no_word : (k : ℕ) → b ≡ k → is_word_byte k ≡ false → must_release standard b ≡ false
    no_word k e n = absurd (true≢false (sym h ∙ ap is_word_byte e ∙ n))

    go : (k : Kind) → Seen standard b k → must_release standard b ≡ false
    go Component (component e t) = no_word 0x3a e refl
    go Element (element e t) = no_word 0x2b e refl
    go Terminator (terminator e t) = no_word 0x27 e refl
    go Release (release e t) = no_word 0x3f e refl
    go Plain (plain d t) = t
    go Other (other d t) = t

pub good_standard : GoodService standard
unfolding is_data
good_standard =
    record {
      bytes = (refl, (refl, (refl, (refl, (refl, tt)))));
      different = (
        (omega arith, (omega arith, (omega arith, (omega arith, tt)))),
        ((omega arith, (omega arith, (omega arith, tt))), ((omega arith, (omega arith, tt)), ((omega arith, tt), (tt, tt)))),
      );
      words = standard_words;
    }

module _ (s : Service) where
  -- the release, and each separator, must be released
  pub release_release : must_release s s.release ≡ true
  unfolding must_release
  release_release = simp (eq-eqb s.release s.release refl)

  pub release_component : must_release s s.component ≡ true
  unfolding must_release
  release_component = simp (eq-eqb s.component s.component refl, or-true)

  pub release_element : must_release s s.element ≡ true
  unfolding must_release
  release_element = simp (eq-eqb s.element s.element refl, or-true)

  pub release_terminator : must_release s s.terminator ≡ true
  unfolding must_release
  release_terminator = simp (eq-eqb s.terminator s.terminator refl, or-true)

module _ (s : Service) (good : GoodService s) where
  -- a good set's facts by name
  pub component_data : is_data s.component ≡ true
  component_data = good.bytes.0

  pub element_data : is_data s.element ≡ true
  element_data = good.bytes.1.0

  pub release_data : is_data s.release ≡ true
  release_data = good.bytes.1.1.1.0

  pub terminator_data : is_data s.terminator ≡ true
  terminator_data = good.bytes.1.1.1.1.0

  pub component_element : s.component ≡ s.element → ⊥
  component_element = good.different.0.0

  pub component_release : s.component ≡ s.release → ⊥
  component_release = good.different.0.1.1.0

  pub component_terminator : s.component ≡ s.terminator → ⊥
  component_terminator = good.different.0.1.1.1.0

  pub element_release : s.element ≡ s.release → ⊥
  element_release = good.different.1.0.1.0

  pub element_terminator : s.element ≡ s.terminator → ⊥
  element_terminator = good.different.1.0.1.1.0

  pub terminator_release : s.terminator ≡ s.release → ⊥
  terminator_release e = good.different.1.1.1.0.0 (sym e)

  -- each is of its own kind
  pub kind_release : kind_of s s.release ≡ Release
  unfolding kind_of
  kind_release = simp (eq-eqb s.release s.release refl)

  pub kind_component : kind_of s s.component ≡ Component
  unfolding kind_of
  kind_component = simp (ne_eqb s.component s.release component_release, eq-eqb s.component s.component refl)

  pub kind_element : kind_of s s.element ≡ Element
  unfolding kind_of
  kind_element =
      simp (
        ne_eqb s.element s.release element_release,
        ne_eqb s.element s.component (λ e. component_element (sym e)),
        eq-eqb s.element s.element refl,
      )

  pub kind_terminator : kind_of s s.terminator ≡ Terminator
  unfolding kind_of
  kind_terminator =
      simp (
        ne_eqb s.terminator s.release terminator_release,
        ne_eqb s.terminator s.component (λ e. component_terminator (sym e)),
        ne_eqb s.terminator s.element (λ e. element_terminator (sym e)),
        eq-eqb s.terminator s.terminator refl,
      )

  -- and so is a word byte that is data
  pub kind_word : (b : ℕ) → is_word_byte b ≡ true → is_data b ≡ true → kind_of s b ≡ Plain
  kind_word b w d = go (kind_of s b) (see s b)
    where
      marked : {k : Kind} → must_release s b ≡ true → k ≡ Plain
      marked t = absurd (true≢false (sym t ∙ good.words b w))

      go : (k : Kind) → Seen s b k → k ≡ Plain
      go Component (component e t) = marked t
      go Element (element e t) = marked t
      go Terminator (terminator e t) = marked t
      go Release (release e t) = marked t
      go Plain (plain h t) = refl
      go Other (other h t) = absurd (true≢false (sym d ∙ h))
