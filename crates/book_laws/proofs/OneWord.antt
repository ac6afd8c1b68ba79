-- Law one-outcome of the words: two outcomes that meet the promise of how a word is read from its number are equal.
use Prim.Native.Nat.{ℕ, ◌<◌}
use native.Mathlib.Omega.{arith}
use mathlib.Core.Path.{◌≡◌, refl, sym, ap, subst, ◌∙◌}
use mathlib.Core.Bool.{cond}
use lib.Dec.{eqb}
use Rattle.std.specs.Prelude.{◌≢◌, Result, Ok, Err, MatchResult}
use Rattle.reading_laws.proofs.OneOutcome.{One}
use Rattle.guide.specs.method.Spoken.{kind_number, presence_number, form_number, mode_number, joint_number}
use Rattle.guide.specs.declared.words.NoWord.{NoWord}
use Rattle.guide.specs.declared.words.LineKind.{LineKind}
use Rattle.guide.specs.declared.words.LineKind.TheVariants as kind
use Rattle.guide.specs.declared.words.Presence.{Presence}
use Rattle.guide.specs.declared.words.Presence.TheVariants as presence
use Rattle.guide.specs.declared.words.Form.{Form}
use Rattle.guide.specs.declared.words.Form.TheVariants as form
use Rattle.guide.specs.declared.words.Mode.{Mode}
use Rattle.guide.specs.declared.words.Mode.TheVariants as mode
use Rattle.guide.specs.declared.words.Joint.{Joint}
use Rattle.guide.specs.declared.words.Joint.TheVariants as joint
use Rattle.guide.proofs.words.LineKindTryFromU32.try_from.Reads as line_kind_from
use Rattle.guide.proofs.words.PresenceTryFromU32.try_from.Reads as presence_from
use Rattle.guide.proofs.words.FormTryFromU32.try_from.Reads as form_from
use Rattle.guide.proofs.words.ModeTryFromU32.try_from.Reads as mode_from
use Rattle.guide.proofs.words.JointTryFromU32.try_from.Reads as joint_from

-- a word that can be told from its number, and whose number is none that no word has
module _ {W : Type 0} (number_of : W → ℕ) (word_of : ℕ → W) (back : (w : W) → word_of (number_of w) ≡ w)
    (Other : ℕ → Type 0) (spoken : (w : W) → Other (number_of w) → ⊥) where
  one_word : (n : ℕ) (r q : Result W NoWord) → MatchResult r (λ w. number_of w ≡ n) (λ _. Other n) → MatchResult q (λ w. number_of w ≡ n) (λ _. Other n) → r ≡ q
  one_word n (Ok w) (Ok v) h k = ap Ok (sym (back w) ∙ ap word_of (h ∙ sym k) ∙ back v)
  one_word n (Ok w) (Err e) h k = absurd (spoken w (subst Other (sym h) k))
  one_word n (Err e) (Ok w) h k = absurd (spoken w (subst Other (sym k) h))
  one_word n (Err e) (Err f) h k = refl

abbrev kind_of : ℕ → LineKind
kind_of n = cond (eqb n 1) kind.Segment kind.Group

kind_back : (w : LineKind) → kind_of (kind_number w) ≡ w
kind_back kind.Segment = refl
kind_back kind.Group = refl

kind_spoken : (w : LineKind) → (kind_number w ≢ 1) × (kind_number w ≢ 2) → ⊥
kind_spoken kind.Segment h = h.0 refl
kind_spoken kind.Group h = h.1 refl

abbrev presence_of : ℕ → Presence
presence_of n = cond (eqb n 0) presence.Empty (cond (eqb n 1) presence.Must (cond (eqb n 2) presence.May presence.WithElement))

presence_back : (w : Presence) → presence_of (presence_number w) ≡ w
presence_back presence.Empty = refl
presence_back presence.Must = refl
presence_back presence.May = refl
presence_back presence.WithElement = refl

presence_spoken : (w : Presence) → 3 < presence_number w → ⊥
presence_spoken presence.Empty h = omega arith
presence_spoken presence.Must h = omega arith
presence_spoken presence.May h = omega arith
presence_spoken presence.WithElement h = omega arith

abbrev form_of : ℕ → Form
form_of n = cond (eqb n 1) form.Text form.Number

form_back : (w : Form) → form_of (form_number w) ≡ w
form_back form.Text = refl
form_back form.Number = refl

form_spoken : (w : Form) → (form_number w ≢ 1) × (form_number w ≢ 2) → ⊥
form_spoken form.Text h = h.0 refl
form_spoken form.Number h = h.1 refl

abbrev mode_of : ℕ → Mode
mode_of n = cond (eqb n 0) mode.Never (cond (eqb n 1) mode.Must (cond (eqb n 2) mode.May (cond (eqb n 3) mode.MustIf mode.MayIf)))

mode_back : (w : Mode) → mode_of (mode_number w) ≡ w
mode_back mode.Never = refl
mode_back mode.Must = refl
mode_back mode.May = refl
mode_back mode.MustIf = refl
mode_back mode.MayIf = refl

mode_spoken : (w : Mode) → 4 < mode_number w → ⊥
mode_spoken mode.Never h = omega arith
mode_spoken mode.Must h = omega arith
mode_spoken mode.May h = omega arith
mode_spoken mode.MustIf h = omega arith
mode_spoken mode.MayIf h = omega arith

abbrev joint_of : ℕ → Joint
joint_of n = cond (eqb n 1) joint.All joint.Any

joint_back : (w : Joint) → joint_of (joint_number w) ≡ w
joint_back joint.All = refl
joint_back joint.Any = refl

joint_spoken : (w : Joint) → (joint_number w ≢ 1) × (joint_number w ≢ 2) → ⊥
joint_spoken joint.All h = h.0 refl
joint_spoken joint.Any h = h.1 refl

pub one_line_kind_from : One line_kind_from.Post
one_line_kind_from κs a r q x y m n = one_word kind_number kind_of kind_back (λ n. (n ≢ 1) × (n ≢ 2)) kind_spoken _ r q m n

pub one_presence_from : One presence_from.Post
one_presence_from κs a r q x y m n = one_word presence_number presence_of presence_back (λ n. 3 < n) presence_spoken _ r q m n

pub one_form_from : One form_from.Post
one_form_from κs a r q x y m n = one_word form_number form_of form_back (λ n. (n ≢ 1) × (n ≢ 2)) form_spoken _ r q m n

pub one_mode_from : One mode_from.Post
one_mode_from κs a r q x y m n = one_word mode_number mode_of mode_back (λ n. 4 < n) mode_spoken _ r q m n

pub one_joint_from : One joint_from.Post
one_joint_from κs a r q x y m n = one_word joint_number joint_of joint_back (λ n. (n ≢ 1) × (n ≢ 2)) joint_spoken _ r q m n
