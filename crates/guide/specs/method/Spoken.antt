-- The words of a book as the code names them, each with the number that stands for it.
use Rattle.std.specs.Prelude.{◌≡◌, ◌≢◌, ◌<◌, ℕ, Result, MatchResult}
use Rattle.guide.specs.meaning.Words.{segment_kind, group_kind, empty_presence, must_presence, may_presence, with_element_presence, text_form, number_form, never_mode, must_mode, may_mode, must_if_mode, may_if_mode, all_joint, any_joint}
use Rattle.guide.specs.declared.words.NoWord.{NoWord}
use Rattle.guide.specs.declared.words.LineKind.{LineKind}
use Rattle.guide.specs.declared.words.LineKind.TheVariants as kind
use Rattle.guide.specs.declared.words.Presence.{Presence}
use Rattle.guide.specs.declared.words.Presence.TheVariants as presence
use Rattle.guide.specs.declared.words.Form.{Form}
use Rattle.guide.specs.declared.words.Form.TheVariants as form
use Rattle.guide.specs.declared.words.Mode.{Mode}
use Rattle.guide.specs.declared.words.Mode.TheVariants as mode
use Rattle.guide.specs.declared.words.Joint.{Joint}
use Rattle.guide.specs.declared.words.Joint.TheVariants as joint

abbrev pub kind_number : LineKind → ℕ
kind_number kind.Segment = segment_kind
kind_number kind.Group = group_kind

abbrev pub presence_number : Presence → ℕ
presence_number presence.Empty = empty_presence
presence_number presence.Must = must_presence
presence_number presence.May = may_presence
presence_number presence.WithElement = with_element_presence

abbrev pub form_number : Form → ℕ
form_number form.Text = text_form
form_number form.Number = number_form

abbrev pub mode_number : Mode → ℕ
mode_number mode.Never = never_mode
mode_number mode.Must = must_mode
mode_number mode.May = may_mode
mode_number mode.MustIf = must_if_mode
mode_number mode.MayIf = may_if_mode

abbrev pub joint_number : Joint → ℕ
joint_number joint.All = all_joint
joint_number joint.Any = any_joint

-- a word is read from its number, or none where no word has the number
abbrev pub SpeaksKind : ℕ → Result LineKind NoWord → Type 0
SpeaksKind number r = MatchResult r (λ word. kind_number word ≡ number) (λ _. (number ≢ segment_kind) × (number ≢ group_kind))

abbrev pub SpeaksPresence : ℕ → Result Presence NoWord → Type 0
SpeaksPresence number r = MatchResult r (λ word. presence_number word ≡ number) (λ _. with_element_presence < number)

abbrev pub SpeaksForm : ℕ → Result Form NoWord → Type 0
SpeaksForm number r = MatchResult r (λ word. form_number word ≡ number) (λ _. (number ≢ text_form) × (number ≢ number_form))

abbrev pub SpeaksMode : ℕ → Result Mode NoWord → Type 0
SpeaksMode number r = MatchResult r (λ word. mode_number word ≡ number) (λ _. may_if_mode < number)

abbrev pub SpeaksJoint : ℕ → Result Joint NoWord → Type 0
SpeaksJoint number r = MatchResult r (λ word. joint_number word ≡ number) (λ _. (number ≢ all_joint) × (number ≢ any_joint))
