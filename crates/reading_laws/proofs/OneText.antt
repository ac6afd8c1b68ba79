-- Law one_reading_one_text (T-11). Tags and values determine a valid message: this is what T-05's two clauses are for (with one of them left
-- out they do not, as Trailing.antt shows). A message and its text determine each other. So tags and values determine the text.
use Prim.Native.Nat.{ℕ, suc}
use mathlib.Core.Path.{◌≡◌, refl, sym, ap, ◌∙◌}
use mathlib.Core.List.{List, [], ◌∷◌, nil≢cons, cons≢nil, head-eq_of_cons-eq, tail-eq_of_cons-eq}
use mathlib.Core.Logic.{◌↔◌}
use Rattle.reading.specs.meaning.Service.{All, GoodService, standard}
use Rattle.reading.specs.meaning.Message.{Component, Element, Message, HasBytes, Last, EndsInBytes, ValidComponent, ValidElement, ValidSegment, ValidMessage, render}
use Rattle.reading.specs.meaning.WellFormed.{WellFormed}
use Rattle.reading.specs.meaning.Component.{components_of, value_in_components, value_in_elements}
use Rattle.reading.specs.statements.OneText.{tags_of, value_in_segments, value_in, Alike, OneReadingOneText, OneReadingOneTextForGoodSets}
use Rattle.reading.specs.declared.service.Service.{Service}
use Rattle.reading_laws.proofs.Lists.{last_behind}
use Rattle.reading_laws.proofs.Services.{good_standard}
use Rattle.reading_laws.proofs.OneReading.{one_reading}

-- ---- things in a row, by what is seen at each number: of each of them something or nothing, and behind the last nothing. If something is
-- seen of the last, what is seen determines the row.

module _ {A B : Type 0} (nothing : B) (of : A → B) (seen : ℕ → List A → B)
    (behind : (k : ℕ) → seen k [] ≡ nothing)
    (first : (x : A) (xs : List A) → seen 0 (x ∷ xs) ≡ of x)
    (next : (k : ℕ) (x : A) (xs : List A) → seen (suc k) (x ∷ xs) ≡ seen k xs)
    (Ends : A → Type 0)
    (something : (x : A) → Ends x → of x ≡ nothing → ⊥) where
  not_nothing : (x : A) (xs : List A) → Last Ends (x ∷ xs) → ((k : ℕ) → seen k (x ∷ xs) ≡ nothing) → ⊥
  not_nothing x [] h e = something x h (sym (first x []) ∙ e 0)
  not_nothing x (y ∷ ys) h e = not_nothing y ys h (λ k. sym (next k x (y ∷ ys)) ∙ e (suc k))

  module _ (Valid : A → Type 0) (one : (x y : A) → Valid x → Valid y → of x ≡ of y → x ≡ y) where
    same_row : (xs ys : List A) → All Valid xs → All Valid ys → Last Ends xs → Last Ends ys → ((k : ℕ) → seen k xs ≡ seen k ys) → xs ≡ ys
    same_row [] [] v w p q e = refl
    same_row [] (y ∷ ys) v w p q e = absurd (not_nothing y ys q (λ k. sym (e k) ∙ behind k))
    same_row (x ∷ xs) [] v w p q e = absurd (not_nothing x xs p (λ k. e k ∙ behind k))
    same_row (x ∷ xs) (y ∷ ys) v w p q e =
        let h : x ≡ y = one x y v.0 w.0 (sym (first x xs) ∙ e 0 ∙ first y ys) in
        let t : xs ≡ ys = same_row xs ys v.1 w.1 (last_behind Ends x xs p) (last_behind Ends y ys q) (λ k. sym (next k x xs) ∙ e (suc k) ∙ next k y ys) in
        cc (h, t)

-- ---- an element's components

has_bytes_lem : (v : Component) → HasBytes v → v ≡ [] → ⊥
has_bytes_lem [] h e = h
has_bytes_lem (b ∷ bs) h e = cons≢nil e

some_component : (v : Component) (vs : List Component) → Last HasBytes (v ∷ vs) → ((c : ℕ) → value_in_components c (v ∷ vs) ≡ []) → ⊥
some_component = not_nothing [] (λ v. v) value_in_components (λ c. refl) (λ v vs. refl) (λ c v vs. refl) HasBytes has_bytes_lem

same_components : (vs ws : List Component) → All ValidComponent vs → All ValidComponent ws → Last HasBytes vs → Last HasBytes ws
    → ((c : ℕ) → value_in_components c vs ≡ value_in_components c ws) → vs ≡ ws
same_components = same_row [] (λ v. v) value_in_components (λ c. refl) (λ v vs. refl) (λ c v vs. refl) HasBytes has_bytes_lem ValidComponent (λ v w p q e. e)

-- ---- a segment's elements, each by the values of its components

abbrev values_of : Element → ℕ → Component
values_of x c = value_in_components c (components_of x)

abbrev values_in : ℕ → List Element → ℕ → Component
values_in e xs c = value_in_elements e c xs

some_value : (x : Element) → EndsInBytes x → values_of x ≡ (λ c. []) → ⊥
some_value x h e = some_component x.first x.more h (λ c. ap (λ (f : ℕ → Component). f c) e)

same_element : (x y : Element) → ValidElement x → ValidElement y → values_of x ≡ values_of y → x ≡ y
same_element x y v w e =
    let more : x.more ≡ y.more = same_components x.more y.more v.more w.more v.ended w.ended (λ c. ap (λ (f : ℕ → Component). f (suc c)) e) in
    λ i. record { first = e i 0; more = more i }

same_elements : (xs ys : List Element) → All ValidElement xs → All ValidElement ys → Last EndsInBytes xs → Last EndsInBytes ys
    → ((e c : ℕ) → value_in_elements e c xs ≡ value_in_elements e c ys) → xs ≡ ys
same_elements xs ys v w p q h =
    same_row (λ c. []) values_of values_in (λ e. refl) (λ x xs. refl) (λ e x xs. refl) EndsInBytes some_value ValidElement same_element xs ys v w p q
    (λ e i c. h e c i)

-- ---- a message's segments

same_segments : (m n : Message) → All ValidSegment m → All ValidSegment n → tags_of m ≡ tags_of n
    → ((k e c : ℕ) → value_in_segments k e c m ≡ value_in_segments k e c n) → m ≡ n
same_segments [] [] v w t h = refl
same_segments [] (y ∷ n) v w t h = absurd (nil≢cons t)
same_segments (x ∷ m) [] v w t h = absurd (cons≢nil t)
same_segments (x ∷ m) (y ∷ n) v w t h =
    let elements : x.elements ≡ y.elements =
    same_elements x.elements y.elements v.0.elements w.0.elements v.0.ended w.0.ended (λ e c. h 0 (suc e) (suc c)) in
    let first : x ≡ y = λ i. record { tag = head-eq_of_cons-eq t i; elements = elements i } in
    let rest : m ≡ n = same_segments m n v.1 w.1 (tail-eq_of_cons-eq t) (λ k. h (suc k)) in
    cc (first, rest)

-- the law: the values at all places, with the tags, determine which segments, elements and components are there, and each one's value
pub alike_is_same : (m n : Message) → ValidMessage m → ValidMessage n → Alike m n ↔ (m ≡ n)
alike_is_same m n v w = (
  λ a. same_segments m n v.segments w.segments a.same_tags (λ k. a.same_values (suc k)),
  λ e. record { same_tags = ap tags_of e; same_values = λ k i c. ap (λ (x : Message). value_in x k i c) e },
)

-- the law: the reading of a text is a function of the text, and the text of the reading
pub text_is_reading : (s : Service) → GoodService s → (text other : List ℕ) (x : WellFormed s text) (y : WellFormed s other)
    → (text ≡ other) ↔ (x.message ≡ y.message)
text_is_reading s good text other x y = (
  λ e. one_reading s good other (record { message = x.message; valid = x.valid; same = sym e ∙ x.same }) y,
  λ e. x.same ∙ ap (render s) e ∙ sym y.same,
)

-- the law: one reading, one text
pub one_reading_one_text : OneReadingOneTextForGoodSets
one_reading_one_text s good =
    record {
      one_reading = one_reading s good;
      one_text = λ text other x y a. (text_is_reading s good text other x y).1 ((alike_is_same x.message y.message x.valid y.valid).0 a);
    }

pub one_reading_one_text_standard : OneReadingOneText standard
one_reading_one_text_standard = one_reading_one_text standard good_standard
