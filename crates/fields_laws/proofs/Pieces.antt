-- The cut of a well-formed segment: its components, each as it is written. A separator of the segment is never released, and one
-- within a value always is.
use Prim.Native.Nat.{ℕ, ◌+◌}
use mathlib.Core.Path.{◌≡◌, refl, sym, ap, ◌∙◌}
use mathlib.Core.List.{List, [], ◌∷◌, ◌++◌, map, append-nil, append_assoc}
use mathlib.Core.Bool.{Bool, true, false, true≢false}
use lib.ListN.{drop}
use lib.Seq.{drop-drop}
use Rattle.reading.specs.meaning.Service.{All, GoodService, is_data, must_release}
use Rattle.reading.specs.meaning.Message.{released, ValidComponent, ValidElement, write_component, write_more, write_elements}
use Rattle.reading.specs.meaning.Message as message
use Rattle.reading.specs.meaning.WellFormed.{SegmentAt}
use Rattle.reading.specs.meaning.Component.{components_of}
use Rattle.reading.specs.method.Machine.{kind_of}
use Rattle.reading.specs.declared.service.Service.{Service}
use Rattle.reading.specs.declared.bytes.Kind.{Kind}
use Rattle.reading.specs.declared.bytes.Kind.TheVariants.{Component, Element, Terminator, Release, Plain, Other}
use Rattle.reading_laws.proofs.Services.{Seen, see, kind_release, kind_component, kind_element, kind_terminator}
use Rattle.reading_laws.proofs.Services.Seen.{component, element, terminator, release, plain, other}
use Rattle.fields.specs.method.Parts.{Raw, Cut, pieces, add_byte, add_component, add_element, cut_by, cut}
use Rattle.fields.proofs.Cutting.{prepend}

-- a value, and an element's values, as they are written
abbrev pub raw_of : Service → message.Component → Raw
raw_of s v = write_component s v []

abbrev pub raws_of : Service → message.Element → List Raw
raws_of s x = map (raw_of s) (components_of x)

module _ (s : Service) (good : GoodService s) where
  cut_step : (b : ℕ) (bs : List ℕ) (kind : Kind) → kind_of s b ≡ kind → cut s false (b ∷ bs) ≡ cut_by kind b (λ r. cut s r bs)
  unfolding cut
  cut_step b bs kind e = ap (λ (k : Kind). cut_by k b (λ r. cut s r bs)) e

  cut_two : (b : ℕ) (rest : List ℕ) → cut s false (s.release ∷ b ∷ rest) ≡ add_byte s.release (add_byte b (cut s false rest))
  unfolding cut
  cut_two b rest = cut_step s.release (b ∷ rest) Release (kind_release s good)

  cut_byte : (b : ℕ) (rest : List ℕ) → is_data b ≡ true
      → cut s false (released (must_release s b) s.release b rest) ≡ prepend (released (must_release s b) s.release b []) (cut s false rest)
  cut_byte b rest h = go (kind_of s b) refl (see s b)
    where
      two : (x : Cut) → add_byte s.release (add_byte b x) ≡ prepend (s.release ∷ b ∷ []) x
      two (pieces x xs es) = refl

      one : (x : Cut) → add_byte b x ≡ prepend (b ∷ []) x
      one (pieces x xs es) = refl

      must : must_release s b ≡ true → cut s false (released (must_release s b) s.release b rest) ≡ prepend (released (must_release s b) s.release b []) (cut s false rest)
      must t = rw t (cut_two b rest ∙ two (cut s false rest))

      go : (k : Kind) → kind_of s b ≡ k → Seen s b k
          → cut s false (released (must_release s b) s.release b rest) ≡ prepend (released (must_release s b) s.release b []) (cut s false rest)
      go Component i (component _ t) = must t
      go Element i (element _ t) = must t
      go Terminator i (terminator _ t) = must t
      go Release i (release _ t) = must t
      go Plain i (plain _ t) = rw t (cut_step b rest Plain i ∙ one (cut s false rest))
      go Other i (other d t) = absurd (true≢false (sym h ∙ d))

  prepend_both : (x y : Raw) (c : Cut) → prepend x (prepend y c) ≡ prepend (x ++ y) c
  prepend_both x y (pieces z xs es) = ap (λ (w : Raw). pieces w xs es) (sym (append_assoc x y z))

  prepend_none : (c : Cut) → prepend [] c ≡ c
  prepend_none (pieces z xs es) = refl

  released_front : (t : Bool) (r b : ℕ) (rest : List ℕ) → released t r b [] ++ rest ≡ released t r b rest
  released_front true r b rest = refl
  released_front false r b rest = refl

  cut_component : (v : message.Component) (rest : List ℕ) → ValidComponent v → cut s false (write_component s v rest) ≡ prepend (raw_of s v) (cut s false rest)
  unfolding write_component
  cut_component [] rest valid = sym (prepend_none (cut s false rest))
  cut_component (b ∷ v) rest valid =
      cut_byte b (write_component s v rest) valid.0
      ∙ ap (prepend (released (must_release s b) s.release b [])) (cut_component v rest valid.1)
      ∙ prepend_both (released (must_release s b) s.release b []) (write_component s v []) (cut s false rest)
      ∙ ap (λ (x : Raw). prepend x (cut s false rest)) (released_front (must_release s b) s.release b (write_component s v []))

  -- a component before others of its element, or before what ends it
  cut_first : (v : message.Component) (rest : List ℕ) (xs : List Raw) (es : List (List Raw)) → ValidComponent v → cut s false rest ≡ pieces [] xs es
      → cut s false (write_component s v rest) ≡ pieces (raw_of s v) xs es
  cut_first v rest xs es valid e =
      cut_component v rest valid ∙ ap (prepend (raw_of s v)) e ∙ ap (λ (x : Raw). pieces x xs es) (append-nil (raw_of s v))

  cut_more : (vs : List message.Component) (rest : List ℕ) (es : List (List Raw)) → All ValidComponent vs → cut s false rest ≡ pieces [] [] es
      → cut s false (write_more s vs rest) ≡ pieces [] (map (raw_of s) vs) es
  unfolding write_more
  cut_more [] rest es valid e = e
  cut_more (v ∷ vs) rest es valid e =
      cut_step s.component (write_component s v (write_more s vs rest)) Component (kind_component s good)
      ∙ ap add_component (cut_first v (write_more s vs rest) (map (raw_of s) vs) es valid.0 (cut_more vs rest es valid.1 e))

  cut_elements : (xs : List message.Element) (rest : List ℕ) → All ValidElement xs
      → cut s false (write_elements s xs (s.terminator ∷ rest)) ≡ pieces [] [] (map (raws_of s) xs)
  unfolding write_elements
  cut_elements [] rest valid = cut_step s.terminator rest Terminator (kind_terminator s good)
  cut_elements (x ∷ xs) rest valid =
      cut_step s.element (write_component s x.first (write_more s x.more (write_elements s xs (s.terminator ∷ rest)))) Element (kind_element s good)
      ∙ ap add_element
      (cut_first x.first (write_more s x.more (write_elements s xs (s.terminator ∷ rest))) (map (raw_of s) x.more) (map (raws_of s) xs) valid.0.first
      (cut_more x.more (write_elements s xs (s.terminator ∷ rest)) (map (raws_of s) xs) valid.0.more (cut_elements xs rest valid.1)))

  -- the law
  pub cut_segment : (bs : List ℕ) (at : ℕ) (g : message.Segment) → SegmentAt s bs at g → cut s false (drop (at + 3) bs) ≡ pieces [] [] (map (raws_of s) g.elements)
  cut_segment bs at g i =
      let tail : drop (at + 3) bs ≡ write_elements s g.elements (s.terminator ∷ i.rest) = sym (drop-drop 3 at bs) ∙ ap (drop 3) i.same in
      ap (cut s false) tail ∙ cut_elements g.elements i.rest i.valid.elements
