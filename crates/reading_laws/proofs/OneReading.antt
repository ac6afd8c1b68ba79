-- Laws one_reading and raw_is_value: bytes are the writing of one message, one segment and one value at most.
use Prim.Native.Nat.{ℕ}
use mathlib.Core.Path.{◌≡◌, refl, sym, ap, ◌∙◌}
use mathlib.Core.List.{List, [], ◌∷◌, ◌++◌, nil≢cons, cons≢nil, head-eq_of_cons-eq, tail-eq_of_cons-eq}
use mathlib.Core.Bool.{Bool, true, false, true≢false, ◌||◌}
use mathlib.Core.Logic.{◌↔◌}
use lib.Dec.{eqb}
use borrow.Author.Tests.{eq-eqb}
use Rattle.reading.specs.meaning.Service.{All, GoodService, is_word_byte, must_release}
use Rattle.reading.specs.meaning.Message.{Component, Element, Segment, Message, released, write_component, write_more, write_elements, write_segment, write_segments}
use Rattle.reading.specs.meaning.WellFormed.{WellFormed}
use Rattle.reading.specs.meaning.Component.{value_from, value_of, same_component}
use Rattle.reading.specs.declared.service.Service.{Service}
use Rattle.reading_laws.proofs.Services.{release_release, release_component, release_element, release_terminator, component_element, component_release, component_terminator, element_release, element_terminator, terminator_release}
use Rattle.reading.proofs.Comparing.{same_bytes_true}

-- ---- a component alone, under any five characters

-- compared with itself it is the same
pub same_bytes_refl : (bs : List ℕ) → same_component bs bs ≡ true
unfolding same_component
same_bytes_refl [] = refl
same_bytes_refl (b ∷ bs) = rw (eq-eqb b b refl) (same_bytes_refl bs)

abbrev pub IsWord : ℕ → Type 0
IsWord b = is_word_byte b ≡ true

module _ (s : Service) where
  pub not_release : (b : ℕ) → must_release s b ≡ false → eqb b s.release ≡ false
  unfolding must_release
  not_release b h = go (eqb b s.release) h
    where
      go : (t : Bool) → t || (eqb b s.component || (eqb b s.element || eqb b s.terminator)) ≡ false → t ≡ false
      go true e = absurd (true≢false e)
      go false e = refl

  -- a component's value is its bytes with each releasing byte removed
  pub value_written : (c : Component) → value_of s (write_component s c []) ≡ c
  unfolding write_component value_from
  value_written [] = refl
  value_written (b ∷ bs) = go (must_release s b) refl (value_written bs)
    where
      go : (t : Bool) → must_release s b ≡ t → value_of s (write_component s bs []) ≡ bs → value_of s (released t s.release b (write_component s bs [])) ≡ b ∷ bs
      go true h ih = rw (eq-eqb s.release s.release refl) (ap (◌∷◌ b) ih)
      go false h ih = rw (not_release b h) (ap (◌∷◌ b) ih)

  -- equal bytes are equal values
  pub raw_is_value : (c d : Component) → (write_component s c [] ≡ write_component s d []) ↔ (c ≡ d)
  raw_is_value c d = (
    λ e. sym (value_written c) ∙ ap (value_of s) e ∙ value_written d,
    λ e. ap (λ (x : Component). write_component s x []) e,
  )

  pub same_value : (c d : Component) → (same_component (write_component s c []) (write_component s d []) ≡ true) ↔ (c ≡ d)
  same_value c d = (
    λ e. (raw_is_value c d).0 (same_bytes_true (write_component s c []) (write_component s d []) e),
    λ e. ap (same_component (write_component s c [])) (sym ((raw_is_value c d).1 e)) ∙ same_bytes_refl (write_component s c []),
  )

-- ---- components in a segment, under a good set

module _ (s : Service) (good : GoodService s) where
  -- a value of word bytes is written as it is
  pub word_written : (c : Component) (rest : List ℕ) → All IsWord c → write_component s c rest ≡ c ++ rest
  unfolding write_component
  word_written [] rest w = refl
  word_written (b ∷ bs) rest w = rw (good.words b w.0) (ap (◌∷◌ b) (word_written bs rest w.1))

  -- what may follow a component: a separator
  record Stop (bs : List ℕ) : Type 0 where
    head : ℕ
    tail : List ℕ
    is : bs ≡ head ∷ tail
    special : must_release s head ≡ true
    no_release : head ≡ s.release → ⊥

  -- a separator is no byte of a component
  stop_byte : (bs : List ℕ) (b : ℕ) (rest : List ℕ) (t : Bool) → must_release s b ≡ t → Stop bs → bs ≡ released t s.release b rest → ⊥
  stop_byte bs b rest true h p e = p.no_release (head-eq_of_cons-eq (sym p.is ∙ e))
  stop_byte bs b rest false h p e = true≢false (sym p.special ∙ ap (must_release s) (head-eq_of_cons-eq (sym p.is ∙ e)) ∙ h)

  same_byte : (a b : ℕ) (v w : List ℕ) (t u : Bool) → must_release s a ≡ t → must_release s b ≡ u
      → released t s.release a v ≡ released u s.release b w → (a ≡ b) × (v ≡ w)
  same_byte a b v w true true h k e = (head-eq_of_cons-eq (tail-eq_of_cons-eq e), tail-eq_of_cons-eq (tail-eq_of_cons-eq e))
  same_byte a b v w true false h k e = absurd (true≢false (sym (release_release s) ∙ ap (must_release s) (head-eq_of_cons-eq e) ∙ k))
  same_byte a b v w false true h k e = absurd (true≢false (sym (release_release s) ∙ ap (must_release s) (sym (head-eq_of_cons-eq e)) ∙ h))
  same_byte a b v w false false h k e = (head-eq_of_cons-eq e, tail-eq_of_cons-eq e)

  same_component_lem : (c d : Component) (v w : List ℕ) → Stop v → Stop w → write_component s c v ≡ write_component s d w → (c ≡ d) × (v ≡ w)
  unfolding write_component
  same_component_lem [] [] v w p q e = (refl, e)
  same_component_lem [] (b ∷ d) v w p q e = absurd (stop_byte v b (write_component s d w) (must_release s b) refl p e)
  same_component_lem (a ∷ c) [] v w p q e = absurd (stop_byte w a (write_component s c v) (must_release s a) refl q (sym e))
  same_component_lem (a ∷ c) (b ∷ d) v w p q e =
      let h : (a ≡ b) × (write_component s c v ≡ write_component s d w) = same_byte a b _ _ (must_release s a) (must_release s b) refl refl e in
      let k : (c ≡ d) × (v ≡ w) = same_component_lem c d v w p q h.1 in
      (cc (h.0, k.0), k.1)

  -- what may follow an element: the next one's mark, or the terminator
  record Close (bs : List ℕ) : Type 0 where
    stop : Stop bs
    no_component : s.component ≡ stop.head → ⊥

  stop_more : (cs : List Component) (bs : List ℕ) → Close bs → Stop (write_more s cs bs)
  unfolding write_more
  stop_more [] bs p = p.stop
  stop_more (c ∷ cs) bs p = record { head = s.component; tail = _; is = refl; special = release_component s; no_release = component_release s good }

  same_more : (cs ds : List Component) (v w : List ℕ) → Close v → Close w → write_more s cs v ≡ write_more s ds w → (cs ≡ ds) × (v ≡ w)
  unfolding write_more
  same_more [] [] v w p q e = (refl, e)
  same_more [] (d ∷ ds) v w p q e = absurd (p.no_component (sym (head-eq_of_cons-eq (sym p.stop.is ∙ e))))
  same_more (c ∷ cs) [] v w p q e = absurd (q.no_component (sym (head-eq_of_cons-eq (sym q.stop.is ∙ sym e))))
  same_more (c ∷ cs) (d ∷ ds) v w p q e =
      let h : (c ≡ d) × (write_more s cs v ≡ write_more s ds w) =
      same_component_lem c d _ _ (stop_more cs v p) (stop_more ds w q) (tail-eq_of_cons-eq e) in
      let k : (cs ≡ ds) × (v ≡ w) = same_more cs ds v w p q h.1 in
      (cc (h.0, k.0), k.1)

  close_elements : (xs : List Element) (rest : List ℕ) → Close (write_elements s xs (s.terminator ∷ rest))
  unfolding write_elements
  close_elements [] rest =
      record {
        stop = record { head = s.terminator; tail = rest; is = refl; special = release_terminator s; no_release = terminator_release s good };
        no_component = component_terminator s good;
      }
  close_elements (x ∷ xs) rest =
      record {
        stop = record { head = s.element; tail = _; is = refl; special = release_element s; no_release = element_release s good };
        no_component = component_element s good;
      }

  same_elements : (xs ys : List Element) (v w : List ℕ) → write_elements s xs (s.terminator ∷ v) ≡ write_elements s ys (s.terminator ∷ w) → (xs ≡ ys) × (v ≡ w)
  unfolding write_elements
  same_elements [] [] v w e = (refl, tail-eq_of_cons-eq e)
  same_elements [] (y ∷ ys) v w e = absurd (element_terminator s good (sym (head-eq_of_cons-eq e)))
  same_elements (x ∷ xs) [] v w e = absurd (element_terminator s good (head-eq_of_cons-eq e))
  same_elements (x ∷ xs) (y ∷ ys) v w e =
      let p = close_elements xs v in
      let q = close_elements ys w in
      let h : (x.first ≡ y.first) × (write_more s x.more (write_elements s xs (s.terminator ∷ v)) ≡ write_more s y.more (write_elements s ys (s.terminator ∷ w))) =
      same_component_lem x.first y.first _ _ (stop_more x.more _ p) (stop_more y.more _ q) (tail-eq_of_cons-eq e) in
      let k : (x.more ≡ y.more) × (write_elements s xs (s.terminator ∷ v) ≡ write_elements s ys (s.terminator ∷ w)) = same_more x.more y.more _ _ p q h.1 in
      let l : (xs ≡ ys) × (v ≡ w) = same_elements xs ys v w k.1 in
      let z : x ≡ y = λ i. record { first = h.0 i; more = k.0 i } in
      (cc (z, l.0), l.1)

  -- one segment stands at an offset, and one rest behind it
  pub one_segment : (g h : Segment) (v w : List ℕ) → write_segment s g v ≡ write_segment s h w → (g ≡ h) × (v ≡ w)
  one_segment g h v w e =
      let a = tail-eq_of_cons-eq e in
      let b = tail-eq_of_cons-eq a in
      let k : (g.elements ≡ h.elements) × (v ≡ w) = same_elements g.elements h.elements v w (tail-eq_of_cons-eq b) in (
        λ i. record {
          tag = record { first = head-eq_of_cons-eq e i; second = head-eq_of_cons-eq a i; third = head-eq_of_cons-eq b i };
          elements = k.0 i;
        },
        k.1,
      )

  one_message : (m n : Message) → write_segments s m [] ≡ write_segments s n [] → m ≡ n
  unfolding write_segments
  one_message [] [] e = refl
  one_message [] (h ∷ n) e = absurd (nil≢cons e)
  one_message (g ∷ m) [] e = absurd (cons≢nil e)
  one_message (g ∷ m) (h ∷ n) e =
      let k : (g ≡ h) × (write_segments s m [] ≡ write_segments s n []) = one_segment g h _ _ e in
      let l : m ≡ n = one_message m n k.1 in
      cc (k.0, l)

  -- the law: a text is the writing of one message at most
  pub one_reading : (bs : List ℕ) (x y : WellFormed s bs) → x.message ≡ y.message
  one_reading bs x y = one_message x.message y.message (sym x.same ∙ y.same)
