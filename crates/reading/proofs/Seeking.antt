-- The search for a component, turn by turn; and where it can end.
use Prim.Native.Nat.{ℕ, suc, ◌+◌, ◌≤◌, ◌<◌}
use native.Mathlib.Omega.{arith}
use native.Mathlib.Numerals.{add-one}
use mathlib.Core.Path.{◌≡◌, refl, sym, ap, ap₂, ◌∙◌, subst}
use mathlib.Core.List.{List, [], ◌∷◌}
use mathlib.Core.Bool.{Bool, true, false, true≢false, ◌&&◌, ◌||◌}
use mathlib.Core.Logic.{◌⊎◌, inl, inr, ⊎_elim}
use lib.Dec.{eqb}
use lib.ListN.{length, get_or, drop, drop_of_length-le, length-drop}
use lib.Seq.{drop-cons}
use borrow.Author.Tests.{ne_eqb}
use Rattle.std.specs.Prelude.{Option, Some, None}
use Rattle.reading.specs.meaning.Service.{is_data, must_release}
use Rattle.reading.specs.meaning.Component.{span}
use Rattle.reading.specs.method.Machine.{Seek, Sought, On, Ends, pick, kind_of, seek, is_here, ends_component, passed, sought, go_on, seek_on, seek_from, span_by, component_span, segment_end}
use Rattle.reading.specs.declared.service.Service.{Service}
use Rattle.reading.specs.declared.span.Span.{Span}
use Rattle.reading.specs.declared.bytes.Kind.{Kind}
use Rattle.reading.specs.declared.bytes.Kind.TheVariants.{Component, Element, Terminator, Release, Plain, Other}
use Rattle.reading.proofs.Ending.{end_within}

-- ---- what a search makes of a span, once the tests are known

module _ (s : Service) (bs : List ℕ) (at e c : ℕ) where
  abbrev at_end : Span
  at_end = span (length bs) (length bs)

  abbrev by_component : Bool → Span
  by_component is_zero = pick is_zero at_end (span_by s bs at e c (segment_end s bs at))

  abbrev by_element : Bool → Span
  by_element is_zero = pick is_zero at_end (by_component (eqb c 0))

  pub span_by_end : (x : Span) → (e ≡ 0 → ⊥) → (c ≡ 0 → ⊥) → (end : Option ℕ) → segment_end s bs at ≡ end → x ≡ span_by s bs at e c end → x ≡ component_span s bs at e c
  span_by_end x n m end i h = h ∙ sym (ap by_element (ne_eqb e 0 n) ∙ ap by_component (ne_eqb c 0 m) ∙ ap (span_by s bs at e c) i)

ends_of : (kind : Kind) → (kind ≡ Component) ⊎ ((kind ≡ Element) ⊎ (kind ≡ Terminator)) → ends_component kind ≡ true
ends_of kind is = ⊎_elim (ap ends_component) (⊎_elim (ap ends_component) (ap ends_component)) is

-- ---- a search keeps within what it has read

-- before the byte at `at`: numbers that cannot wrap, and a start that was passed
pub record Kept (at : ℕ) (k : Seek) : Type 0 where
  pub element_few : k.element ≤ at
  pub component_few : k.component ≤ at
  pub started : k.start ≤ at

-- a search that goes on keeps so, and one that has ended lies before the byte
abbrev Keeps : ℕ → Sought → Type 0
Keeps at (On k) = Kept (at + 1) k
Keeps at (Ends x) = (x.start ≤ x.end) × (x.end ≤ at)

keeps_pick : (t : Bool) (at : ℕ) (x y : Sought) → Keeps at x → Keeps at y → Keeps at (pick t x y)
keeps_pick true at x y h k = h
keeps_pick false at x y h k = k

kept_later : (at : ℕ) (k : Seek) (r : Bool) → Kept at k → Kept (at + 1) (seek k.element k.component k.start r)
kept_later at k r h =
    let a = h.element_few in let b = h.component_few in let c = h.started in
    record { element_few = omega arith; component_few = omega arith; started = omega arith }

keeps_passed : (at : ℕ) (k : Seek) (kind : Kind) → Kept at k → Keeps at (passed k at kind)
keeps_passed at k Component h =
    let a = h.element_few in let b = h.component_few in
    record { element_few = omega arith; component_few = omega arith; started = omega arith }
keeps_passed at k Element h = let a = h.element_few in record { element_few = omega arith; component_few = omega arith; started = omega arith }
keeps_passed at k Terminator h = (omega arith, omega arith)
keeps_passed at k Release h = kept_later at k true h
keeps_passed at k Plain h = kept_later at k k.released h
keeps_passed at k Other h = kept_later at k k.released h

keeps : (e c at : ℕ) (k : Seek) (kind : Kind) → Kept at k → Keeps at (sought e c k at kind)
keeps e c at k kind h =
    keeps_pick k.released at _ _ (kept_later at k false h)
    (keeps_pick (ends_component kind && is_here k e c) at _ _ (let d = h.started in (omega arith, omega arith)) (keeps_passed at k kind h))

-- ---- a byte that no mark is

unmarked_by : (r c e t d : Bool) → (r || (c || (e || t))) ≡ false
    → (pick r Release (pick c Component (pick e Element (pick t Terminator (pick d Plain Other)))) ≡ Plain)
    ⊎ (pick r Release (pick c Component (pick e Element (pick t Terminator (pick d Plain Other)))) ≡ Other)
unmarked_by true c e t d h = absurd (true≢false h)
unmarked_by false true e t d h = absurd (true≢false h)
unmarked_by false false true t d h = absurd (true≢false h)
unmarked_by false false false true d h = absurd (true≢false h)
unmarked_by false false false false true h = inl refl
unmarked_by false false false false false h = inr refl

pub unmarked : (s : Service) (b : ℕ) → must_release s b ≡ false → (kind_of s b ≡ Plain) ⊎ (kind_of s b ≡ Other)
unfolding must_release kind_of
unmarked s b h = unmarked_by (eqb b s.release) (eqb b s.component) (eqb b s.element) (eqb b s.terminator) (is_data b) h

-- ---- turn by turn

pub record Seeking (s : Service) (bs : List ℕ) (from e c : ℕ) (k : Seek) (at : ℕ) : Type 0 where
  pub kept : Kept at k
  pub same : seek_on s e c k at (drop at bs) ≡ seek_from s bs from e c

module _ (s : Service) (bs : List ℕ) (from e c : ℕ) where
  seeking_turn : (k : Seek) (at : ℕ) (kind : Kind) (r : Sought) → at < length bs → Seeking s bs from e c k at → kind ≡ kind_of s (get_or bs at 0) → r ≡ sought e c k at kind
      → seek_from s bs from e c ≡ go_on r (λ next. seek_on s e c next (at + 1) (drop (at + 1) bs))
  unfolding seek_on
  seeking_turn k at kind r h i ek er = sym i.same ∙ rw (drop-cons bs at 0 h, er, ek, add-one)

  seeking_lies : (k : Seek) (at : ℕ) (kind : Kind) (x : Span) → at < length bs → Seeking s bs from e c k at → kind ≡ kind_of s (get_or bs at 0)
      → Ends x ≡ sought e c k at kind → x ≡ seek_from s bs from e c
  seeking_lies k at kind x h i ek er = sym (seeking_turn k at kind (Ends x) h i ek er)

  seeking_on : (k next : Seek) (at : ℕ) (kind : Kind) → at < length bs → Seeking s bs from e c k at → kind ≡ kind_of s (get_or bs at 0)
      → On next ≡ sought e c k at kind → Seeking s bs from e c next (at + 1)
  seeking_on k next at kind h i ek er =
      record {
        kept = rw (← er) at (keeps e c at k kind i.kept);
        same = sym (seeking_turn k at kind (On next) h i ek er);
      }

  pub seeking_out : (k : Seek) (at : ℕ) → length bs ≤ at → Seeking s bs from e c k at → span at at ≡ seek_from s bs from e c
  unfolding seek_on
  seeking_out k at h i = sym (ap (seek_on s e c k at) (drop_of_length-le bs h)) ∙ i.same

  -- ---- one byte of a known kind, where the component that is being read starts at `st`

  module _ (ea ca st at : ℕ) (kind : Kind) (h : at < length bs) (ek : kind ≡ kind_of s (get_or bs at 0)) where
    pub seek_released : (released : Bool) → released ≡ true → Seeking s bs from e c (seek ea ca st released) at → Seeking s bs from e c (seek ea ca st false) (at + 1)
    seek_released released was i =
        seeking_on (seek ea ca st true) (seek ea ca st false) at kind h (subst (λ (r : Bool). Seeking s bs from e c (seek ea ca st r) at) was i) ek refl

    module _ (released : Bool) (free : released ≡ false) (k : Seeking s bs from e c (seek ea ca st released) at) where
      i : Seeking s bs from e c (seek ea ca st false) at
      i = subst (λ (r : Bool). Seeking s bs from e c (seek ea ca st r) at) free k

      -- and not released it stays
      still-free : (x y z : ℕ) → Seeking s bs from e c (seek x y z false) (at + 1) → Seeking s bs from e c (seek x y z released) (at + 1)
      still-free x y z = subst (λ (r : Bool). Seeking s bs from e c (seek x y z r) (at + 1)) (sym free)

      passing : (known : Kind) → kind ≡ known → (ends_component known && is_here (seek ea ca st false) e c) ≡ false
          → sought e c (seek ea ca st false) at kind ≡ passed (seek ea ca st false) at known
      passing known is n =
          ap (sought e c (seek ea ca st false) at) is ∙ ap (λ (t : Bool). pick t (Ends (span st at)) (passed (seek ea ca st false) at known)) n

      -- the next one, in the same element or in the next
      pub seek_component : kind ≡ Component → (eqb ea e && eqb ca c) ≡ false → Seeking s bs from e c (seek ea (ca + 1) (at + 1) released) (at + 1)
      unfolding is_here
      seek_component is n = still-free ea (ca + 1) (at + 1) (seeking_on (seek ea ca st false) (seek ea (ca + 1) (at + 1) false) at kind h i ek (sym (passing Component is n)))

      pub seek_element : kind ≡ Element → (eqb ea e && eqb ca c) ≡ false → Seeking s bs from e c (seek (ea + 1) 1 (at + 1) released) (at + 1)
      unfolding is_here
      seek_element is n = still-free (ea + 1) 1 (at + 1) (seeking_on (seek ea ca st false) (seek (ea + 1) 1 (at + 1) false) at kind h i ek (sym (passing Element is n)))

      pub seek_release : kind ≡ Release → Seeking s bs from e c (seek ea ca st true) (at + 1)
      seek_release is = seeking_on (seek ea ca st false) (seek ea ca st true) at kind h i ek (sym (passing Release is refl))

      pub seek_plain : kind ≡ Plain → Seeking s bs from e c (seek ea ca st released) (at + 1)
      seek_plain is = still-free ea ca st (seeking_on (seek ea ca st false) (seek ea ca st false) at kind h i ek (sym (passing Plain is refl)))

      pub seek_other : kind ≡ Other → Seeking s bs from e c (seek ea ca st released) (at + 1)
      seek_other is = still-free ea ca st (seeking_on (seek ea ca st false) (seek ea ca st false) at kind h i ek (sym (passing Other is refl)))

      -- a byte that need not be released is one of these two
      pub seek_text : must_release s (get_or bs at 0) ≡ false → Seeking s bs from e c (seek ea ca st released) (at + 1)
      seek_text t = ⊎_elim (λ p. seek_plain (ek ∙ p)) (λ p. seek_other (ek ∙ p)) (unmarked s (get_or bs at 0) t)

      -- the one that is sought ends; and at the terminator an absent one lies
      pub seek_found : (kind ≡ Component) ⊎ ((kind ≡ Element) ⊎ (kind ≡ Terminator)) → (eqb ea e && eqb ca c) ≡ true → span st at ≡ seek_from s bs from e c
      unfolding is_here
      seek_found is here =
          seeking_lies (seek ea ca st false) at kind (span st at) h i ek
          (sym (ap₂ (λ (t u : Bool). pick (t && u) (Ends (span st at)) (passed (seek ea ca st false) at kind)) (ends_of kind is) here))

      pub seek_absent : (x : Span) → kind ≡ Terminator → (eqb ea e && eqb ca c) ≡ false → x ≡ span at at → x ≡ seek_from s bs from e c
      unfolding is_here
      seek_absent x is n y = y ∙ seeking_lies (seek ea ca st false) at kind (span at at) h i ek (sym (passing Terminator is n))

-- ---- a component lies within the message

pub record Inside (length : ℕ) (x : Span) : Type 0 where
  pub ordered : x.start ≤ x.end
  pub within : x.end ≤ length

seek_on_inside : (s : Service) (e c : ℕ) (k : Seek) (at : ℕ) (bs : List ℕ) → Kept at k → Inside (at + length bs) (seek_on s e c k at bs)
unfolding seek_on
seek_on_inside s e c k at [] h = record { ordered = omega arith; within = omega arith }
seek_on_inside s e c k at (b ∷ bs) h = go (sought e c k at (kind_of s b)) (keeps e c at k (kind_of s b) h) (λ next. seek_on_inside s e c next (at + 1) bs)
  where
    go : (r : Sought) → Keeps at r → ((next : Seek) → Kept (at + 1) next → Inside (at + 1 + length bs) (seek_on s e c next (at + 1) bs))
        → Inside (at + suc (length bs)) (go_on r (λ next. seek_on s e c next (at + 1) bs))
    go (On next) h further = let w = further next h in record { ordered = w.ordered; within = let x = w.within in omega arith }
    go (Ends x) h further = record { ordered = h.0; within = let y = h.1 in omega arith }

-- behind a tag that ends within the message
pub seek_inside : (s : Service) (bs : List ℕ) (from e c : ℕ) → from ≤ length bs → Inside (length bs) (seek_from s bs from e c)
seek_inside s bs from e c h =
    let i = seek_on_inside s e c (seek 0 0 from false) from (drop from bs) (record { element_few = omega arith; component_few = omega arith; started = omega arith }) in
    record { ordered = i.ordered; within = let x = i.within in omega (arith, length-drop from bs) }

pub span_inside : (s : Service) (bs : List ℕ) (at e c : ℕ) → Inside (length bs) (component_span s bs at e c)
span_inside s bs at e c = zero_element (eqb e 0)
  where
    outside : Inside (length bs) (span (length bs) (length bs))
    outside = record { ordered = omega arith; within = omega arith }

    by_end : (x : Option ℕ) → segment_end s bs at ≡ x → Inside (length bs) (span_by s bs at e c x)
    by_end (Some end) h =
        let w = end_within s bs at end h in
        seek_inside s bs (at + 3) e c (let y = w.behind in let z = w.inside in omega arith)
    by_end None h = outside

    zero_component : (t : Bool) → Inside (length bs) (by_component s bs at e c t)
    zero_component true = outside
    zero_component false = by_end (segment_end s bs at) refl

    zero_element : (t : Bool) → Inside (length bs) (by_element s bs at e c t)
    zero_element true = outside
    zero_element false = zero_component (eqb c 0)

-- how a search ends
pub ruleset search_ends = (seek_found, seek_absent, seeking_out)
