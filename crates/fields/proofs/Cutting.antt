-- The steps of the functions that read a segment's bytes: each says what the byte at hand makes of the cut of all that is left.
use Prim.Native.Nat.{ℕ, suc, ◌+◌, ◌-◌, ◌≤◌, ◌<◌}
use native.Mathlib.Omega.{arith}
use native.Mathlib.Numerals.{add-one}
use mathlib.Core.Path.{◌≡◌, refl, sym, ap, ap₂, ◌∙◌}
use mathlib.Core.List.{List, [], ◌∷◌, ◌++◌, append_assoc, append-nil}
use Rattle.std.proofs.lemmas.List.{take-append-drop, length-append}
use mathlib.Core.Bool.{Bool, true, false, cond, not, true≢false, false≢true}
use mathlib.Core.Logic.{⊎_elim, dite}
use native.Mathlib.Decide.{dec_lt}
use lib.ListN.{length, get_or, take, drop, drop_of_length-le, length-drop}
use lib.Seq.{drop-cons, take-suc, take_all, drop-drop}
use Rattle.reading.specs.meaning.Service.{must_release}
use Rattle.reading.specs.method.Machine.{kind_of}
use Rattle.reading.specs.declared.service.Service.{Service}
use Rattle.reading.specs.declared.bytes.Kind.{Kind}
use Rattle.reading.specs.declared.bytes.Kind.TheVariants.{Component, Element, Terminator, Release, Plain, Other}
use Rattle.reading.proofs.Seeking.{unmarked}
use Rattle.fields.specs.method.Parts.{Raw, Cut, pieces, add_byte, add_component, add_element, cut_by, cut, components_in, further_in, has_bytes, any_bytes}
use Rattle.std.proofs.lemmas.List.{take_rest}
use Rattle.fields.specs.method.Kept.{is_release, is_mark, same_kind, opens, elements_in, behind_component, behind_element, further_behind, Reads, Tail, Ends}

-- ---- one byte

module _ (s : Service) (bs : List ℕ) where
  cut_released : (at : ℕ) → at < length bs → cut s true (drop at bs) ≡ add_byte (get_or bs at 0) (cut s false (drop (at + 1) bs))
  unfolding cut
  cut_released at h =
      ap (cut s true) (drop-cons bs at 0 h) ∙ ap (λ (n : ℕ). add_byte (get_or bs at 0) (cut s false (drop n bs))) (sym (add-one at))

  cut_free : (at : ℕ) (kind : Kind) → at < length bs → kind ≡ kind_of s (get_or bs at 0)
      → cut s false (drop at bs) ≡ cut_by kind (get_or bs at 0) (λ r. cut s r (drop (at + 1) bs))
  unfolding cut
  cut_free at kind h e =
      ap (cut s false) (drop-cons bs at 0 h)
      ∙ ap (λ (k : Kind). cut_by k (get_or bs at 0) (λ r. cut s r (drop (suc at) bs))) (sym e)
      ∙ ap (λ (n : ℕ). cut_by kind (get_or bs at 0) (λ r. cut s r (drop n bs))) (sym (add-one at))

  cut_out : (at : ℕ) (r : Bool) → length bs ≤ at → cut s r (drop at bs) ≡ pieces [] [] []
  unfolding cut
  cut_out at r h = ap (cut s r) (drop_of_length-le bs h)

by_data : (kind : Kind) (r : Bool) (b : ℕ) (rest : Bool → Cut) → is_mark kind ≡ false → is_release kind ≡ r → cut_by kind b rest ≡ add_byte b (rest r)
by_data Component r b rest h i = absurd (true≢false h)
by_data Element r b rest h i = absurd (true≢false h)
by_data Terminator r b rest h i = absurd (true≢false h)
by_data Release r b rest h i = ap (λ (t : Bool). add_byte b (rest t)) i
by_data Plain r b rest h i = ap (λ (t : Bool). add_byte b (rest t)) i
by_data Other r b rest h i = ap (λ (t : Bool). add_byte b (rest t)) i

split_component : (x : Cut) → add_component x ≡ pieces [] (components_in x) (further_in x)
split_component (pieces x xs es) = refl

split_element : (x : Cut) → add_element x ≡ pieces [] [] (elements_in x)
split_element (pieces x xs es) = refl

pub split : (x : Cut) → elements_in x ≡ components_in x ∷ further_in x
split (pieces x xs es) = refl

by_mark : (kind : Kind) (b : ℕ) (rest : Bool → Cut) → is_mark kind ≡ true
    → cut_by kind b rest
    ≡ pieces [] (cond (same_kind kind Component) (components_in (rest false)) [])
    (cond (same_kind kind Component) (further_in (rest false)) (cond (same_kind kind Element) (elements_in (rest false)) []))
by_mark Component b rest h = split_component (rest false)
by_mark Element b rest h = split_element (rest false)
by_mark Terminator b rest h = refl
by_mark Release b rest h = absurd (false≢true h)
by_mark Plain b rest h = absurd (false≢true h)
by_mark Other b rest h = absurd (false≢true h)

-- ---- what a mark opens

module _ (s : Service) (mark : Kind) where
  opens_here : (bs : List ℕ) (at : ℕ) (kind : Kind) → at < length bs → kind ≡ kind_of s (get_or bs at 0) → same_kind kind mark ≡ opens mark s (drop at bs)
  unfolding opens
  opens_here bs at kind h e = ap (λ (k : Kind). same_kind k mark) e ∙ sym (ap (opens mark s) (drop-cons bs at 0 h))

  opens_out : (bs : List ℕ) (at : ℕ) → length bs ≤ at → false ≡ opens mark s (drop at bs)
  unfolding opens
  opens_out bs at h = sym (ap (opens mark s) (drop_of_length-le bs h))

  pub opened_out : (bs : List ℕ) → length bs < 1 → opens mark s bs ≡ false
  opened_out bs h = sym (opens_out bs 0 (omega arith))

  pub opened_here : (bs : List ℕ) (kind : Kind) (r : Bool) → 1 ≤ length bs → kind ≡ kind_of s (get_or bs 0 0) → same_kind kind mark ≡ r → opens mark s bs ≡ r
  opened_here bs kind r h e i = sym (opens_here bs 0 kind (omega arith) e) ∙ i

  pub opened_next : (bs : List ℕ) (kind : Kind) → 1 ≤ length bs → kind ≡ kind_of s (get_or bs 0 0) → same_kind kind mark ≡ true
      → (opens mark s bs ≡ true) × (take (length bs - 1) (drop 1 bs) ≡ drop 1 bs)
  opened_next bs kind h e i = (opened_here bs kind true h e i, take_rest bs 1)

  -- a mark stands within the bytes
  opens_inside : (bs : List ℕ) → opens mark s bs ≡ true → 0 < length bs
  unfolding opens
  opens_inside [] h = absurd (false≢true h)
  opens_inside (b ∷ bs) h = omega arith

  pub next_shorter : (bs next : List ℕ) → (opens mark s bs ≡ true) × (next ≡ drop 1 bs) → length next + 1 ≡ length bs
  next_shorter bs next o = let h = opens_inside bs o.0 in let n : length next ≡ length bs - 1 = ap length o.1 ∙ length-drop 1 bs in omega arith

module _ (s : Service) (bs : List ℕ) where
  -- ---- the end of a component

  one_on : (at : ℕ) → drop 1 (drop at bs) ≡ drop (at + 1) bs
  one_on at = drop-drop 1 at bs

  at_mark : (at : ℕ) (kind : Kind) → at < length bs → kind ≡ kind_of s (get_or bs at 0) → is_mark kind ≡ true
      → cut s false (drop at bs) ≡ pieces [] (behind_component s (drop at bs)) (further_behind s (drop at bs))
  at_mark at kind h e m =
      cut_free s bs at kind h e ∙ by_mark kind (get_or bs at 0) (λ r. cut s r (drop (at + 1) bs)) m
      ∙ ap (λ (l : List ℕ). pieces [] (cond (same_kind kind Component) (components_in (cut s false l)) []) (cond (same_kind kind Component) (further_in (cut s false l)) (cond (same_kind kind Element) (elements_in (cut s false l)) []))) (sym (one_on at))
      ∙ ap₂ (λ (p q : Bool). pieces [] (cond p (components_in (cut s false (drop 1 (drop at bs)))) []) (cond p (further_in (cut s false (drop 1 (drop at bs)))) (cond q (elements_in (cut s false (drop 1 (drop at bs)))) [])))
      (opens_here s Component bs at kind h e) (opens_here s Element bs at kind h e)

  at_end : (at : ℕ) (r : Bool) → length bs ≤ at → cut s r (drop at bs) ≡ pieces [] (behind_component s (drop at bs)) (further_behind s (drop at bs))
  at_end at r h =
      cut_out s bs at r h
      ∙ ap₂ (λ (p q : Bool). pieces [] (cond p (components_in (cut s false (drop 1 (drop at bs)))) []) (cond p (further_in (cut s false (drop 1 (drop at bs)))) (cond q (elements_in (cut s false (drop 1 (drop at bs)))) [])))
      (opens_out s Component bs at h) (opens_out s Element bs at h)

-- ---- a component's bytes

abbrev pub prepend : Raw → Cut → Cut
prepend front (pieces x xs es) = pieces (front ++ x) xs es

prepend_none : (x : Cut) → prepend [] x ≡ x
prepend_none (pieces x xs es) = refl

prepend_byte : (front : Raw) (b : ℕ) (x : Cut) → prepend front (add_byte b x) ≡ prepend (front ++ (b ∷ [])) x
prepend_byte front b (pieces x xs es) = ap (λ (y : Raw). pieces y xs es) (sym (append_assoc front (b ∷ []) x))

-- what has been read and what is left make the component; is the next byte released?
pub record Reading (s : Service) (bs : List ℕ) (released : Bool) (at : ℕ) : Type 0 where
  pub joins : cut s false bs ≡ prepend (take at bs) (cut s released (drop at bs))

module _ (s : Service) (bs : List ℕ) where
  ends : (at : ℕ) (r : Bool) → Reading s bs r at → cut s r (drop at bs) ≡ pieces [] (behind_component s (drop at bs)) (further_behind s (drop at bs))
      → (part behind : List ℕ) → part ≡ take at bs → behind ≡ drop at bs → Reads s bs part behind
  ends at r i e part behind p q =
      rw (p, q)
      (record {
        whole = sym (take-append-drop at bs);
        cuts =
            i.joins ∙ ap (prepend (take at bs)) e
            ∙ ap (λ (x : Raw). pieces x (behind_component s (drop at bs)) (further_behind s (drop at bs))) (append-nil (take at bs));
      })

  module _ (at : ℕ) (h : at < length bs) where
    reading_on : (was is : Bool) → cut s was (drop at bs) ≡ add_byte (get_or bs at 0) (cut s is (drop (at + 1) bs))
        → Reading s bs was at → Reading s bs is (at + 1)
    reading_on was is e i =
        record {
          joins =
              i.joins ∙ ap (prepend (take at bs)) e ∙ prepend_byte (take at bs) (get_or bs at 0) (cut s is (drop (at + 1) bs))
              ∙ ap (λ (x : Raw). prepend x (cut s is (drop (at + 1) bs))) (sym (ap (λ (n : ℕ). take n bs) (add-one at) ∙ take-suc bs at 0 h));
        }

    pub reading_released : Reading s bs true at → Reading s bs false (at + 1)
    reading_released i = reading_on true false (cut_released s bs at h) i

    module _ (kind : Kind) (e : kind ≡ kind_of s (get_or bs at 0)) (i : Reading s bs false at) where
      pub reading_mark : (part behind : List ℕ) → part ≡ take at bs → behind ≡ drop at bs → is_mark kind ≡ true → Reads s bs part behind
      reading_mark part behind p q m = ends at false i (at_mark s bs at kind h e m) part behind p q

      pub reading_data : (r : Bool) → is_mark kind ≡ false → is_release kind ≡ r → Reading s bs r (at + 1)
      reading_data r m k =
          reading_on false r (cut_free s bs at kind h e ∙ by_data kind r (get_or bs at 0) (λ (t : Bool). cut s t (drop (at + 1) bs)) m k) i

    pub reading_text : must_release s (get_or bs at 0) ≡ false → Reading s bs false at → Reading s bs false (at + 1)
    reading_text t i =
        ⊎_elim (λ p. reading_data (kind_of s (get_or bs at 0)) refl i false (ap is_mark p) (ap is_release p))
        (λ p. reading_data (kind_of s (get_or bs at 0)) refl i false (ap is_mark p) (ap is_release p)) (unmarked s (get_or bs at 0) t)

  -- a release and the byte behind it, which may be missing
  pub reading_pair : (at : ℕ) (h : at < length bs) (kind : Kind) → kind ≡ kind_of s (get_or bs at 0) → is_mark kind ≡ false → is_release kind ≡ true
      → Reading s bs false at → Reading s bs false (at + 1 + 1)
  reading_pair at h kind e m k i =
      let on : Reading s bs true (at + 1) = reading_data at h kind e i true m k in
      dite (dec_lt (at + 1) (length bs)) (λ b. reading_released (at + 1) b on)
      (λ n.
      let out : length bs ≤ at + 1 = omega arith in
      let beyond : length bs ≤ at + 1 + 1 = omega arith in
      record {
        joins =
            on.joins ∙ ap (prepend (take (at + 1) bs)) (cut_out s bs (at + 1) true out ∙ sym (cut_out s bs (at + 1 + 1) false beyond))
            ∙ ap (λ (l : List ℕ). prepend l (cut s false (drop (at + 1 + 1) bs))) (take_all (at + 1) bs out ∙ sym (take_all (at + 1 + 1) bs beyond));
      })

  pub reading_begin : Reading s bs false 0
  reading_begin = record { joins = sym (prepend_none (cut s false bs)) }

  pub reading_done : (at : ℕ) (r : Bool) → length bs ≤ at → Reading s bs r at → Reads s bs bs []
  reading_done at r h i = ends at r i (at_end s bs at r h) bs [] (sym (take_all at bs h)) (sym (drop_of_length-le bs h))

-- ---- what is left behind some bytes

pub tail_here : (bs : List ℕ) → Tail bs bs
tail_here bs = record { passed = []; whole = refl }

pub tail_on : (bs mid behind : List ℕ) → Tail bs mid → Tail mid behind → Tail bs behind
tail_on bs mid behind a b =
    record { passed = a.passed ++ b.passed; whole = a.whole ∙ ap (λ (l : List ℕ). a.passed ++ l) b.whole ∙ sym (append_assoc a.passed b.passed behind) }

pub tail_next : (behind next : List ℕ) → next ≡ drop 1 behind → Tail behind next
tail_next behind next e = record { passed = take 1 behind; whole = sym (take-append-drop 1 behind) ∙ ap (λ (l : List ℕ). take 1 behind ++ l) (sym e) }

pub tail_read : (s : Service) (bs part behind : List ℕ) → Reads s bs part behind → Tail bs behind
tail_read s bs part behind r = record { passed = part; whole = r.whole }

-- a component further on
pub tail_further : (s : Service) (bs behind next part last : List ℕ) → Tail bs behind → next ≡ drop 1 behind → Reads s next part last → Tail bs last
tail_further s bs behind next part last t e r = tail_on bs next last (tail_on bs behind next t (tail_next behind next e)) (tail_read s next part last r)

pub tail_shorter : (bs behind : List ℕ) → Tail bs behind → length behind ≤ length bs
tail_shorter bs behind t = let n : length bs ≡ length t.passed + length behind = ap length t.whole ∙ length-append t.passed behind in omega arith

pub behind_shorter : (s : Service) (bs part behind : List ℕ) → Reads s bs part behind → length behind ≤ length bs
behind_shorter s bs part behind r = tail_shorter bs behind (tail_read s bs part behind r)

-- from a component to the next one less is left
pub next_smaller : (s : Service) (bs part behind : List ℕ) → Reads s bs part behind → (next : List ℕ) → (opens Component s behind ≡ true) × (next ≡ drop 1 behind) → length next < length bs
next_smaller s bs part behind r next o = let a = behind_shorter s bs part behind r in let n = next_shorter s Component behind next o in omega arith

-- ---- before the first element

module _ (s : Service) (bs : List ℕ) where
  -- the components before `behind` are passed: the further elements are those that stand there
  pub record Skipping (behind : List ℕ) : Type 0 where
    pub tail : Tail bs behind
    pub further : further_in (cut s false bs) ≡ further_behind s behind

  pub skipping_begin : (part behind : List ℕ) → Reads s bs part behind → Skipping behind
  skipping_begin part behind r = record { tail = tail_read s bs part behind r; further = ap further_in r.cuts }

  module _ (behind : List ℕ) (i : Skipping behind) where
    past : (o : Bool) → opens Component s behind ≡ o → further_in (cut s false bs) ≡ cond o (further_in (cut s false (drop 1 behind))) (behind_element s behind)
    past o k = i.further ∙ ap (λ (t : Bool). cond t (further_in (cut s false (drop 1 behind))) (behind_element s behind)) k

    pub skipping_on : (next part last : List ℕ) → (opens Component s behind ≡ true) × (next ≡ drop 1 behind) → Reads s next part last → Skipping last
    skipping_on next part last o r =
        record {
          tail = tail_further s bs behind next part last i.tail o.1 r;
          further = past true o.0 ∙ ap (λ (l : List ℕ). further_in (cut s false l)) (sym o.1) ∙ ap further_in r.cuts;
        }

    pub skipping_done : opens Component s behind ≡ false → Ends s bs behind
    skipping_done o = record { tail = i.tail; further = past false o }

-- ---- has an element bytes?

module _ (s : Service) (bs : List ℕ) where
  abbrev some_from : ℕ → Bool
  some_from at = any_bytes (components_in (cut s false (drop at bs)))

  any_opened : (x : Cut) → any_bytes (components_in (add_component x)) ≡ any_bytes (components_in x)
  unfolding any_bytes has_bytes
  any_opened (pieces x xs es) = refl

  any_byte : (b : ℕ) (x : Cut) → any_bytes (components_in (add_byte b x)) ≡ true
  unfolding any_bytes has_bytes
  any_byte b (pieces x xs es) = refl

  any_closed : (x : Cut) → any_bytes (components_in (add_element x)) ≡ false
  unfolding any_bytes has_bytes
  any_closed (pieces x xs es) = refl

  any_none : any_bytes (components_in (pieces [] [] [])) ≡ false
  unfolding any_bytes has_bytes
  any_none = refl

  by_first : (kind : Kind) (b : ℕ) (rest : Bool → Cut) → same_kind kind Component ≡ false → not (is_mark kind) ≡ any_bytes (components_in (cut_by kind b rest))
  by_first Component b rest h = absurd (true≢false h)
  by_first Element b rest h = sym (any_closed (rest false))
  by_first Terminator b rest h = sym any_none
  by_first Release b rest h = sym (any_byte b (rest true))
  by_first Plain b rest h = sym (any_byte b (rest false))
  by_first Other b rest h = sym (any_byte b (rest false))

  by_further : (kind : Kind) (b : ℕ) (rest : Bool → Cut) → same_kind kind Component ≡ true → any_bytes (components_in (cut_by kind b rest)) ≡ any_bytes (components_in (rest false))
  by_further Component b rest h = any_opened (rest false)
  by_further Element b rest h = absurd (false≢true h)
  by_further Terminator b rest h = absurd (false≢true h)
  by_further Release b rest h = absurd (false≢true h)
  by_further Plain b rest h = absurd (false≢true h)
  by_further Other b rest h = absurd (false≢true h)

  module _ (at : ℕ) (kind : Kind) (h : at < length bs) (ek : kind ≡ kind_of s (get_or bs at 0)) where
    pub some_on : same_kind kind Component ≡ true → some_from (at + 1) ≡ some_from at
    some_on e =
        sym (ap (λ (x : Cut). any_bytes (components_in x)) (cut_free s bs at kind h ek) ∙ by_further kind (get_or bs at 0) (λ r. cut s r (drop (at + 1) bs)) e)

    pub some_here : same_kind kind Component ≡ false → not (is_mark kind) ≡ some_from at
    some_here e =
        by_first kind (get_or bs at 0) (λ r. cut s r (drop (at + 1) bs)) e ∙ sym (ap (λ (x : Cut). any_bytes (components_in x)) (cut_free s bs at kind h ek))

  pub some_out : (at : ℕ) → length bs ≤ at → false ≡ some_from at
  some_out at h = sym (ap (λ (x : Cut). any_bytes (components_in x)) (cut_out s bs at false h) ∙ any_none)

-- ---- the steps of each function

pub ruleset opening = (opened_here, opened_out)

pub ruleset reading = (reading_begin, reading_mark, reading_done)

pub ruleset skipping = (skipping_begin, skipping_on, skipping_done)

pub ruleset any_written = (some_here, some_on, some_out)
