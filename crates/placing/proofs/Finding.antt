-- The steps of the functions that find a home.
use Prim.Native.Nat.{ℕ, zero, suc, ◌+◌, ◌-◌, ◌≤◌, ◌<◌, ◌^◌}
use native.Mathlib.Omega.{arith}
use native.Mathlib.Decide.{dec_lt}
use native.Mathlib.Numerals.{add-one}
use mathlib.Core.Path.{◌≡◌, refl, sym, ap, ap₂, ◌∙◌, subst}
use mathlib.Core.List.{List}
use mathlib.Core.Bool.{Bool, true, false, cond, not, ◌&&◌, and-false}
use mathlib.Core.Logic.{dite}
use lib.Dec.{eqb, ltb}
use lib.ListN.{length, get_or}
use borrow.Author.Tests.{eq-eqb, ne_eqb, eqb-true, eqb-false, ltb-true, ltb-false}
use Rattle.guide.specs.meaning.Words.{group_kind}
use Rattle.guide.specs.meaning.Guide.{Guide}
use Rattle.reading.specs.method.Machine.{seek_from}
use Rattle.reading.specs.method.Part.{bytes_in}
use Rattle.reading.specs.method.Tag.{tag_at}
use Rattle.reading.specs.declared.service.Service.{Service}
use Rattle.reading.proofs.Seeking.{Inside, seek_inside}
use Rattle.placing.specs.meaning.Fitting.{least}
use Rattle.placing.specs.method.Fitting.{is_selected_at, fits_at, home_at}
use Rattle.guide.specs.method.Codes.{is_any_code}
use Rattle.guide.specs.meaning.Plan.{plan_of}
use Rattle.placing.specs.method.Walking.{SegmentLine}
use Rattle.std.specs.Prelude.{Some, None}
use Rattle.std.proofs.lemmas.Option.{none-some, same_Some}
use Rattle.placing.specs.method.Kept.{Looked, selected_of, fits, home_tag, tabled_end, TagsOf, first_of_tag}
use Rattle.placing.specs.declared.home.Selected.{Selected}
use Rattle.placing.specs.declared.segment.Segment.{Segment}
use Rattle.reading.proofs.Booleans.{left, right, denied}
use Rattle.reading.proofs.Starts.{none_left, one_less}

module _ (b : Guide) where
  -- ---- one line

  module _ (segment : Segment) (l : ℕ) where
    -- the component that the selector names, where there is one
    abbrev component : Selected
    component =
        record {
          element = b.selector_element l;
          component = b.selector_component l;
          span = seek_from segment.service segment.message.now (segment.at + 3) (b.selector_element l) (b.selector_component l);
        }

    named : (x : Selected) → Some x ≡ selected_of segment b l → (eqb (b.selector_element l) 0 ≡ false) × (x ≡ component)
    named x h = go (eqb (b.selector_element l) 0) refl h
      where
        go : (v : Bool) → eqb (b.selector_element l) 0 ≡ v → Some x ≡ cond v None (Some component) → (eqb (b.selector_element l) 0 ≡ false) × (x ≡ component)
        go true e i = absurd (none-some x (sym i))
        go false e i = (e, same_Some x component i)

    pub no_selector : eqb (b.selector_element l) 0 ≡ true → true ≡ is_selected_at segment.service b segment.message.now segment.at l
    unfolding is_selected_at
    no_selector e = sym (simp e)

    pub all_selected : None ≡ selected_of segment b l → true ≡ is_selected_at segment.service b segment.message.now segment.at l
    all_selected h = go (eqb (b.selector_element l) 0) refl h
      where
        go : (v : Bool) → eqb (b.selector_element l) 0 ≡ v → None ≡ cond v None (Some component) → true ≡ is_selected_at segment.service b segment.message.now segment.at l
        go true e i = no_selector e
        go false e i = absurd (none-some component i)

    module _ (x : Selected) (h : Some x ≡ selected_of segment b l) where
      pub selected : (first count : ℕ) (r : Bool) → first ≡ b.first_code l → count ≡ b.code_count l → r ≡ is_any_code b first count (bytes_in x.span segment.message.now) → r ≡ is_selected_at segment.service b segment.message.now segment.at l
      unfolding is_selected_at
      selected first count r hf hk hr =
          hr ∙ ap₂ (λ (y z : ℕ). is_any_code b y z (bytes_in x.span segment.message.now)) hf hk
          ∙ ap (λ (y : Selected). is_any_code b (b.first_code l) (b.code_count l) (bytes_in y.span segment.message.now)) (named x h).1
          ∙ sym (simp (named x h).0)

      -- it lies within the message
      pub lies_inside : Inside (length segment.message.now) x.span
      lies_inside = subst (λ (y : Selected). Inside (length segment.message.now) y.span) (sym (named x h).1) (seek_inside segment.service segment.message.now (segment.at + 3) (b.selector_element l) (b.selector_component l) segment.within)

    pub looked : Looked segment (selected_of segment b l)
    looked = go (eqb (b.selector_element l) 0)
      where
        go : (v : Bool) → Looked segment (cond v None (Some component))
        go true = tt
        go false = refl

  -- a line fits that has the tag and is selected
  module _ (segment : Segment) where
    pub fits_not : (l t : ℕ) → t ≡ home_tag b l → (t ≡ segment.tag → ⊥) → fits segment b l ≡ false
    unfolding fits_at
    fits_not l t e n = go (eqb (b.kind l) group_kind) refl
      where
        go : (v : Bool) → eqb (b.kind l) group_kind ≡ v → (eqb (b.tag l) (tag_at segment.message.now segment.at) && (not (eqb (b.kind l) group_kind) && is_selected_at segment.service b segment.message.now segment.at l)) ≡ false
        go true k = simp (k, and-false)
        go false k = simp (ne_eqb (b.tag l) (tag_at segment.message.now segment.at) (λ z. n (e ∙ ap (λ (v : Bool). cond v (2 ^ 24) (b.tag l)) k ∙ z ∙ sym segment.its_tag)))

    pub fits_selected : (l t : ℕ) (q : Bool) → t ≡ home_tag b l → t ≡ segment.tag → q ≡ is_selected_at segment.service b segment.message.now segment.at l → fits segment b l ≡ q
    unfolding fits_at
    fits_selected l t q e h i = go (eqb (b.kind l) group_kind) refl
      where
        go : (v : Bool) → eqb (b.kind l) group_kind ≡ v → (eqb (b.tag l) (tag_at segment.message.now segment.at) && (not (eqb (b.kind l) group_kind) && is_selected_at segment.service b segment.message.now segment.at l)) ≡ q
        go true k = absurd (let z : segment.tag ≡ 2 ^ 24 = sym h ∙ e ∙ ap (λ (v : Bool). cond v (2 ^ 24) (b.tag l)) k in omega (arith, segment.three_bytes))
        go false k = simp (k, eq-eqb (b.tag l) (tag_at segment.message.now segment.at) (sym (ap (λ (v : Bool). cond v (2 ^ 24) (b.tag l)) k) ∙ sym e ∙ h ∙ segment.its_tag)) (sym i)

-- ---- the least line

module _ (test : ℕ → Bool) (end : ℕ) where
  least_next : (x : ℕ) → x < end → least test x (end - x) ≡ cond (test x) x (least test (x + 1) (end - (x + 1)))
  unfolding least
  least_next x h =
      ap (least test x) (one_less x end h) ∙ ap (λ (y : ℕ). cond (test x) x (least test y (end - (x + 1)))) (sym (add-one x))

  pub least_none : (x : ℕ) → end ≤ x → least test x (end - x) ≡ 0
  unfolding least
  least_none x h = ap (least test x) (none_left x end h)

  pub least_here : (x : ℕ) → x < end → test x ≡ true → least test x (end - x) ≡ x
  least_here x h e = least_next x h ∙ simp e

  pub least_on : (x : ℕ) → x < end → test x ≡ false → least test (x + 1) (end - (x + 1)) ≡ least test x (end - x)
  least_on x h e = sym (least_next x h ∙ simp e)

-- all lines, from the first on
from_first : (test : ℕ → Bool) (lines : ℕ) → least test 1 (suc lines - 1) ≡ least test 1 lines
from_first test lines = let z : suc lines - 1 ≡ lines = omega arith in ap (least test 1) z

-- lines that are passed over
least_past : (test : ℕ → Bool) (end k x : ℕ) → x + k ≤ end → ((l : ℕ) → x ≤ l → l < x + k → test l ≡ false) → least test (x + k) (end - (x + k)) ≡ least test x (end - x)
least_past test end zero x h f = let z : x + 0 ≡ x = omega arith in ap (λ (y : ℕ). least test y (end - y)) z
least_past test end (suc k) x h f =
    let z : x + suc k ≡ x + 1 + k = omega arith in
    ap (λ (y : ℕ). least test y (end - y)) z ∙ least_past test end k (x + 1) (omega arith) (λ l i j. f l (omega arith) (omega arith))
    ∙ least_on test end x (omega arith) (f x (omega arith) (omega arith))

first_past : (test : ℕ → Bool) (lines x : ℕ) → 1 ≤ x → x ≤ suc lines → ((l : ℕ) → 1 ≤ l → l < x → test l ≡ false) → least test x (suc lines - x) ≡ least test 1 lines
first_past test lines x h i f =
    let z : x ≡ 1 + (x - 1) = omega arith in
    ap (λ (y : ℕ). least test y (suc lines - y)) z ∙ least_past test (suc lines) (x - 1) 1 (omega arith) (λ l j k. f l j (omega arith)) ∙ from_first test lines

-- what the least line says: it is the first of its kind, or there is none
pub data Least (test : ℕ → Bool) (l n : ℕ) : ℕ → Type 0 where
  found : (x : ℕ) → l ≤ x → x < l + n → test x ≡ true → ((y : ℕ) → l ≤ y → y < x → test y ≡ false) → Least test l n x
  none : ((y : ℕ) → l ≤ y → y < l + n → test y ≡ false) → Least test l n 0

here_or_later : (test : ℕ → Bool) (l y : ℕ) → l ≤ y → test l ≡ false → (suc l ≤ y → test y ≡ false) → test y ≡ false
here_or_later test l y h e f = dite (dec_lt l y) f (λ n. let z : l ≡ y = omega arith in subst (λ (x : ℕ). test x ≡ false) z e)

pub least_is : (test : ℕ → Bool) (l n : ℕ) → Least test l n (least test l n)
unfolding least
least_is test l zero = none (λ y i j. absurd (omega arith))
least_is test l (suc n) = go (test l) refl (least test (suc l) n) (least_is test (suc l) n)
  where
    go : (v : Bool) → test l ≡ v → (x : ℕ) → Least test (suc l) n x → Least test l (suc n) (cond v l x)
    go true e x r = found l (omega arith) (omega arith) e (λ y i j. absurd (omega arith))
    go false e x (found z a b c d) = found z (omega arith) (omega arith) c (λ y i j. here_or_later test l y i e (λ k. d y k j))
    go false e x (none f) = none (λ y i j. here_or_later test l y i e (λ k. f y k (omega arith)))

-- ---- the table of tags, and the home

module _ (b : Guide) where
  end_within : (1 ≤ tabled_end b) × (tabled_end b ≤ 257) × (tabled_end b ≤ suc b.lines)
  end_within = go (ltb b.lines 257) refl
    where
      go : (v : Bool) → ltb b.lines 257 ≡ v → (1 ≤ cond v (suc b.lines) 257) × (cond v (suc b.lines) 257 ≤ 257) × (cond v (suc b.lines) 257 ≤ suc b.lines)
      go true e = let h = ltb-true b.lines 257 e in (omega arith, omega arith, omega arith)
      go false e = let h = ltb-false b.lines 257 e in (omega arith, omega arith, omega arith)

  -- ---- the home: the lines before the first of its tag are passed over

  module _ (segment : Segment) (tags : List ℕ) (all : TagsOf b tags) where
    passed : (l : ℕ) → l < length tags → eqb (get_or tags l 0) segment.tag ≡ false → fits segment b l ≡ false
    passed l h n = fits_not b segment l (get_or tags l 0) (all.same l h) (eqb-false (get_or tags l 0) segment.tag n)

    abbrev Shown : ℕ → Type 0
    Shown y = Least (λ l. eqb (get_or tags l 0) segment.tag) 1 (length tags - 1) y

    shown : Shown (first_of_tag tags segment.tag)
    shown = least_is (λ l. eqb (get_or tags l 0) segment.tag) 1 (length tags - 1)

    pub home_past : first_of_tag tags segment.tag ≡ 0 → least (fits segment b) (length tags) (suc b.lines - length tags) ≡ home_at segment.service b segment.message.now segment.at
    home_past z = go (first_of_tag tags segment.tag) z shown
      where
        go : (y : ℕ) → y ≡ 0 → Shown y → least (fits segment b) (length tags) (suc b.lines - length tags) ≡ home_at segment.service b segment.message.now segment.at
        go y e (found l i j k f) = absurd (omega arith)
        go y e (none f) = let w = end_within in first_past (fits segment b) b.lines (length tags) (omega (arith, w, all.ends)) (omega (arith, w, all.ends)) (λ l i j. passed l j (f l i (omega arith)))

    module _ (r : ℕ) (first : r ≡ first_of_tag tags segment.tag) (some : 1 ≤ r) where
      pub home_first : least (fits segment b) r (suc b.lines - r) ≡ home_at segment.service b segment.message.now segment.at
      home_first = go r some (subst Shown (sym first) shown)
        where
          go : (y : ℕ) → 1 ≤ y → Shown y → least (fits segment b) y (suc b.lines - y) ≡ home_at segment.service b segment.message.now segment.at
          go y m (found z i j k f) = let w = end_within in first_past (fits segment b) b.lines y i (omega (arith, w, all.ends)) (λ l p q. passed l (omega arith) (f l p q))
          go y m (none f) = absurd (omega arith)

      -- without a selector that one is the home
      pub home_here : (e : ℕ) → e ≡ b.selector_element r → e ≡ 0 → home_at segment.service b segment.message.now segment.at ≡ r
      home_here e h z = sym home_first ∙ go r some (no_selector b segment r (eq-eqb (b.selector_element r) 0 (sym h ∙ z))) (subst Shown (sym first) shown)
        where
          go : (y : ℕ) → 1 ≤ y → true ≡ is_selected_at segment.service b segment.message.now segment.at y → Shown y → least (fits segment b) y (suc b.lines - y) ≡ y
          go y m q (found z i j k f) =
              let w = end_within in
              least_here (fits segment b) (suc b.lines) y (omega (arith, w, all.ends))
              (fits_selected b segment y (get_or tags y 0) true (all.same y (omega arith)) (eqb-true (get_or tags y 0) segment.tag k) q)
          go y m q (none f) = absurd (omega arith)

  no_group : (s : Service) (bs : List ℕ) (at l : ℕ) → fits_at s b bs at l ≡ true → eqb (b.kind l) group_kind ≡ false
  unfolding fits_at
  no_group s bs at l k = denied (eqb (b.kind l) group_kind) (left (not (eqb (b.kind l) group_kind)) _ (right (eqb (b.tag l) (tag_at bs at)) _ k))

  -- a home is a segment line of the book
  pub home_line : (s : Service) (bs : List ℕ) (at h : ℕ) → h ≡ home_at s b bs at → 1 ≤ h → SegmentLine (plan_of b) h
  home_line s bs at h e n = go h n (subst (Least (fits_at s b bs at) 1 b.lines) (sym e) (least_is (fits_at s b bs at) 1 b.lines))
    where
      go : (x : ℕ) → 1 ≤ x → Least (fits_at s b bs at) 1 b.lines x → SegmentLine (plan_of b) x
      go x m (found y i j k f) = record { some = i; within = omega arith; segment = no_group s bs at x k }
      go x m (none f) = absurd (omega arith)
