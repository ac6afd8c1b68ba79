-- Law home: the home that is found in the bytes is the abstract segment's, the least line that it fits; and in a good book it is
-- the only one.
use Prim.Native.Nat.{ℕ, zero, suc, ◌+◌, ◌≤◌, ◌<◌}
use native.Mathlib.Omega.{arith}
use native.Mathlib.Decide.{dec_lt}
use mathlib.Core.Path.{◌≡◌, refl, sym, ap, ap₂, ◌∙◌, subst}
use mathlib.Core.List.{List, [], ◌∷◌, map}
use mathlib.Core.Bool.{Bool, true, false, true≢false, false≢true, cond, not, ◌&&◌, ◌||◌}
use mathlib.Core.Logic.{◌⊎◌, inl, inr, dite}
use lib.Dec.{eqb}
use lib.ListN.{get_or}
use borrow.Author.Tests.{eq-eqb, eqb-true, eqb-false}
use Rattle.guide.specs.meaning.Words.{group_kind, segment_kind}
use Rattle.guide.specs.meaning.Guide.{guide_of}
use Rattle.book.specs.meaning.Rule.{Holds}
use Rattle.book.specs.meaning.GoodBook.{GoodBook, tag_rule, tag_byte_rule, same_tag_rule, same_place_rule, told_apart_rule, pair_rule}
use Rattle.guide.specs.meaning.View.{numbers_from, code_value, line_of}
use Rattle.book_laws.proofs.Clauses.{line_kind, line_tag, line_codes, one_home}
use Rattle.book_laws.proofs.OneHome.{no_common_code}
use Rattle.book_laws.proofs.ViewedLines.{tag_number_lem, with_selector}
use Rattle.reading.specs.meaning.Service.{GoodService}
use Rattle.reading.specs.meaning.Message.{Component, Tag, Segment, ValidTag, write_component}
use Rattle.reading.specs.meaning.WellFormed.{SegmentAt, end_of}
use Rattle.reading.specs.meaning.Component.{value_at, same_component}
use Rattle.reading.specs.method.Machine.{seek_from}
use Rattle.reading.specs.method.Part.{bytes_in}
use Rattle.reading.specs.meaning.Tag.{tag_number}
use Rattle.reading.specs.declared.service.Service.{Service}
use Rattle.reading.specs.declared.span.Span.{Span}
use Rattle.std.specs.Prelude.{Some}
use Rattle.reading.proofs.Comparing.{same_bytes_true}
use Rattle.reading_laws.proofs.OneReading.{same_bytes_refl}
use Rattle.reading_laws.proofs.Cursors.{end_of_segment}
use Rattle.reading.proofs.Seeking.{span_by_end}
use Rattle.reading_laws.proofs.Values.{part_is_value}
use Rattle.reading_laws.proofs.Tags.{tag_of_segment, tag_small, three_bytes}
use Rattle.placing.specs.meaning.Fitting.{is_among, has_tag, is_selected, fits, least, home_of}
use Rattle.placing.specs.method.Fitting.{is_selected_at, fits_at, home_at}
use Rattle.guide.specs.method.Codes.{is_any_code}
use Rattle.reading.proofs.Booleans.{left, right, denied, same_test}
use Rattle.placing_laws.proofs.Codes.{any_code}
use Rattle.placing.proofs.Finding.{Least, found, none, least_is}

-- ---- the least line

least_same : (f g : ℕ → Bool) (l n : ℕ) → ((x : ℕ) → l ≤ x → x < l + n → f x ≡ g x) → least f l n ≡ least g l n
unfolding least
least_same f g l zero h = refl
least_same f g l (suc n) h =
    ap (λ (t : Bool). cond t l (least f (suc l) n)) (h l (omega arith) (omega arith))
    ∙ ap (cond (g l) l) (least_same f g (suc l) n (λ x i j. h x (omega arith) (omega arith)))

module _ (book : List ℕ) (good : GoodBook book) (l : ℕ) (from : 1 ≤ l) (to : l ≤ (guide_of book).lines) where
  -- 01: "tag (3 of A–Z, 0–9; zero for a group)"
  small : (x : ℕ) → Holds (tag_byte_rule (guide_of book) l x) → x < 256
  unfolding tag_byte_rule
  small x h = go (line_kind book good l from to)
    where
      of : ((0x41 ≤ x) × (x ≤ 0x5a)) ⊎ ((0x30 ≤ x) × (x ≤ 0x39)) → x < 256
      of (inl r) = let k = r.1 in omega arith
      of (inr r) = let k = r.1 in omega arith

      go : ((guide_of book).kind l ≡ segment_kind) ⊎ ((guide_of book).kind l ≡ group_kind) → x < 256
      go (inl e) = of (h.0 e)
      go (inr e) = let k = h.1 e in omega arith

  bytes : ((guide_of book).tag_byte l 0 < 256) × ((guide_of book).tag_byte l 1 < 256) × ((guide_of book).tag_byte l 2 < 256)
  unfolding tag_rule
  bytes = let r = line_tag book good l from to in (small ((guide_of book).tag_byte l 0) r.0, small ((guide_of book).tag_byte l 1) r.1.0, small ((guide_of book).tag_byte l 2) r.1.1)

  -- three bytes are the tag exactly when the number is
  pub same_tag : (t : Tag) → ValidTag t → eqb ((guide_of book).tag l) (tag_number t) ≡ has_tag t (line_of (guide_of book) l).tag
  same_tag t v =
      same_test (eqb ((guide_of book).tag l) (tag_number t)) (has_tag t (line_of (guide_of book) l).tag)
      (λ h. let e = eqb-true ((guide_of book).tag l) (tag_number t) h in
      let d = three_bytes t.first t.second t.third ((guide_of book).tag_byte l 0) ((guide_of book).tag_byte l 1) ((guide_of book).tag_byte l 2)
      (tag_small t.first v.first, tag_small t.second v.second, tag_small t.third v.third) bytes (sym e ∙ tag_number_lem book l) in
      let z : t.first ∷ t.second ∷ t.third ∷ [] ≡ (line_of (guide_of book) l).tag = cc (d.0, d.1, d.2) in
      ap (λ (xs : List ℕ). same_component xs (line_of (guide_of book) l).tag) z ∙ same_bytes_refl (line_of (guide_of book) l).tag)
      (λ h. let z = same_bytes_true (t.first ∷ t.second ∷ t.third ∷ []) (line_of (guide_of book) l).tag h in
      let a : t.first ≡ (guide_of book).tag_byte l 0 = ap (λ (xs : List ℕ). get_or xs 0 0) z in
      let b : t.second ≡ (guide_of book).tag_byte l 1 = ap (λ (xs : List ℕ). get_or xs 1 0) z in
      let c : t.third ≡ (guide_of book).tag_byte l 2 = ap (λ (xs : List ℕ). get_or xs 2 0) z in
      eq-eqb ((guide_of book).tag l) (tag_number t) (omega (arith, tag_number_lem book l)))

  -- ---- fitting, in the bytes and in the abstract

  module _ (s : Service) (service : GoodService s) (bs : List ℕ) (at : ℕ) (g : Segment) (i : SegmentAt s bs at g) where
    -- what lies behind the tag is the component's value, written
    value_there : (e c : ℕ) → (e ≡ 0 → ⊥) → (c ≡ 0 → ⊥) → bytes_in (seek_from s bs (at + 3) e c) bs ≡ write_component s (value_at g e c) []
    value_there e c n m =
        ap (λ (x : Span). bytes_in x bs) (span_by_end s bs at e c (seek_from s bs (at + 3) e c) n m (Some (end_of s at g)) (end_of_segment s service bs at g i) refl)
        ∙ part_is_value s service bs at e c g i

    selected_same : is_selected_at s (guide_of book) bs at l ≡ is_selected (line_of (guide_of book) l) g
    unfolding is_selected_at
    selected_same = go (eqb ((guide_of book).selector_element l) 0) refl
      where
        go : (v : Bool) → eqb ((guide_of book).selector_element l) 0 ≡ v
            → (v || is_any_code (guide_of book) ((guide_of book).first_code l) ((guide_of book).code_count l) (bytes_in (seek_from s bs (at + 3) ((guide_of book).selector_element l) ((guide_of book).selector_component l)) bs))
            ≡ (v || is_among (value_at g ((guide_of book).selector_element l) ((guide_of book).selector_component l)) (line_of (guide_of book) l).codes)
        go true e = refl
        go false e =
            let n = eqb-false ((guide_of book).selector_element l) 0 e in
            let w = with_selector book good l from to (omega arith) in
            ap (is_any_code (guide_of book) ((guide_of book).first_code l) ((guide_of book).code_count l)) (value_there ((guide_of book).selector_element l) ((guide_of book).selector_component l) n (λ z. let y = w.0 in omega arith))
            ∙ any_code book good s service (value_at g ((guide_of book).selector_element l) ((guide_of book).selector_component l)) ((guide_of book).first_code l) ((guide_of book).code_count l) (line_codes book good l from to)

    pub fits_same : fits_at s (guide_of book) bs at l ≡ fits (line_of (guide_of book) l) g
    unfolding fits_at fits
    fits_same =
        ap₂ (λ (x y : Bool). x && (not (eqb ((guide_of book).kind l) group_kind) && y)) (ap (eqb ((guide_of book).tag l)) (tag_of_segment s bs at g i) ∙ same_tag g.tag i.valid.tag) selected_same
        ∙ swap (has_tag g.tag (line_of (guide_of book) l).tag) (not (eqb ((guide_of book).kind l) group_kind)) (is_selected (line_of (guide_of book) l) g)
      where
        swap : (x y z : Bool) → (x && (y && z)) ≡ (y && (x && z))
        swap true y z = refl
        swap false true z = refl
        swap false false z = refl

module _ (book : List ℕ) (good : GoodBook book) where
  -- the law: what is found in the bytes is the segment's home
  pub home : (s : Service) → GoodService s → (bs : List ℕ) (at : ℕ) (g : Segment) → SegmentAt s bs at g
      → home_at s (guide_of book) bs at ≡ home_of (guide_of book) g
  home s service bs at g i = least_same _ _ 1 (guide_of book).lines (λ l a c. fits_same book good l a (omega arith) s service bs at g i)

  -- ---- one home

  among_code : (v : Component) (c n : ℕ) → is_among v (map (code_value (guide_of book)) (numbers_from c n)) ≡ true
      → (d : ℕ) × (c ≤ d) × (d < c + n) × (v ≡ code_value (guide_of book) d)
  unfolding is_among
  among_code v c zero h = absurd (false≢true h)
  among_code v c (suc n) h = go (same_component v (code_value (guide_of book) c)) refl h (among_code v (suc c) n)
    where
      go : (t : Bool) → same_component v (code_value (guide_of book) c) ≡ t → (t || is_among v (map (code_value (guide_of book)) (numbers_from (suc c) n))) ≡ true
          → (is_among v (map (code_value (guide_of book)) (numbers_from (suc c) n)) ≡ true → (d : ℕ) × (suc c ≤ d) × (d < suc c + n) × (v ≡ code_value (guide_of book) d))
          → (d : ℕ) × (c ≤ d) × (d < c + suc n) × (v ≡ code_value (guide_of book) d)
      go true e k ih = (c, omega arith, omega arith, same_bytes_true v (code_value (guide_of book) c) e)
      go false e k ih = let r = ih k in (r.0, let a = r.1 in omega arith, let a = r.2 in omega arith, r.3)

  module _ (g : Segment) where
    abbrev Fits : ℕ → Type 0
    Fits l = fits (line_of (guide_of book) l) g ≡ true

    is_segment : (l : ℕ) → 1 ≤ l → l ≤ (guide_of book).lines → Fits l → (guide_of book).kind l ≡ segment_kind
    unfolding fits
    is_segment l a c h = go (line_kind book good l a c)
      where
        go : ((guide_of book).kind l ≡ segment_kind) ⊎ ((guide_of book).kind l ≡ group_kind) → (guide_of book).kind l ≡ segment_kind
        go (inl e) = e
        go (inr e) = absurd (true≢false (sym (eq-eqb ((guide_of book).kind l) group_kind e) ∙ denied (eqb ((guide_of book).kind l) group_kind) (left (not (eqb ((guide_of book).kind l) group_kind)) _ h)))

    tag_of : (l : ℕ) → Fits l → g.tag.first ∷ g.tag.second ∷ g.tag.third ∷ [] ≡ (line_of (guide_of book) l).tag
    unfolding fits
    tag_of l h = same_bytes_true _ _ (left (has_tag g.tag (line_of (guide_of book) l).tag) _ (right (not (eqb ((guide_of book).kind l) group_kind)) _ h))

    tag_is : (l : ℕ) → Fits l → (guide_of book).tag l ≡ tag_number g.tag
    tag_is l h =
        let e = tag_of l h in
        let a : g.tag.first ≡ (guide_of book).tag_byte l 0 = ap (λ (xs : List ℕ). get_or xs 0 0) e in
        let b : g.tag.second ≡ (guide_of book).tag_byte l 1 = ap (λ (xs : List ℕ). get_or xs 1 0) e in
        let c : g.tag.third ≡ (guide_of book).tag_byte l 2 = ap (λ (xs : List ℕ). get_or xs 2 0) e in
        omega (arith, tag_number_lem book l)

    code_of : (l : ℕ) → Fits l → 1 ≤ (guide_of book).selector_element l
        → (d : ℕ) × ((guide_of book).first_code l ≤ d) × (d < (guide_of book).first_code l + (guide_of book).code_count l)
        × (value_at g ((guide_of book).selector_element l) ((guide_of book).selector_component l) ≡ code_value (guide_of book) d)
    unfolding fits
    code_of l h one =
        among_code (value_at g ((guide_of book).selector_element l) ((guide_of book).selector_component l)) ((guide_of book).first_code l) ((guide_of book).code_count l)
        (go (eqb ((guide_of book).selector_element l) 0) refl (right (has_tag g.tag (line_of (guide_of book) l).tag) _ (right (not (eqb ((guide_of book).kind l) group_kind)) _ h)))
      where
        go : (v : Bool) → eqb ((guide_of book).selector_element l) 0 ≡ v
            → (v || is_among (value_at g ((guide_of book).selector_element l) ((guide_of book).selector_component l)) (line_of (guide_of book) l).codes) ≡ true
            → is_among (value_at g ((guide_of book).selector_element l) ((guide_of book).selector_component l)) (line_of (guide_of book) l).codes ≡ true
        go true e k = absurd (let z = eqb-true ((guide_of book).selector_element l) 0 e in omega arith)
        go false e k = k

    no_two : (l m : ℕ) → 1 ≤ l → l < m → m ≤ (guide_of book).lines → Fits l → Fits m → ⊥
    unfolding pair_rule same_tag_rule told_apart_rule same_place_rule
    no_two l m a b c h k =
        let same : Holds (same_tag_rule (guide_of book) l m) = (is_segment l a (omega arith) h, (is_segment m (omega arith) c k, tag_is l h ∙ sym (tag_is m k))) in
        let place = (one_home book good l a (omega arith) m (omega arith) c same).0 in
        let p = code_of l h place.0 in
        let q = code_of m k (let z = place.1.0 in let y = place.0 in omega arith) in
        no_common_code book good l m p.0 q.0 a b c same p.1 p.2 q.1 q.2
        (sym p.3 ∙ ap₂ (value_at g) place.1.0 place.1.1 ∙ q.3)

    -- the law: in a good book a segment fits one line at most
    pub only_home : (l m : ℕ) → 1 ≤ l → l ≤ (guide_of book).lines → 1 ≤ m → m ≤ (guide_of book).lines → Fits l → Fits m → l ≡ m
    only_home l m a b c d h k =
        dite (dec_lt l m) (λ z. absurd (no_two l m a z d h k)) (λ z. dite (dec_lt m l) (λ y. absurd (no_two m l c y b k h)) (λ y. omega arith))

    -- so a line that it fits is its home
    pub fits_home : (l : ℕ) → 1 ≤ l → l ≤ (guide_of book).lines → Fits l → home_of (guide_of book) g ≡ l
    fits_home l a b h = go (home_of (guide_of book) g) (least_is (λ x. fits (line_of (guide_of book) x) g) 1 (guide_of book).lines)
      where
        go : (x : ℕ) → Least (λ y. fits (line_of (guide_of book) y) g) 1 (guide_of book).lines x → x ≡ l
        go x (found y i j e f) = only_home x l i (omega arith) a b e h
        go x (none f) = absurd (true≢false (sym h ∙ f l a (omega arith)))

    -- and a home is a line that it fits
    pub home_fits : (l : ℕ) → home_of (guide_of book) g ≡ suc l → (suc l ≤ (guide_of book).lines) × Fits (suc l)
    home_fits l e = go (home_of (guide_of book) g) e (least_is (λ x. fits (line_of (guide_of book) x) g) 1 (guide_of book).lines)
      where
        go : (x : ℕ) → x ≡ suc l → Least (λ y. fits (line_of (guide_of book) y) g) 1 (guide_of book).lines x → (suc l ≤ (guide_of book).lines) × Fits (suc l)
        go x z (found y i j k f) = (omega arith, subst Fits z k)
        go x z (none f) = absurd (omega arith)
