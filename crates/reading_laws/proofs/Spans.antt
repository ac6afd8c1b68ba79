-- Law span: a component is found where 01 says that it lies, for any bytes and any offset.
use Prim.Native.Nat.{ℕ, zero, suc, ◌+◌, ◌≤◌}
use native.Mathlib.Omega.{arith}
use mathlib.Core.Path.{◌≡◌, refl, sym, ap, ◌∙◌}
use mathlib.Core.List.{List, [], ◌∷◌}
use mathlib.Core.Bool.{Bool, true, false, true≢false}
use mathlib.Core.Logic.{⊎_elim}
use lib.Dec.{eqb-suc-zero}
use lib.ListN.{length, drop}
use lib.Seq.{drop-drop}
use borrow.Author.Tests.{eq-eqb, ne_eqb}
use Rattle.reading.specs.meaning.Service.{All, GoodService, is_data, must_release}
use Rattle.reading.specs.meaning.Message.{released, ValidComponent, ValidElement, write_component, write_more, write_element, write_elements}
use Rattle.reading.specs.meaning.Message as message
use Rattle.reading.specs.meaning.WellFormed.{SegmentAt, NoSegmentAt, end_of}
use Rattle.reading.specs.meaning.Component.{ComponentPlace, nowhere, Lies, in_segment, no_segment, place_in, place_in_components, place_in_elements, span, span_of}
use Rattle.reading.specs.method.Machine.{Seek, Sought, pick, kind_of, seek, is_here, sought, go_on, seek_on, span_by, component_span}
use Rattle.reading.specs.declared.service.Service.{Service}
use Rattle.reading.specs.declared.span.Span.{Span}
use Rattle.reading.specs.declared.bytes.Kind.{Kind}
use Rattle.reading.specs.declared.bytes.Kind.TheVariants.{Component, Element, Terminator, Release, Plain, Other}
use Rattle.reading_laws.proofs.Services.{Seen, see, kind_release, kind_component, kind_element, kind_terminator}
use Rattle.reading_laws.proofs.Services.Seen.{component, element, terminator, release, plain, other}
use Rattle.reading_laws.proofs.Rendering.{component_long, element_long}
use Rattle.reading_laws.proofs.Cursors.{segment_or_none, end_of_segment, end_of_none}

-- ---- is this the component that is sought?

here : (e c start : ℕ) → is_here (seek e c start false) e c ≡ true
unfolding is_here
here e c start = rw (eq-eqb e e refl, eq-eqb c c refl)

other_element : (e c el co start : ℕ) → (el ≡ e → ⊥) → is_here (seek el co start false) e c ≡ false
unfolding is_here
other_element e c el co start h = rw (ne_eqb el e h)

other_component : (e c co start : ℕ) → (co ≡ c → ⊥) → is_here (seek e co start false) e c ≡ false
unfolding is_here
other_component e c co start h = rw (eq-eqb e e refl, ne_eqb co c h)

go_on_pick : (t : Bool) (x y : Sought) (more : Seek → Span) → go_on (pick t x y) more ≡ pick t (go_on x more) (go_on y more)
go_on_pick true x y more = refl
go_on_pick false x y more = refl

module _ (s : Service) (good : GoodService s) (e c : ℕ) where
  -- a search at `at`, with nothing released
  abbrev seeks : ℕ → ℕ → ℕ → ℕ → List ℕ → Span
  seeks el co start at bs = seek_on s e c (seek el co start false) at bs

  -- ---- one byte

  seek_step : (k : Seek) (at b : ℕ) (bs : List ℕ) (kind : Kind) → kind_of s b ≡ kind
      → seek_on s e c k at (b ∷ bs) ≡ go_on (sought e c k at kind) (λ next. seek_on s e c next (at + 1) bs)
  unfolding seek_on
  seek_step k at b bs kind h = ap (λ (x : Kind). go_on (sought e c k at x) (λ next. seek_on s e c next (at + 1) bs)) h

  at_component : (el co start at : ℕ) (bs : List ℕ)
      → seeks el co start at (s.component ∷ bs) ≡ pick (is_here (seek el co start false) e c) (span start at) (seeks el (co + 1) (at + 1) (at + 1) bs)
  at_component el co start at bs =
      seek_step (seek el co start false) at s.component bs Component (kind_component s good) ∙ go_on_pick (is_here (seek el co start false) e c) _ _ (λ next. seek_on s e c next (at + 1) bs)

  at_element : (el co start at : ℕ) (bs : List ℕ)
      → seeks el co start at (s.element ∷ bs) ≡ pick (is_here (seek el co start false) e c) (span start at) (seeks (el + 1) 1 (at + 1) (at + 1) bs)
  at_element el co start at bs =
      seek_step (seek el co start false) at s.element bs Element (kind_element s good) ∙ go_on_pick (is_here (seek el co start false) e c) _ _ (λ next. seek_on s e c next (at + 1) bs)

  at_terminator : (el co start at : ℕ) (bs : List ℕ)
      → seeks el co start at (s.terminator ∷ bs) ≡ pick (is_here (seek el co start false) e c) (span start at) (span at at)
  at_terminator el co start at bs =
      seek_step (seek el co start false) at s.terminator bs Terminator (kind_terminator s good) ∙ go_on_pick (is_here (seek el co start false) e c) _ _ (λ next. seek_on s e c next (at + 1) bs)

  -- ---- over a component's bytes

  over_released : (el co start at b : ℕ) (rest : List ℕ) → seeks el co start at (s.release ∷ b ∷ rest) ≡ seeks el co start (at + 2) rest
  over_released el co start at b rest =
      seek_step (seek el co start false) at s.release (b ∷ rest) Release (kind_release s good)
      ∙ seek_step (seek el co start true) (at + 1) b rest (kind_of s b) refl ∙ ap (λ (x : ℕ). seeks el co start x rest) (omega arith)

  over_byte : (el co start at b : ℕ) (rest : List ℕ) → is_data b ≡ true
      → seeks el co start at (released (must_release s b) s.release b rest) ≡ seeks el co start (at + length (released (must_release s b) s.release b [])) rest
  over_byte el co start at b rest h = go (kind_of s b) refl (see s b)
    where
      two : seeks el co start at (s.release ∷ b ∷ rest) ≡ seeks el co start (at + 2) rest
      two = over_released el co start at b rest

      go : (k : Kind) → kind_of s b ≡ k → Seen s b k
          → seeks el co start at (released (must_release s b) s.release b rest) ≡ seeks el co start (at + length (released (must_release s b) s.release b [])) rest
      go Component x (component _ t) = rw t two
      go Element x (element _ t) = rw t two
      go Terminator x (terminator _ t) = rw t two
      go Release x (release _ t) = rw t two
      go Plain x (plain _ t) = rw t (seek_step (seek el co start false) at b rest Plain x)
      go Other x (other d t) = absurd (true≢false (sym h ∙ d))

  released_long : (t : Bool) (r b : ℕ) (rest : List ℕ) → length (released t r b rest) ≡ length (released t r b []) + length rest
  released_long true r b rest = omega arith
  released_long false r b rest = omega arith

  over_component : (el co start at : ℕ) (v : message.Component) (rest : List ℕ) → ValidComponent v
      → seeks el co start at (write_component s v rest) ≡ seeks el co start (at + length (write_component s v [])) rest
  unfolding write_component
  over_component el co start at [] rest valid = ap (λ (x : ℕ). seeks el co start x rest) (omega arith)
  over_component el co start at (b ∷ v) rest valid =
      over_byte el co start at b (write_component s v rest) valid.0
      ∙ over_component el co start (at + length (released (must_release s b) s.release b [])) v rest valid.1
      ∙ ap (λ (x : ℕ). seeks el co start x rest) (omega (arith, released_long (must_release s b) s.release b (write_component s v [])))

  -- ---- past an element that is not the one

  record Passed (el : ℕ) (at : ℕ) (bs : List ℕ) (there : ℕ) (rest : List ℕ) (co start : ℕ) : Type 0 where
    component : ℕ
    start_there : ℕ
    same : seeks el co start at bs ≡ seeks el component start_there there rest

  past_more : (el co start at : ℕ) (vs : List message.Component) (rest : List ℕ) → (el ≡ e → ⊥) → All ValidComponent vs
      → Passed el at (write_more s vs rest) (at + length (write_more s vs [])) rest co start
  unfolding write_more
  past_more el co start at [] rest h valid = record { component = co; start_there = start; same = ap (λ (x : ℕ). seeks el co start x rest) (omega arith) }
  past_more el co start at (v ∷ vs) rest h valid =
      let r = past_more el (co + 1) (at + 1) (at + 1 + length (write_component s v [])) vs rest h valid.1 in
      record {
        component = r.component;
        start_there = r.start_there;
        same =
            at_component el co start at (write_component s v (write_more s vs rest)) ∙ rw (other_element e c el co start h) (over_component el (co + 1) (at + 1) (at + 1) v (write_more s vs rest) valid.0)
            ∙ r.same ∙ ap (λ (x : ℕ). seeks el r.component r.start_there x rest) (omega (arith, component_long s v (write_more s vs [])));
      }

  past_element : (el at : ℕ) (x : message.Element) (rest : List ℕ) → (el ≡ e → ⊥) → ValidElement x
      → Passed el (at + 1) (write_component s x.first (write_more s x.more rest)) (at + length (write_element s x [])) rest 1 (at + 1)
  past_element el at x rest h valid =
      let r = past_more el 1 (at + 1) (at + 1 + length (write_component s x.first [])) x.more rest h valid.more in
      record {
        component = r.component;
        start_there = r.start_there;
        same =
            over_component el 1 (at + 1) (at + 1) x.first (write_more s x.more rest) valid.first ∙ r.same
            ∙ ap (λ (y : ℕ). seeks el r.component r.start_there y rest) (omega (arith, component_long s x.first (write_more s x.more [])));
      }

  -- past all that is left, where the component can no longer come
  past_elements : (el co start at : ℕ) (xs : List message.Element) (rest : List ℕ) → e ≤ el → is_here (seek el co start false) e c ≡ false → All ValidElement xs
      → seeks el co start at (write_elements s xs (s.terminator ∷ rest)) ≡ span (at + length (write_elements s xs [])) (at + length (write_elements s xs []))
  unfolding write_elements
  past_elements el co start at [] rest h not-here valid = at_terminator el co start at rest ∙ rw not-here (ap (λ (x : ℕ). span x x) (omega arith))
  past_elements el co start at (x ∷ xs) rest h not-here valid =
      let later : (el + 1 ≡ e → ⊥) = omega arith in
      let r = past_element (el + 1) at x (write_elements s xs (s.terminator ∷ rest)) later valid.0 in
      at_element el co start at _ ∙ rw not-here r.same
      ∙ past_elements (el + 1) r.component r.start_there (at + length (write_element s x [])) xs rest (omega arith) (other_element e c (el + 1) r.component r.start_there later) valid.1
      ∙ ap (λ (y : ℕ). span y y) (omega (arith, element_long s x (write_elements s xs [])))

  -- ---- in its element

  -- whatever comes next ends the component
  ends_here : (start at : ℕ) (vs : List message.Component) (xs : List message.Element) (rest : List ℕ)
      → seeks e c start at (write_more s vs (write_elements s xs (s.terminator ∷ rest))) ≡ span start at
  unfolding write_more write_elements
  ends_here start at [] [] rest = at_terminator e c start at rest ∙ rw (here e c start)
  ends_here start at [] (x ∷ xs) rest = at_element e c start at _ ∙ rw (here e c start)
  ends_here start at (v ∷ vs) xs rest = at_component e c start at _ ∙ rw (here e c start)

  -- component `co` starts here, and `left` more come before the one that is sought
  in_components : (left co at : ℕ) (v : message.Component) (vs : List message.Component) (xs : List message.Element) (rest : List ℕ) (total end : ℕ)
      → co + left ≡ c → ValidComponent v → All ValidComponent vs → All ValidElement xs
      → at + length (write_component s v (write_more s vs (write_elements s xs []))) ≡ end
      → seeks e co at at (write_component s v (write_more s vs (write_elements s xs (s.terminator ∷ rest)))) ≡ span_of total (place_in_components s end at left (v ∷ vs))
  unfolding write_more
  in_components zero co at v vs xs rest total end n valid valids others ends =
      let same : co ≡ c = omega arith in
      over_component e co at at v _ valid
      ∙ ap (λ (x : ℕ). seeks e x at (at + length (write_component s v [])) (write_more s vs (write_elements s xs (s.terminator ∷ rest)))) same
      ∙ ends_here at (at + length (write_component s v [])) vs xs rest
  in_components (suc left) co at v [] xs rest total end n valid valids others ends =
      over_component e co at at v _ valid
      ∙ past_elements e co at (at + length (write_component s v [])) xs rest (omega arith) (other_component e c co at (omega arith)) others
      ∙ ap (λ (x : ℕ). span x x) (omega (arith, component_long s v (write_elements s xs [])))
  in_components (suc left) co at v (w ∷ vs) xs rest total end n valid valids others ends =
      over_component e co at at v _ valid
      ∙ at_component e co at (at + length (write_component s v [])) _
      ∙ rw (other_component e c co at (omega arith))
      (in_components left (co + 1) (at + length (write_component s v []) + 1) w vs xs rest total end (omega arith) valids.0 valids.1 others
      (omega (arith, component_long s v (s.component ∷ write_component s w (write_more s vs (write_elements s xs []))))))

  -- ---- in its segment

  -- element `el` has been passed, and `left` more come before the one that is sought
  in_elements : (left el co start at : ℕ) (xs : List message.Element) (rest : List ℕ) (before total end : ℕ)
      → el + suc left ≡ e → 1 + before ≡ c → All ValidElement xs → at + length (write_elements s xs []) ≡ end
      → seeks el co start at (write_elements s xs (s.terminator ∷ rest)) ≡ span_of total (place_in_elements s end at left before xs)
  unfolding write_elements
  in_elements left el co start at [] rest before total end n m valid ends =
      at_terminator el co start at rest ∙ rw (other_element e c el co start (omega arith)) (ap (λ (x : ℕ). span x x) (omega arith))
  in_elements zero el co start at (x ∷ xs) rest before total end n m valid ends =
      let same : el + 1 ≡ e = omega arith in
      at_element el co start at _
      ∙ rw (other_element e c el co start (omega arith))
      (ap (λ (y : ℕ). seeks y 1 (at + 1) (at + 1) (write_component s x.first (write_more s x.more (write_elements s xs (s.terminator ∷ rest))))) same
      ∙ in_components before 1 (at + 1) x.first x.more xs rest total end m valid.0.first valid.0.more valid.1 (omega arith))
  in_elements (suc left) el co start at (x ∷ xs) rest before total end n m valid ends =
      let r = past_element (el + 1) at x (write_elements s xs (s.terminator ∷ rest)) (omega arith) valid.0 in
      at_element el co start at _
      ∙ rw (other_element e c el co start (omega arith)) r.same
      ∙ in_elements left (el + 1) r.component r.start_there (at + length (write_element s x [])) xs rest before total end (omega arith) m valid.1
      (omega (arith, element_long s x (write_elements s xs [])))

module _ (s : Service) (good : GoodService s) where
  pub span_in_segment : (bs : List ℕ) (at e c : ℕ) (g : message.Segment) → SegmentAt s bs at g
      → component_span s bs at e c ≡ span_of (length bs) (place_in s at g e c)
  span_in_segment bs at zero c g i = refl
  span_in_segment bs at (suc e) zero g i = rw (eqb-suc-zero e)
  span_in_segment bs at (suc e) (suc c) g i =
      let tail : drop (at + 3) bs ≡ write_elements s g.elements (s.terminator ∷ i.rest) = sym (drop-drop 3 at bs) ∙ ap (drop 3) i.same in
      rw (eqb-suc-zero e, eqb-suc-zero c)
      (ap (span_by s bs at (suc e) (suc c)) (end_of_segment s good bs at g i)
      ∙ ap (seek_on s (suc e) (suc c) (seek 0 0 (at + 3) false) (at + 3)) tail
      ∙ in_elements s good (suc e) (suc c) e 0 0 (at + 3) (at + 3) g.elements i.rest c (length bs) (end_of s at g) (omega arith) (omega arith) i.valid.elements refl)

  pub span_of_none : (bs : List ℕ) (at e c : ℕ) → NoSegmentAt s bs at → component_span s bs at e c ≡ span (length bs) (length bs)
  span_of_none bs at zero c none-there = refl
  span_of_none bs at (suc e) zero none-there = rw (eqb-suc-zero e)
  span_of_none bs at (suc e) (suc c) none-there =
      rw (eqb-suc-zero e, eqb-suc-zero c) (ap (span_by s bs at (suc e) (suc c)) (end_of_none s good bs at none-there))

  -- the law: a component's span is that of the place where it lies
  pub lies_at : (bs : List ℕ) (at e c : ℕ) (p : ComponentPlace) → Lies s bs at e c p → component_span s bs at e c ≡ span_of (length bs) p
  lies_at bs at e c p (in_segment g i) = span_in_segment bs at e c g i
  lies_at bs at e c p (no_segment none-there) = span_of_none bs at e c none-there

  -- and it lies somewhere
  pub lies : (bs : List ℕ) (at e c : ℕ) → (p : ComponentPlace) × Lies s bs at e c p
  lies bs at e c =
      ⊎_elim (λ f. (place_in s at f.0 e c, in_segment f.0 f.1)) (λ none-there. (nowhere, no_segment none-there)) (segment_or_none s good bs at)
