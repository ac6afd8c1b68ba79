-- Laws scan_accepts and first_bad: a scan answers n exactly when the bytes are a message of n segments, and a place exactly
-- when that place is number 4's. A "can" is shown by an explicit completion for each live state, a "cannot" by a state that
-- has none.
use Prim.Native.Nat.{ℕ, zero, suc, ◌+◌, ◌≤◌, ◌<◌}
use native.Mathlib.Omega.{arith}
use native.Mathlib.Decide.{dec_lt}
use mathlib.Core.Path.{◌≡◌, refl, sym, ap, ◌∙◌}
use mathlib.Core.List.{List, [], ◌∷◌, ◌++◌}
use mathlib.Core.Bool.{Bool, true, false, ◌&&◌, true≢false, false≢true}
use mathlib.Core.Logic.{dite, ◌↔◌}
use lib.Dec.{ltb}
use lib.ListN.{length, take}
use borrow.Author.Tests.{lt-ltb}
use Rattle.reading.specs.meaning.Service.{GoodService, is_data, is_tag_byte, is_word_byte}
use Rattle.reading.specs.meaning.WellFormed.{WellFormed, Begins, FirstBad}
use Rattle.reading.specs.method.Outcome.{Outcome, Segments, BadAt}
use Rattle.reading_laws.specs.laws.Outcome.{Means}
use Rattle.reading.specs.method.Machine.{pick, kind_of, after_tag, after_tagged, after_opened, after_parted, after_inside, after_released, stepped, is_start, is_dead, ended, scan_on, scanned}
use Rattle.reading.specs.declared.service.Service.{Service}
use Rattle.reading.specs.declared.bytes.Kind.TheVariants.{Plain}
use Rattle.reading.specs.declared.machine.State.{State}
use Rattle.reading.specs.declared.machine.State.TheVariants.{Start, Second, Third, Tagged, Opened, Parted, Inside, Released, Dead}
use Rattle.reading_laws.proofs.Services.{kind_release, kind_terminator, kind_word}
use Rattle.reading.proofs.States.{Course, ends, goes_on, fails, course}
use Rattle.reading.proofs.Scanning.{bad_segments}
use Rattle.reading_laws.proofs.Accepting.{on_step, accepts, accepted}

bad_is : {j k : ℕ} → BadAt j ≡ BadAt k → j ≡ k
bad_is e = cc

is_dead_lem : {p : State} → Course p → is_dead p ≡ true → p ≡ Dead
is_dead_lem ends e = absurd (false≢true e)
is_dead_lem (goes_on t d) e = absurd (true≢false (sym e ∙ d))
is_dead_lem fails e = refl

module _ (s : Service) where
  -- the state after some bytes
  unfoldable pub after : State → List ℕ → State
  after p [] = p
  after p (b ∷ bs) = after (stepped s p b) bs

  after_dead : (bs : List ℕ) → after Dead bs ≡ Dead
  unfolding after
  after_dead [] = refl
  after_dead (b ∷ bs) = after_dead bs

  -- a live state comes of live ones
  alive_first : (p : State) (bs : List ℕ) → is_dead (after p bs) ≡ false → is_dead p ≡ false
  alive_first p bs e = go (is_dead p) refl
    where
      go : (t : Bool) → is_dead p ≡ t → t ≡ false
      go true h = absurd (true≢false (sym (ap (λ (q : State). is_dead (after q bs)) (is_dead_lem (course p) h) ∙ ap is_dead (after_dead bs)) ∙ e))
      go false h = refl

  alive_take : (p : State) (i j : ℕ) (bs : List ℕ) → i ≤ j → is_dead (after p (take j bs)) ≡ false → is_dead (after p (take i bs)) ≡ false
  unfolding after
  alive_take p zero j bs h e = alive_first p (take j bs) e
  alive_take p (suc i) zero bs h e = absurd (omega arith)
  alive_take p (suc i) (suc j) [] h e = e
  alive_take p (suc i) (suc j) (b ∷ bs) h e = alive_take (stepped s p b) i j bs (omega arith) e

  -- ---- a scan over a first part

  pub from_dead : (n at : ℕ) (bs : List ℕ) → scan_on s Dead n at bs ≡ BadAt at
  unfolding scan_on
  from_dead n at [] = refl
  from_dead n at (b ∷ bs) = refl

  pub record Reaches (p : State) (n at : ℕ) (xs ys : List ℕ) : Type 0 where
    pub segments : ℕ
    pub there : ℕ
    pub same : scan_on s p n at (xs ++ ys) ≡ scan_on s (after p xs) segments there ys

  -- over live states a scan goes on
  over_live : (p : State) (n at : ℕ) (xs ys : List ℕ) → is_dead (after p xs) ≡ false → Reaches p n at xs ys
  unfolding after
  over_live p n at [] ys e = record { segments = n; there = at; same = refl }
  over_live p n at (x ∷ xs) ys e =
      let q = stepped s p x in
      let r = over_live q (ended q n) (at + 1) xs ys e in
      record {
        segments = r.segments;
        there = r.there;
        same = on_step s p q n at x (xs ++ ys) refl ∙ rw (alive_first q xs e) r.same;
      }

  -- past a dead one it has answered
  over_dead : (p : State) (n at : ℕ) (xs ys : List ℕ) → is_dead (after p xs) ≡ true → (k : ℕ) × (scan_on s p n at (xs ++ ys) ≡ BadAt k)
  unfolding after
  over_dead p n at [] ys e = (at, ap (λ (q : State). scan_on s q n at ys) (is_dead_lem (course p) e) ∙ from_dead n at ys)
  over_dead p n at (x ∷ xs) ys e = go (is_dead (stepped s p x)) refl (over_dead (stepped s p x) (ended (stepped s p x) n) (at + 1) xs ys e)
    where
      go : (t : Bool) → is_dead (stepped s p x) ≡ t → (k : ℕ) × (scan_on s (stepped s p x) (ended (stepped s p x) n) (at + 1) (xs ++ ys) ≡ BadAt k)
          → (k : ℕ) × (scan_on s p n at (x ∷ (xs ++ ys)) ≡ BadAt k)
      go true h r = (at, on_step s p (stepped s p x) n at x (xs ++ ys) refl ∙ rw h)
      go false h r = (r.0, on_step s p (stepped s p x) n at x (xs ++ ys) refl ∙ rw h r.1)

  -- ---- where a scan has answered a place, it died there, or at the end it was not done

  record Died (p : State) (j : ℕ) (bs : List ℕ) : Type 0 where
    within : j ≤ length bs
    alive : is_dead (after p (take j bs)) ≡ false
    dead : j < length bs → is_dead (after p (take (suc j) bs)) ≡ true

  died : (p : State) (n at k : ℕ) (bs : List ℕ) → is_dead p ≡ false → scan_on s p n at bs ≡ BadAt k → (j : ℕ) × (at + j ≡ k) × Died p j bs
  unfolding scan_on after
  died p n at k [] a e = (0, ended-there (is_start p) (ltb 0 n) e, record { within = omega arith; alive = a; dead = λ h. absurd (omega arith) })
    where
      ended-there : (t u : Bool) → pick (t && u) (Segments n) (BadAt at) ≡ BadAt k → at + 0 ≡ k
      ended-there true true e = absurd (bad_segments (sym e))
      ended-there true false e = let h : at ≡ k = bad_is e in omega arith
      ended-there false true e = let h : at ≡ k = bad_is e in omega arith
      ended-there false false e = let h : at ≡ k = bad_is e in omega arith
  died p n at k (b ∷ bs) a e = go (is_dead (stepped s p b)) refl (died (stepped s p b) (ended (stepped s p b) n) (at + 1) k bs) e
    where
      go : (t : Bool) → is_dead (stepped s p b) ≡ t
          → (is_dead (stepped s p b) ≡ false → scan_on s (stepped s p b) (ended (stepped s p b) n) (at + 1) bs ≡ BadAt k → (j : ℕ) × (at + 1 + j ≡ k) × Died (stepped s p b) j bs)
          → pick t (BadAt at) (scan_on s (stepped s p b) (ended (stepped s p b) n) (at + 1) bs) ≡ BadAt k → (j : ℕ) × (at + j ≡ k) × Died p j (b ∷ bs)
      go true h ih e = (0, let x : at ≡ k = bad_is e in omega arith, record { within = omega arith; alive = a; dead = λ _. h })
      go false h ih e =
          let r = ih h e in
          let d = r.2 in (
            suc r.0,
            let x = r.1 in omega arith,
            record { within = let w = d.within in omega arith; alive = d.alive; dead = λ l. d.dead (omega arith) },
          )

module _ (s : Service) (good : GoodService s) where
  -- ---- each live state has a completion: 65 is 'A', a tag byte and a data byte

  completion : State → List ℕ
  completion Start = 65 ∷ 65 ∷ 65 ∷ s.terminator ∷ []
  completion Second = 65 ∷ 65 ∷ s.terminator ∷ []
  completion Third = 65 ∷ s.terminator ∷ []
  completion Tagged = s.terminator ∷ []
  completion Opened = 65 ∷ s.terminator ∷ []
  completion Parted = 65 ∷ s.terminator ∷ []
  completion Inside = s.terminator ∷ []
  completion Released = s.release ∷ s.terminator ∷ []
  completion Dead = []

  tag_A : is_tag_byte 65 ≡ true
  unfolding is_tag_byte
  tag_A = refl

  data_A : kind_of s 65 ≡ Plain
  unfolding is_word_byte is_data
  data_A = kind_word s good 65 refl refl

  done : (n at : ℕ) → scan_on s Start (n + 1) at [] ≡ Segments (n + 1)
  unfolding scan_on
  done n at = rw (lt-ltb 0 (n + 1) (omega arith))

  from_tagged : (n at : ℕ) → scan_on s Tagged n at (completion Tagged) ≡ Segments (n + 1)
  unfolding completion
  from_tagged n at = on_step s Tagged Start n at s.terminator [] (ap after_tagged (kind_terminator s good)) ∙ done n (at + 1)

  from_inside : (n at : ℕ) → scan_on s Inside n at (completion Inside) ≡ Segments (n + 1)
  unfolding completion
  from_inside n at = on_step s Inside Start n at s.terminator [] (ap after_inside (kind_terminator s good)) ∙ done n (at + 1)

  from_third : (n at : ℕ) → scan_on s Third n at (completion Third) ≡ Segments (n + 1)
  unfolding completion
  from_third n at = on_step s Third Tagged n at 65 _ (ap (λ (t : Bool). after_tag t Tagged) tag_A) ∙ from_tagged n (at + 1)

  from_second : (n at : ℕ) → scan_on s Second n at (completion Second) ≡ Segments (n + 1)
  unfolding completion
  from_second n at = on_step s Second Third n at 65 _ (ap (λ (t : Bool). after_tag t Third) tag_A) ∙ from_third n (at + 1)

  completes : (p : State) (n at : ℕ) → is_dead p ≡ false → scan_on s p n at (completion p) ≡ Segments (n + 1)
  unfolding completion
  completes Start n at e = on_step s Start Second n at 65 _ (ap (λ (t : Bool). after_tag t Second) tag_A) ∙ from_second n (at + 1)
  completes Second n at e = from_second n at
  completes Third n at e = from_third n at
  completes Tagged n at e = from_tagged n at
  completes Opened n at e = on_step s Opened Inside n at 65 _ (ap after_opened data_A) ∙ from_inside n (at + 1)
  completes Parted n at e = on_step s Parted Inside n at 65 _ (ap after_parted data_A) ∙ from_inside n (at + 1)
  completes Inside n at e = from_inside n at
  completes Released n at e = on_step s Released Inside n at s.release _ (ap after_released (kind_release s good)) ∙ from_inside n (at + 1)
  completes Dead n at e = absurd (true≢false e)

  pub live_begins : (bs : List ℕ) → is_dead (after s Start bs) ≡ false → Begins s bs
  live_begins bs e =
      let rest = completion (after s Start bs) in
      let r = over_live s Start 0 0 bs rest e in
      (rest, (accepted s good (bs ++ rest) (r.segments + 1) (r.same ∙ completes (after s Start bs) r.segments r.there e)).0)

  pub dead_begins_not : (bs : List ℕ) → is_dead (after s Start bs) ≡ true → Begins s bs → ⊥
  dead_begins_not bs e b = bad_segments (sym (over_dead s Start 0 0 bs b.0 e).1 ∙ accepts s good (bs ++ b.0) b.1)

  -- ---- the law

  first_bad_at : (bs : List ℕ) (k : ℕ) → scanned s bs ≡ BadAt k → FirstBad s bs k
  first_bad_at bs k e =
      let r = died s Start 0 0 k bs refl e in
      let d = r.2 in
      let same : r.0 ≡ k = let x = r.1 in omega arith in
      let bad : FirstBad s bs r.0 = record {
        ill_formed = λ w. bad_segments (sym e ∙ accepts s good bs w);
        within = d.within;
        before = λ j h. live_begins (take (suc j) bs) (alive_take s Start (suc j) r.0 bs h d.alive);
        there = λ h. dead_begins_not (take (suc r.0) bs) (d.dead h);
      } in
      rw same at bad

  later : (bs : List ℕ) (j k : ℕ) → FirstBad s bs j → FirstBad s bs k → j < k → ⊥
  later bs j k f g h = f.there (let w = g.within in omega arith) (g.before j h)

  -- there is one such place
  pub one_first_bad : (bs : List ℕ) (j k : ℕ) → FirstBad s bs j → FirstBad s bs k → j ≡ k
  one_first_bad bs j k f g =
      dite (dec_lt j k) (λ h. absurd (later bs j k f g h)) (λ h. dite (dec_lt k j) (λ l. absurd (later bs k j g f l)) (λ l. omega arith))

  -- what a scan answers is what its answer means
  pub scan_means : (bs : List ℕ) → Means s bs (scanned s bs)
  scan_means bs = go (scanned s bs) refl
    where
      go : (r : Outcome) → scanned s bs ≡ r → Means s bs r
      go (Segments n) e = accepted s good bs n e
      go (BadAt k) e = first_bad_at bs k e

  pub means_scan : (bs : List ℕ) (r : Outcome) → Means s bs r → scanned s bs ≡ r
  means_scan bs (Segments n) m = accepts s good bs m.0 ∙ ap Segments m.1
  means_scan bs (BadAt k) m = go (scanned s bs) refl
    where
      go : (r : Outcome) → scanned s bs ≡ r → r ≡ BadAt k
      go (Segments n) e = absurd (m.ill_formed (accepted s good bs n e).0)
      go (BadAt j) e = ap BadAt (one_first_bad bs j k (first_bad_at bs j e) m)

  -- the laws, both ways: each answer is given exactly when it is right
  pub scan_right : (bs : List ℕ) (r : Outcome) → (scanned s bs ≡ r) ↔ Means s bs r
  scan_right bs r = (λ e. rw e at (scan_means bs), means_scan bs r)

  pub scan_accepts : (bs : List ℕ) (n : ℕ) → (scanned s bs ≡ Segments n) ↔ ((w : WellFormed s bs) × (length w.message ≡ n))
  scan_accepts bs n = scan_right bs (Segments n)

  pub first_bad : (bs : List ℕ) (k : ℕ) → (scanned s bs ≡ BadAt k) ↔ FirstBad s bs k
  first_bad bs k = scan_right bs (BadAt k)
