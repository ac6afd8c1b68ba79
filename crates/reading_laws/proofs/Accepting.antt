-- What a scan accepts is how a valid message of so many segments is written, and all of that.
use Prim.Native.Nat.{ℕ, ◌+◌, ◌<◌}
use native.Mathlib.Omega.{arith}
use mathlib.Core.Path.{◌≡◌, refl, ap, ◌∙◌}
use mathlib.Core.List.{List, [], ◌∷◌}
use mathlib.Core.Option.{some, none}
use mathlib.Core.Bool.{Bool, true, false, ◌&&◌}
use lib.Dec.{ltb}
use lib.ListN.{length}
use borrow.Author.Tests.{lt-ltb, ltb-true}
use Rattle.reading.specs.meaning.Service.{All, GoodService}
use Rattle.reading.specs.meaning.Message.{Message, ValidSegment, write_segment, write_segments}
use Rattle.reading.specs.meaning.WellFormed.{WellFormed}
use Rattle.reading.specs.method.Outcome.{Segments, BadAt}
use Rattle.reading_laws.specs.laws.Outcome.{Means}
use Rattle.reading.specs.method.Machine.{pick, stepped, is_start, is_dead, ended, finished, scan_on, scanned}
use Rattle.reading.specs.declared.service.Service.{Service}
use Rattle.reading.specs.declared.machine.State.{State}
use Rattle.reading.specs.declared.machine.State.TheVariants.{Start}
use Rattle.reading.proofs.States.{Course, ends, goes_on, fails, course, none_ended}
use Rattle.reading.proofs.Scanning.{bad_segments, segments_is}
use Rattle.reading_laws.proofs.Segments.{behind, behind_step, none_some, some_is, behind_segment, segment_behind}

module _ (s : Service) where
  -- a scan that goes on from somewhere: the place does not matter to what is accepted
  pub record GoesOn (p : State) (n : ℕ) (at : ℕ) (bs : List ℕ) (q : State) (m : ℕ) (rest : List ℕ) : Type 0 where
    pub there : ℕ
    pub same : scan_on s p n at bs ≡ scan_on s q m there rest

  pub on_step : (p q : State) (n at b : ℕ) (bs : List ℕ) → stepped s p b ≡ q
      → scan_on s p n at (b ∷ bs) ≡ pick (is_dead q) (BadAt at) (scan_on s q (ended q n) (at + 1) bs)
  unfolding scan_on
  on_step p q n at b bs e = ap (λ (x : State). pick (is_dead x) (BadAt at) (scan_on s x (ended x n) (at + 1) bs)) e

  -- ---- over a segment

  over_segment : (p : State) (n at : ℕ) (bs rest : List ℕ) → behind s p bs ≡ some rest → GoesOn p n at bs Start (n + 1) rest
  unfolding behind
  over_segment p n at [] rest e = absurd (none_some e)
  over_segment p n at (b ∷ bs) rest e = go (course (stepped s p b)) refl (λ q. over_segment q n (at + 1) bs rest) e
    where
      further : (q : State) → stepped s p b ≡ q → is_start q ≡ false → is_dead q ≡ false → GoesOn q n (at + 1) bs Start (n + 1) rest → GoesOn p n at (b ∷ bs) Start (n + 1) rest
      further q h t d g = record { there = g.there; same = on_step p q n at b bs h ∙ rw (d, none_ended q n t) g.same }

      go : {q : State} → Course q → stepped s p b ≡ q → ((x : State) → behind s x bs ≡ some rest → GoesOn x n (at + 1) bs Start (n + 1) rest)
          → pick (is_start q) (some bs) (pick (is_dead q) none (behind s q bs)) ≡ some rest → GoesOn p n at (b ∷ bs) Start (n + 1) rest
      go ends h ih e = record { there = at + 1; same = on_step p Start n at b bs h ∙ ap (scan_on s Start (n + 1) (at + 1)) (some_is e) }
      go (goes_on t d) h ih e = further _ h t d (ih _ (rw (t, d) at e))
      go fails h ih e = absurd (none_some e)

module _ (s : Service) (good : GoodService s) where
  -- ---- what is written is accepted

  over_segments : (n at : ℕ) (m : Message) → All ValidSegment m → GoesOn s Start n at (write_segments s m []) Start (n + length m) []
  unfolding write_segments
  over_segments n at [] v = record { there = at; same = ap (λ (x : ℕ). scan_on s Start x at []) (omega arith) }
  over_segments n at (g ∷ m) v =
      let here = over_segment s Start n at (write_segment s g (write_segments s m [])) _ (behind_segment s good g (write_segments s m []) v.0) in
      let later = over_segments (n + 1) here.there m v.1 in
      record { there = later.there; same = here.same ∙ later.same ∙ ap (λ (x : ℕ). scan_on s Start x later.there []) (omega arith) }

  pub accepts : (bs : List ℕ) (w : WellFormed s bs) → scanned s bs ≡ Segments (length w.message)
  unfolding scan_on
  accepts bs w =
      let g = over_segments 0 0 w.message w.valid.segments in
      let n : 0 + length w.message ≡ length w.message = omega arith in
      ap (scanned s) w.same ∙ g.same
      ∙ ap (λ (x : ℕ). finished Start x g.there) n ∙ rw (lt-ltb 0 (length w.message) w.valid.non_empty)

  -- ---- what is accepted is written

  record FromStart (n k : ℕ) (bs : List ℕ) : Type 0 where
    message : Message
    valid : All ValidSegment message
    count : n + length message ≡ k
    same : bs ≡ write_segments s message []

  -- in the midst of a segment: its terminator, and the segments behind it
  record InSegment (p : State) (n k : ℕ) (bs : List ℕ) : Type 0 where
    rest : List ℕ
    found : behind s p bs ≡ some rest
    after : FromStart (n + 1) k rest

  abbrev FollowsBy : Bool → State → ℕ → ℕ → List ℕ → Type 0
  FollowsBy true p n k bs = FromStart n k bs
  FollowsBy false p n k bs = InSegment p n k bs

  abbrev Follows : State → ℕ → ℕ → List ℕ → Type 0
  Follows p n k bs = FollowsBy (is_start p) p n k bs

  whole : {p : State} → Course p → (n k : ℕ) (bs : List ℕ) → InSegment p n k bs → Follows p n k bs
  unfolding write_segments
  whole ends n k bs i =
      let g = segment_behind s good bs i.rest i.found in
      record {
        message = g.segment ∷ i.after.message;
        valid = (g.valid, i.after.valid);
        count = let c = i.after.count in omega arith;
        same = g.same ∙ ap (write_segment s g.segment) i.after.same;
      }
  whole (goes_on t d) n k bs i = rw t i
  whole fails n k bs i = i

  at_end : {p : State} → Course p → (n k at : ℕ) → finished p n at ≡ Segments k → Follows p n k []
  unfolding write_segments
  at_end ends n k at e = go (ltb 0 n) e
    where
      go : (t : Bool) → pick t (Segments n) (BadAt at) ≡ Segments k → FromStart n k []
      go true e = record { message = []; valid = tt; count = let h : n ≡ k = segments_is e in omega arith; same = refl }
      go false e = absurd (bad_segments e)
  at_end (goes_on t d) n k at e = absurd (bad_segments (rw t at e))
  at_end fails n k at e = absurd (bad_segments e)

  a_byte_more : (p q : State) (n k b : ℕ) (bs : List ℕ) → stepped s p b ≡ q → is_start q ≡ false → is_dead q ≡ false → InSegment q n k bs → InSegment p n k (b ∷ bs)
  a_byte_more p q n k b bs h t d i = record { rest = i.rest; found = behind_step s p q b bs h ∙ rw (t, d) i.found; after = i.after }

  on_byte : (p : State) {q : State} → Course q → (n k at b : ℕ) (bs : List ℕ) → stepped s p b ≡ q
      → (scan_on s q (ended q n) (at + 1) bs ≡ Segments k → Follows q (ended q n) k bs)
      → pick (is_dead q) (BadAt at) (scan_on s q (ended q n) (at + 1) bs) ≡ Segments k → InSegment p n k (b ∷ bs)
  on_byte p ends n k at b bs h ih e = record { rest = bs; found = behind_step s p Start b bs h; after = ih e }
  on_byte p (goes_on t d) n k at b bs h ih e = a_byte_more p _ n k b bs h t d (rw t at (ih (rw d at e)))
  on_byte p fails n k at b bs h ih e = absurd (bad_segments e)

  follows : (p : State) (n k at : ℕ) (bs : List ℕ) → scan_on s p n at bs ≡ Segments k → Follows p n k bs
  unfolding scan_on
  follows p n k at [] e = at_end (course p) n k at e
  follows p n k at (b ∷ bs) e =
      whole (course p) n k (b ∷ bs) (on_byte p (course (stepped s p b)) n k at b bs refl (follows (stepped s p b) (ended (stepped s p b) n) k (at + 1) bs) e)

  some_segment : (p : State) (n k at : ℕ) (bs : List ℕ) → scan_on s p n at bs ≡ Segments k → 0 < k
  unfolding scan_on
  some_segment p n k at [] e = go (is_start p) (ltb 0 n) refl e
    where
      go : (t u : Bool) → ltb 0 n ≡ u → pick (t && u) (Segments n) (BadAt at) ≡ Segments k → 0 < k
      go true true h e = let i : n ≡ k = segments_is e in omega (arith, ltb-true 0 n h)
      go true false h e = absurd (bad_segments e)
      go false true h e = absurd (bad_segments e)
      go false false h e = absurd (bad_segments e)
  some_segment p n k at (b ∷ bs) e = go (is_dead (stepped s p b)) (some_segment (stepped s p b) (ended (stepped s p b) n) k (at + 1) bs) e
    where
      go : (t : Bool) → (scan_on s (stepped s p b) (ended (stepped s p b) n) (at + 1) bs ≡ Segments k → 0 < k)
          → pick t (BadAt at) (scan_on s (stepped s p b) (ended (stepped s p b) n) (at + 1) bs) ≡ Segments k → 0 < k
      go true ih e = absurd (bad_segments e)
      go false ih e = ih e

  pub accepted : (bs : List ℕ) (n : ℕ) → scanned s bs ≡ Segments n → Means s bs (Segments n)
  accepted bs n e =
      let f = follows Start 0 n 0 bs e in
      let c : length f.message ≡ n = let c = f.count in omega arith in
      (record { message = f.message; valid = record { segments = f.valid; non_empty = let h = some_segment Start 0 n 0 bs e in omega arith }; same = f.same }, c)
