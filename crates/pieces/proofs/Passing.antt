-- Bytes that are passed at once: what they make of progress and table is what their bytes make of it one by one.
use Prim.Native.Nat.{ℕ, suc, ◌+◌, ◌-◌, ◌≤◌, ◌<◌}
use native.Mathlib.Omega.{arith}
use native.Mathlib.Numerals.{add-one}
use mathlib.Core.Path.{◌≡◌, refl, sym, ap, ap₂, ◌∙◌}
use mathlib.Core.List.{List, [], ◌∷◌, ◌++◌}
use mathlib.Core.Bool.{Bool, true, false, true≢false, cond, ◌&&◌}
use lib.Dec.{eqb, ltb}
use lib.ListN.{length, get_or, set, take, drop, length-drop, length-set, drop_of_length-le, take-append-drop}
use lib.Seq.{drop-cons, drop-drop, length-take-le}
use borrow.Author.Tests.{eq-eqb, ltb-true, lt-ltb, le-ltb, le-leb, lt-leb}
use Rattle.reading.specs.method.Machine.{pick, kind_of, is_text, stepped, is_start, is_dead, end_on, segment_end}
use Rattle.reading.specs.method.Kept as marks
use Rattle.reading.specs.meaning.Service.{must_release}
use Rattle.reading.specs.declared.service.Service.{Service}
use Rattle.reading.specs.declared.machine.State.{State}
use Rattle.reading.specs.declared.machine.State.TheVariants.{Start, Second, Third, Tagged, Opened, Parted, Inside, Released, Dead}
use Rattle.std.specs.Prelude.{Some, None}
use Rattle.reading.proofs.States.{Course, ends, goes_on, fails, course}
use Rattle.reading.proofs.Ending.{at_is, not_at, held_step, text_held, after_release}
use Rattle.slices.specs.method.Entries.{entry}
use Rattle.framing.specs.meaning.Limits.{most_bytes, most_segments}
use Rattle.pieces.specs.declared.progress.Progress.{Progress}
use Rattle.pieces.specs.declared.piece.Stop.{Stop}
use Rattle.pieces.specs.method.Progress.{with_start, segment_ended, failed_at, gone_on, Held, held, held_by, held_after}
use Rattle.pieces.specs.method.Stops.{stops, stop, pass_on, is_held, after_text, PassesData}

-- ---- a segment that is found whole

pub end_passes : (s : Service) (p : State) (at end : ℕ) (bs : List ℕ) → end_on s p at bs ≡ Some end → pass_on s p at bs ≡ stop Start end
unfolding end_on pass_on
end_passes s p at end [] e = absurd (not_at e)
end_passes s p at end (b ∷ bs) e = go (course (stepped s p b)) (λ q. end_passes s q (at + 1) end bs) e
  where
    go : {q : State} → Course q → ((x : State) → end_on s x (at + 1) bs ≡ Some end → pass_on s x (at + 1) bs ≡ stop Start end)
        → pick (is_start q) (Some at) (pick (is_dead q) None (end_on s q (at + 1) bs)) ≡ Some end
        → cond (stops q) (stop q at) (pass_on s q (at + 1) bs) ≡ stop Start end
    go ends ih h = ap (stop Start) (at_is h)
    go (goes_on t d) ih h = rw (t, d) (ih _ (rw (t, d) at h))
    go fails ih h = absurd (not_at h)

-- ---- one byte

module _ (s : Service) (p : Progress) (table : List ℕ) (b : ℕ) (few : p.bytes < most_bytes) where
  pub by_end : stepped s p.state b ≡ Start
      → held_by s (held p table) b ≡ held (segment_ended p (length table) (p.bytes + 1)) (with_start p.segments p.start table)
  by_end e = rw (lt-ltb p.bytes most_bytes few, e) refl

  pub by_fault : stepped s p.state b ≡ Dead → held_by s (held p table) b ≡ held (failed_at p p.bytes (p.bytes + 1)) table
  by_fault e = rw (lt-ltb p.bytes most_bytes few, e) refl

  pub by_other : is_start (stepped s p.state b) ≡ false → is_dead (stepped s p.state b) ≡ false
      → held_by s (held p table) b ≡ held (gone_on p (stepped s p.state b) (p.bytes + 1)) table
  by_other t d = rw (lt-ltb p.bytes most_bytes few, t, d) refl

-- ---- past a fault

-- what is alive was so before
pub alive_before : (s : Service) {p : State} → Course p → (b : ℕ) → is_dead (stepped s p b) ≡ false → is_dead p ≡ false
alive_before s ends b e = refl
alive_before s (goes_on t d) b e = d
alive_before s fails b e = absurd (true≢false e)

-- nothing but the count of bytes moves
past_fault : (s : Service) (p : Progress) (table bs : List ℕ) (at : ℕ) → p.bytes + length bs ≤ most_bytes
    → held_after s (held (failed_at p at p.bytes) table) bs ≡ held (failed_at p at (p.bytes + length bs)) table
unfolding held_after
past_fault s p table [] at h = let n : p.bytes ≡ p.bytes + 0 = omega arith in ap (λ (m : ℕ). held (failed_at p at m) table) n
past_fault s p table (b ∷ bs) at h =
    let now : Progress = failed_at p at p.bytes in
    let next : Progress = failed_at p at (p.bytes + 1) in
    let n : p.bytes + 1 + length bs ≡ p.bytes + suc (length bs) = omega arith in
    ap (λ (x : Held). held_after s x bs) (by_fault s now table b (omega arith) refl)
    ∙ past_fault s next table bs at (omega arith)
    ∙ ap (λ (m : ℕ). held (failed_at p at m) table) n

-- ---- to where the machine stops

stop_state : {p q : State} {at end : ℕ} → stop p at ≡ stop q end → p ≡ q
stop_state e = ap (λ (x : Stop). x.state) e

stop_at : {p q : State} {at end : ℕ} → stop p at ≡ stop q end → at ≡ end
stop_at e = ap (λ (x : Stop). x.at) e

-- from progress p, before bytes that begin at `at`, the machine stops at `end` in state q
pub record Passes (s : Service) (p : Progress) (table : List ℕ) (at : ℕ) (bs : List ℕ) (q : State) (end : ℕ) : Type 0 where
  pub onward : at ≤ end
  pub within : end ≤ at + length bs
  pub ended : end < at + length bs → is_dead q ≡ false
      → held_after s (held p table) bs
      ≡ held_after s (held (segment_ended p (length table) (p.bytes + (end - at) + 1)) (with_start p.segments p.start table)) (drop (end + 1 - at) bs)
  pub failed : end < at + length bs → is_dead q ≡ true
      → held_after s (held p table) bs ≡ held (failed_at p (p.bytes + (end - at)) (p.bytes + length bs)) table
  pub gone_on_lem : at + length bs ≤ end → held_after s (held p table) bs ≡ held (gone_on p q (p.bytes + length bs)) table

pub passes : (s : Service) (p : Progress) (table : List ℕ) (at : ℕ) (bs : List ℕ) (q : State) (end : ℕ) → p.bytes + length bs ≤ most_bytes
    → pass_on s p.state at bs ≡ stop q end → Passes s p table at bs q end
unfolding pass_on held_after
passes s p table at [] q end h e =
    let same : at ≡ end = stop_at e in
    let n : p.bytes ≡ p.bytes + 0 = omega arith in
    record {
      onward = omega arith;
      within = omega arith;
      ended = λ less d. absurd (omega arith);
      failed = λ less d. absurd (omega arith);
      gone_on_lem = λ more. ap₂ (λ (x : State) (m : ℕ). held (gone_on p x m) table) (stop_state e) n;
    }
passes s p table at (b ∷ bs) q end h e =
    go (course (stepped s p.state b)) (λ x i. passes s (gone_on p x (p.bytes + 1)) table (at + 1) bs q end (omega arith) i) refl e
  where
    few : p.bytes < most_bytes
    few = omega arith

    -- over a byte behind which a segment goes on
    over : (x : State) → is_start x ≡ false → is_dead x ≡ false → stepped s p.state b ≡ x
        → Passes s (gone_on p x (p.bytes + 1)) table (at + 1) bs q end → Passes s p table at (b ∷ bs) q end
    over x t d i rest =
        let before = alive_before s (course p.state) b (ap is_dead i ∙ d) in
        let moved = by_other s p table b few (ap is_start i ∙ t) (ap is_dead i ∙ d) ∙ ap (λ (y : State). held (gone_on p y (p.bytes + 1)) table) i in
        let o = rest.onward in
        let w = rest.within in
        let behind : p.bytes + 1 + (end - (at + 1)) ≡ p.bytes + (end - at) = omega arith in
        let all : p.bytes + 1 + length bs ≡ p.bytes + suc (length bs) = omega arith in
        let over-one : end + 1 - at ≡ suc (end + 1 - (at + 1)) = omega arith in
        record {
          onward = omega arith;
          within = omega arith;
          ended = λ less f. ap (λ (y : Held). held_after s y bs) moved ∙ rest.ended (omega arith) f
              ∙ ap₂
              (λ (m : ℕ) (ys : List ℕ). held_after s (held (segment_ended p (length table) (m + 1)) (with_start p.segments p.start table)) ys)
              behind
              (sym (ap (λ (m : ℕ). drop m (b ∷ bs)) over-one));
          failed = λ less f. ap (λ (y : Held). held_after s y bs) moved ∙ rest.failed (omega arith) f
              ∙ ap₂ (λ (m : ℕ) (k : ℕ). held (failed_at (gone_on p x (p.bytes + 1)) m k) table) behind all
              ∙ rw (d, before) refl;
          gone_on_lem = λ more. ap (λ (y : Held). held_after s y bs) moved ∙ rest.gone_on_lem (omega arith) ∙ ap (λ (m : ℕ). held (gone_on p q m) table) all;
        }

    go : {x : State} → Course x
        → ((y : State) → pass_on s y (at + 1) bs ≡ stop q end → Passes s (gone_on p y (p.bytes + 1)) table (at + 1) bs q end)
        → stepped s p.state b ≡ x → cond (stops x) (stop x at) (pass_on s x (at + 1) bs) ≡ stop q end
        → Passes s p table at (b ∷ bs) q end
    go ends ih i j =
        let same : at ≡ end = stop_at j in
        let behind : p.bytes + 1 ≡ p.bytes + (end - at) + 1 = omega arith in
        let one : end + 1 - at ≡ 1 = omega arith in
        record {
          onward = omega arith;
          within = omega arith;
          ended = λ less d. ap (λ (y : Held). held_after s y bs) (by_end s p table b few i)
              ∙ ap₂
              (λ (m : ℕ) (ys : List ℕ). held_after s (held (segment_ended p (length table) m) (with_start p.segments p.start table)) ys)
              behind
              (sym (ap (λ (m : ℕ). drop m (b ∷ bs)) one));
          failed = λ less d. absurd (true≢false (sym d ∙ sym (ap is_dead (stop_state j))));
          gone_on_lem = λ more. absurd (omega arith);
        }
    go {x} (goes_on t d) ih i j = over x t d i (ih x (rw (t, d) at j))
    go fails ih i j =
        let same : at ≡ end = stop_at j in
        let none : p.bytes ≡ p.bytes + (end - at) = omega arith in
        let n : p.bytes + 1 + length bs ≡ p.bytes + suc (length bs) = omega arith in
        record {
          onward = omega arith;
          within = omega arith;
          ended = λ less d. absurd (true≢false (ap is_dead (stop_state j) ∙ d));
          failed = λ less d. ap (λ (y : Held). held_after s y bs) (by_fault s p table b few i)
              ∙ past_fault s (failed_at p p.bytes (p.bytes + 1)) table bs p.bytes (omega arith)
              ∙ ap₂ (λ (m : ℕ) (k : ℕ). held (failed_at p m k) table) none n;
          gone_on_lem = λ more. absurd (omega arith);
        }

-- ---- through a piece, from stop to stop

step_on : (s : Service) (p q : State) (at : ℕ) (bs : List ℕ) → at < length bs → q ≡ stepped s p (get_or bs at 0)
    → pass_on s p at (drop at bs) ≡ cond (stops q) (stop q at) (pass_on s q (at + 1) (drop (at + 1) bs))
unfolding pass_on
step_on s p q at bs h e = rw (drop-cons bs at 0 h, e, add-one at) refl

-- before the byte at `at` the machine is in state q, and will stop where it stops from the beginning
abbrev pub Stopping : Service → State → ℕ → List ℕ → State → ℕ → Type 0
Stopping s p from bs q at = pass_on s q at (drop at bs) ≡ pass_on s p from (drop from bs)

module _ (s : Service) (p : State) (from : ℕ) (bs : List ℕ) (q next : State) (at : ℕ) (i : Stopping s p from bs q at) where
  pub stopping_here : at < length bs → next ≡ stepped s q (get_or bs at 0) → stops next ≡ true → stop next at ≡ pass_on s p from (drop from bs)
  stopping_here h e t =
      sym (step_on s q next at bs h e ∙ ap (λ (x : Bool). cond x (stop next at) (pass_on s next (at + 1) (drop (at + 1) bs))) t) ∙ i

  pub stopping_on : at < length bs → next ≡ stepped s q (get_or bs at 0) → stops next ≡ false → (further : Stop)
      → PassesData s bs next (at + 1) further → Stopping s p from bs further.state further.at
  stopping_on h e t further over =
      sym (step_on s q next at bs h e ∙ ap (λ (x : Bool). cond x (stop next at) (pass_on s next (at + 1) (drop (at + 1) bs))) t ∙ over.same) ∙ i

  pub stopping_out : length bs ≤ at → stop q at ≡ pass_on s p from (drop from bs)
  unfolding pass_on
  stopping_out h = sym (ap (pass_on s q at) (drop_of_length-le bs h)) ∙ i

-- ---- over data

-- what holds of the three states where text may follow holds of each
each_held : (P : State → Type 0) → P Opened → P Parted → P Inside → (q : State) → is_held q ≡ true → P q
each_held P o p i Opened e = o
each_held P o p i Parted e = p
each_held P o p i Inside e = i
each_held P o p i Start e = absurd (true≢false (sym e))
each_held P o p i Second e = absurd (true≢false (sym e))
each_held P o p i Third e = absurd (true≢false (sym e))
each_held P o p i Tagged e = absurd (true≢false (sym e))
each_held P o p i Released e = absurd (true≢false (sym e))
each_held P o p i Dead e = absurd (true≢false (sym e))

text_step : (s : Service) (b : ℕ) → is_text s b ≡ true → (q : State) → is_held q ≡ true → stepped s q b ≡ after_text s b
text_step s b t = each_held (λ q. stepped s q b ≡ after_text s b) (by true false) (by false true) (by false false)
  where
    flag : (c : Bool) → marks.held_by false c ≡ cond c Parted Inside
    flag true = refl
    flag false = refl

    by : (opened parted : Bool) → stepped s (marks.held_by opened parted) b ≡ after_text s b
    by opened parted = held_step s opened parted b ∙ text_held s opened parted b t ∙ flag (eqb b s.component)

release_step : (s : Service) (b : ℕ) → b ≡ s.release → (q : State) → is_held q ≡ true → stepped s q b ≡ Released
unfolding kind_of
release_step s b e = each_held (λ q. stepped s q b ≡ Released) (rw is refl) (rw is refl) (rw is refl)
  where
    is : eqb b s.release ≡ true
    is = eq-eqb b s.release e

-- behind a release: the byte is there, and may be released
released_there : (s : Service) (bs : List ℕ) (at : ℕ) → (ltb at (length bs) && must_release s (get_or bs at 0)) ≡ true
    → (at < length bs) × (must_release s (get_or bs at 0) ≡ true)
released_there s bs at e = go (ltb at (length bs)) refl e
  where
    go : (x : Bool) → ltb at (length bs) ≡ x → (x && must_release s (get_or bs at 0)) ≡ true → (at < length bs) × (must_release s (get_or bs at 0) ≡ true)
    go true i r = (ltb-true _ _ i, r)
    go false i r = absurd (true≢false (sym r))

-- from state p at `from`, the machine has come over data to state q at `at`
abbrev pub OverData : Service → List ℕ → State → ℕ → State → ℕ → Type 0
OverData s bs p from q at = (is_held q ≡ true) × PassesData s bs p from (stop q at)

module _ (s : Service) (bs : List ℕ) (p : State) (from : ℕ) (q : State) (at : ℕ) (i : OverData s bs p from q at) (h : at < length bs) where
  pub over_text : is_text s (get_or bs at 0) ≡ true → (next : State) → next ≡ after_text s (get_or bs at 0) → OverData s bs p from next (at + 1)
  over_text t next e = go (eqb (get_or bs at 0) s.component) e
    where
      to : (r : State) → is_held r ≡ true → stops r ≡ false → next ≡ r → OverData s bs p from next (at + 1)
      to r k g n =
          let o = i.1.onward in
          let turn = step_on s q next at bs h (e ∙ sym (text_step s (get_or bs at 0) t q i.0)) in (
            ap is_held n ∙ k,
            record {
              onward = omega arith;
              same = i.1.same ∙ turn ∙ ap (λ (x : Bool). cond x (stop next at) (pass_on s next (at + 1) (drop (at + 1) bs))) (ap stops n ∙ g);
            },
          )

      go : (c : Bool) → next ≡ cond c Parted Inside → OverData s bs p from next (at + 1)
      go true n = to Parted refl refl n
      go false n = to Inside refl refl n

  pub over_released : get_or bs at 0 ≡ s.release → (ltb (at + 1) (length bs) && must_release s (get_or bs (at + 1) 0)) ≡ true → OverData s bs p from Inside (at + 2)
  over_released e r =
      let there = released_there s bs (at + 1) r in
      let o = i.1.onward in
      let two : at + 1 + 1 ≡ at + 2 = omega arith in
      let released = after_release s (get_or bs (at + 1) 0) ∙ ap (λ (x : Bool). pick x Inside Dead) there.1 in (
        refl,
        record {
          onward = omega arith;
          same = i.1.same ∙ step_on s q Released at bs h (sym (release_step s (get_or bs at 0) e q i.0))
              ∙ step_on s Released Inside (at + 1) bs there.0 (sym released)
              ∙ ap (λ (n : ℕ). pass_on s Inside n (drop n bs)) two;
        },
      )

-- a segment that is found whole
pub stopping_found : (s : Service) (p : State) (from : ℕ) (bs : List ℕ) (end : ℕ) → is_start p ≡ true → Some end ≡ segment_end s bs from
    → stop Start end ≡ pass_on s p from (drop from bs)
stopping_found s p from bs end t e =
    sym (ap (λ (q : State). pass_on s q from (drop from bs)) (start_is (course p) t) ∙ end_passes s Start from end (drop from bs) (sym e))
  where
    start_is : {q : State} → Course q → is_start q ≡ true → q ≡ Start
    start_is ends z = refl
    start_is (goes_on i d) z = absurd (true≢false (sym z ∙ i))
    start_is fails z = absurd (true≢false (sym z))

pub same_room : (segments start : ℕ) (table : List ℕ) → length (with_start segments start table) ≡ length table
same_room segments start table = go (ltb segments most_segments)
  where
    go : (b : Bool) → length (cond b (set table segments (entry start)) table) ≡ length table
    go true = length-set table segments (entry start)
    go false = refl

module _ (s : Service) (p : Progress) (starts piece : List ℕ) where
  abbrev pub whole : Held
  whole = held_after s (held p starts) piece

  -- what is left of the piece, from `at` on, makes of progress and table what the whole does
  pub record Along (come : Progress) (table : List ℕ) (at : ℕ) : Type 0 where
    pub same : held_after s (held come table) (drop at piece) ≡ whole
    pub bytes : come.bytes ≡ p.bytes + at
    pub inside : at ≤ length piece
    pub as_long : length table ≡ length starts

  pub along_end : (come : Progress) (table : List ℕ) (at : ℕ) → Along come table at → length piece ≤ at → (come ≡ whole.progress) × (table ≡ whole.starts)
  unfolding held_after
  along_end come table at a h =
      let e = sym (ap (held_after s (held come table)) (drop_of_length-le piece h)) ∙ a.same in
      (ap (λ (x : Held). x.progress) e, ap (λ (x : Held). x.starts) e)

  -- the machine stops at x
  module _ (few : p.bytes + length piece ≤ most_bytes) (come : Progress) (table : List ℕ) (at : ℕ) (a : Along come table at)
      (x : Stop) (e : x ≡ pass_on s come.state at (drop at piece)) where
    left : length (drop at piece) ≡ length piece - at
    left = length-drop at piece

    pub along_stop : Passes s come table at (drop at piece) x.state x.at
    along_stop =
        let b = a.bytes in
        let i = a.inside in
        passes s come table at (drop at piece) x.state x.at (omega (arith, left)) (sym e)

    all : come.bytes + length (drop at piece) ≡ p.bytes + length piece
    all = let b = a.bytes in let i = a.inside in omega (arith, left)

    pub along_gone_on : length piece ≤ x.at → (r : Progress) → r ≡ gone_on come x.state (p.bytes + length piece)
        → (r ≡ whole.progress) × (table ≡ whole.starts)
    along_gone_on h r is =
        let i = a.inside in
        let here = along_stop.gone_on_lem (omega (arith, left)) ∙ ap (λ (n : ℕ). held (gone_on come x.state n) table) all in
        let e = sym here ∙ a.same in
        (is ∙ ap (λ (y : Held). y.progress) e, ap (λ (y : Held). y.starts) e)

    pub along_failed : x.at < length piece → is_dead x.state ≡ true → (r : Progress) → r ≡ failed_at come (p.bytes + x.at) (p.bytes + length piece)
        → (r ≡ whole.progress) × (table ≡ whole.starts)
    along_failed h d r is =
        let i = a.inside in
        let b = a.bytes in
        let o = along_stop.onward in
        let there : come.bytes + (x.at - at) ≡ p.bytes + x.at = omega arith in
        let here = along_stop.failed (omega (arith, left)) d ∙ ap₂ (λ (m n : ℕ). held (failed_at come m n) table) there all in
        let e = sym here ∙ a.same in
        (is ∙ ap (λ (y : Held). y.progress) e, ap (λ (y : Held). y.starts) e)

    pub along_ended : x.at < length piece → is_dead x.state ≡ false
        → (next : List ℕ) → next ≡ with_start come.segments come.start table
        → (r : Progress) → r ≡ segment_ended come (length next) (p.bytes + x.at + 1) → Along r next (x.at + 1)
    along_ended h d next n r is =
        let i = a.inside in
        let b = a.bytes in
        let o = along_stop.onward in
        let there : come.bytes + (x.at - at) + 1 ≡ p.bytes + x.at + 1 = omega arith in
        let over : at + (x.at + 1 - at) ≡ x.at + 1 = omega arith in
        let room : length next ≡ length table = ap length n ∙ same_room come.segments come.start table in
        record {
          same = sym
              (sym a.same ∙ along_stop.ended (omega (arith, left)) d
              ∙ ap₂ (held_after s)
              (ap₂ held (ap₂ (segment_ended come) (sym room) there ∙ sym is) (sym n))
              (drop-drop (x.at + 1 - at) at piece ∙ ap (λ (m : ℕ). drop m piece) over));
          bytes = ap (λ (y : Progress). y.bytes) is ∙ omega arith;
          inside = omega arith;
          as_long = room ∙ a.as_long;
        }

-- ---- bytes behind the most

pub after_both : (s : Service) (x : Held) (bs cs : List ℕ) → held_after s x (bs ++ cs) ≡ held_after s (held_after s x bs) cs
unfolding held_after
after_both s x [] cs = refl
after_both s x (b ∷ bs) cs = after_both s (held_by s x b) bs cs

-- so many bytes within the most are counted
bytes_after : (s : Service) (p : Progress) (table bs : List ℕ) → p.bytes + length bs ≤ most_bytes
    → (held_after s (held p table) bs).progress.bytes ≡ p.bytes + length bs
unfolding held_after
bytes_after s p table [] h = omega arith
bytes_after s p table (b ∷ bs) h =
    let next = held_by s (held p table) b in
    let one = counted_one (course (stepped s p.state b)) refl in
    bytes_after s next.progress next.starts bs (omega (arith, one)) ∙ omega (arith, one)
  where
    few : p.bytes < most_bytes
    few = omega arith

    counted_one : {q : State} → Course q → stepped s p.state b ≡ q → (held_by s (held p table) b).progress.bytes ≡ p.bytes + 1
    counted_one ends i = ap (λ (x : Held). x.progress.bytes) (by_end s p table b few i)
    counted_one (goes_on t d) i = ap (λ (x : Held). x.progress.bytes) (by_other s p table b few (ap is_start i ∙ t) (ap is_dead i ∙ d))
    counted_one fails i = ap (λ (x : Held). x.progress.bytes) (by_fault s p table b few i)

-- once over the most, nothing moves
pub over_stays : (s : Service) (p : Progress) (table bs : List ℕ) → most_bytes < p.bytes → held_after s (held p table) bs ≡ held p table
unfolding held_after
over_stays s p table [] h = refl
over_stays s p table (b ∷ bs) h =
    ap (λ (x : Held). held_after s x bs) (rw (le-ltb p.bytes most_bytes (omega arith), lt-leb p.bytes most_bytes h) refl)
    ∙ over_stays s p table bs h

-- the first byte over the most is counted
first_over : (s : Service) (p : Progress) (table bs : List ℕ) → p.bytes ≡ most_bytes → 0 < length bs
    → held_after s (held p table) bs ≡ held (gone_on p p.state (most_bytes + 1)) table
unfolding held_after
first_over s p table [] e h = absurd (omega arith)
first_over s p table (b ∷ bs) e h =
    let one : p.bytes + 1 ≡ most_bytes + 1 = omega arith in
    ap (λ (x : Held). held_after s x bs) (rw (le-ltb p.bytes most_bytes (omega arith), le-leb p.bytes most_bytes (omega arith)) refl)
    ∙ ap (λ (n : ℕ). held_after s (held (gone_on p p.state n) table) bs) one
    ∙ over_stays s (gone_on p p.state (most_bytes + 1)) table bs (omega arith)

module _ (s : Service) (p : Progress) (starts piece : List ℕ) where
  pub piece_over : most_bytes < p.bytes → (p ≡ (whole s p starts piece).progress) × (starts ≡ (whole s p starts piece).starts)
  piece_over h =
      let e = sym (over_stays s p starts piece h) in
      (ap (λ (x : Held). x.progress) e, ap (λ (x : Held). x.starts) e)

  -- a piece of which the first `left` bytes lie within the most
  module _ (left : ℕ) (full : p.bytes + left ≡ most_bytes) (longer : left < length piece) (within : Progress) (table : List ℕ)
      (i : within ≡ (whole s p starts (take left piece)).progress) (j : table ≡ (whole s p starts (take left piece)).starts) where
    pub piece_beyond : (r : Progress) → r ≡ gone_on within within.state (most_bytes + 1)
        → (r ≡ (whole s p starts piece).progress) × (table ≡ (whole s p starts piece).starts)
    piece_beyond r is =
        let taken : length (take left piece) ≡ left = length-take-le left piece (omega arith) in
        let dropped : length (drop left piece) ≡ length piece - left = length-drop left piece in
        let come = ap (λ (x : Progress). x.bytes) i ∙ bytes_after s p starts (take left piece) (omega (arith, taken)) in
        let e = ap (held_after s (held p starts)) (sym (take-append-drop left piece)) ∙ after_both s (held p starts) (take left piece) (drop left piece)
        ∙ ap (λ (x : Held). held_after s x (drop left piece)) (sym (ap₂ held i j))
        ∙ first_over s within table (drop left piece) (omega (arith, come, taken)) (omega (arith, dropped)) in
        (is ∙ sym (ap (λ (x : Held). x.progress) e), sym (ap (λ (x : Held). x.starts) e))
