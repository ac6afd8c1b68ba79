-- What the machine has made of some bytes: segments that have ended, and the bytes behind the last of them; and how a byte more changes that.
use Prim.Native.Nat.{ℕ, ◌+◌, ◌≤◌}
use native.Mathlib.Omega.{arith}
use mathlib.Core.Path.{◌≡◌, refl, sym, ap, ap₂, ◌∙◌}
use mathlib.Core.List.{List, [], ◌∷◌, ◌++◌, append_assoc}
use mathlib.Core.Option.{some, none}
use mathlib.Core.Bool.{false, true≢false, cond}
use lib.ListN.{length, length-append}
use Rattle.reading.specs.meaning.Service.{All, GoodService}
use Rattle.reading.specs.meaning.Message.{Segment, Message, ValidSegment, write_segments, render}
use Rattle.reading.specs.method.Machine.{pick, stepped, is_start, is_dead, ended, scan_on, scanned}
use Rattle.reading.specs.method.Outcome.{BadAt}
use Rattle.reading.specs.declared.service.Service.{Service}
use Rattle.reading.specs.declared.machine.State.{State}
use Rattle.reading.specs.declared.machine.State.TheVariants.{Start, Dead}
use Rattle.reading.proofs.States.{Course, ends, goes_on, fails, course, none_ended}
use Rattle.reading_laws.proofs.Lists.{all_append}
use Rattle.reading_laws.proofs.Segments.{behind, behind_step, segment_behind}
use Rattle.reading_laws.proofs.Accepting.{on_step}
use Rattle.reading_laws.proofs.FirstBad.{from_dead}
use Rattle.reading_laws.proofs.Rendering.{segments_front, segments_append, segments_long}
use Rattle.framing.specs.meaning.Limits.{most_segments}
use Rattle.pieces.specs.declared.progress.Progress.{Progress}
use Rattle.pieces.specs.method.Progress.{one_more, reached_before, segment_ended, failed_at, gone_on}
use Rattle.pieces.proofs.Passing.{alive_before}
use Rattle.pieces_laws.proofs.Capped.{capped, one_more_lem}

pub record Parsed (s : Service) (bytes : List ℕ) (p : Progress) (message : Message) : Type 0 where
  pub valid : All ValidSegment message
  -- the bytes behind the last segment that ended
  pub partial : List ℕ
  pub written : bytes ≡ write_segments s message partial
  pub segments : p.segments ≡ capped most_segments (length message)
  pub start : p.start ≡ length (render s message)
  -- whatever follows, the segment and the scan go on from the state that is kept
  pub going : (more : List ℕ) → behind s Start (partial ++ more) ≡ behind s p.state more
  pub scanning : (more : List ℕ) → scanned s (bytes ++ more) ≡ scan_on s p.state (length message) (reached_before p (length bytes)) more

-- ---- behind a fault there is nothing more

module _ (s : Service) where
  dead_behind : (more : List ℕ) → behind s Dead more ≡ none
  unfolding behind
  dead_behind [] = refl
  dead_behind (b ∷ bs) = refl

  -- what is written in front of a rest, and more behind that rest
  written_on : (m : Message) (xs ys : List ℕ) → write_segments s m xs ++ ys ≡ write_segments s m (xs ++ ys)
  written_on m xs ys =
      ap (λ (zs : List ℕ). zs ++ ys) (segments_front s m xs) ∙ append_assoc (render s m) xs ys ∙ sym (segments_front s m (xs ++ ys))

  -- the segments that ended are no longer than the bytes
  pub render_within : {bytes : List ℕ} {p : Progress} {message : Message} → Parsed s bytes p message → length (render s message) ≤ length bytes
  render_within {message = message} x = omega (arith, segments_long s message x.partial, ap length x.written)

  -- a byte that is only counted
  pub parsed_same : {bytes : List ℕ} {p : Progress} {message : Message} → Parsed s bytes p message → (n : ℕ) → Parsed s bytes (gone_on p p.state n) message
  parsed_same x n =
      record {
        valid = x.valid;
        partial = x.partial;
        written = x.written;
        segments = x.segments;
        start = x.start;
        going = x.going;
        scanning = x.scanning;
      }

  -- ---- a byte that is read

  module _ {bytes : List ℕ} {p : Progress} {message : Message} (x : Parsed s bytes p message) (b : ℕ) where
    abbrev next : List ℕ
    next = bytes ++ (b ∷ [])

    next_long : length next ≡ length bytes + 1
    next_long = length-append bytes (b ∷ [])

    next_written : next ≡ write_segments s message (x.partial ++ (b ∷ []))
    next_written = ap (λ (xs : List ℕ). xs ++ (b ∷ [])) x.written ∙ written_on message x.partial (b ∷ [])

    module _ {q : State} (step : stepped s p.state b ≡ q) where
      next-going : (more : List ℕ) → behind s Start (x.partial ++ (b ∷ more)) ≡ pick (is_start q) (some more) (pick (is_dead q) none (behind s q more))
      next-going more = x.going (b ∷ more) ∙ behind_step s p.state q b more step

      next-scanning : (more : List ℕ)
          → scanned s (next ++ more)
          ≡ pick (is_dead q) (BadAt (reached_before p (length bytes))) (scan_on s q (ended q (length message)) (reached_before p (length bytes) + 1) more)
      next-scanning more =
          ap (scanned s) (append_assoc bytes (b ∷ []) more) ∙ x.scanning (b ∷ more)
          ∙ on_step s p.state q (length message) (reached_before p (length bytes)) b more step

      -- a live state has reached the byte
      reached-next : is_dead q ≡ false → reached_before p (length bytes) + 1 ≡ length next
      reached-next d =
          let alive : is_dead p.state ≡ false = alive_before s (course p.state) b (ap is_dead step ∙ d) in
          rw alive (sym next_long)

      going_on : is_start q ≡ false → (more : List ℕ) → behind s Start ((x.partial ++ (b ∷ [])) ++ more) ≡ behind s q more
      going_on t more = ap (behind s Start) (append_assoc x.partial (b ∷ []) more) ∙ next-going more ∙ go (course q) t
        where
          go : {r : State} → Course r → is_start r ≡ false → pick (is_start r) (some more) (pick (is_dead r) none (behind s r more)) ≡ behind s r more
          go ends u = absurd (true≢false u)
          go (goes_on u d) v = rw (u, d) refl
          go fails u = sym (dead_behind more)

    -- it ends no segment
    further : {q : State} → stepped s p.state b ≡ q → is_start q ≡ false → (bad n : ℕ)
        → ((more : List ℕ)
        → pick (is_dead q) (BadAt (reached_before p (length bytes))) (scan_on s q (ended q (length message)) (reached_before p (length bytes) + 1) more)
        ≡ scan_on s q (length message) (cond (is_dead q) bad (length next)) more)
        → Parsed s next (record { ended = p.ended; state = q; bytes = n; bad = bad; segments = p.segments; start = p.start; lacking = p.lacking }) message
    further step t bad n scan =
        record {
          valid = x.valid;
          partial = x.partial ++ (b ∷ []);
          written = next_written;
          segments = x.segments;
          start = x.start;
          going = going_on step t;
          scanning = λ more. next-scanning step more ∙ scan more;
        }

    pub parsed_on : {q : State} → stepped s p.state b ≡ q → is_start q ≡ false → is_dead q ≡ false → (n : ℕ) → Parsed s next (gone_on p q n) message
    parsed_on {q} step t d n =
        further step t p.bad n
        (λ more. rw (d, none_ended q (length message) t) (ap (λ (at : ℕ). scan_on s q (length message) at more) (reached-next step d)))

    pub parsed_bad : stepped s p.state b ≡ Dead → (n : ℕ) → Parsed s next (failed_at p (length bytes) n) message
    parsed_bad step n =
        further step refl (reached_before p (length bytes)) n (λ more. sym (from_dead s (length message) (reached_before p (length bytes)) more))

    -- it ends a segment
    pub parsed_end : GoodService s → stepped s p.state b ≡ Start → (room : ℕ)
        → (g : Segment) × Parsed s next (segment_ended p room (length next)) (message ++ (g ∷ []))
    unfolding write_segments
    parsed_end good step room =
        let f = segment_behind s good (x.partial ++ (b ∷ [])) [] (next-going step []) in
        let g = f.segment in
        let whole : next ≡ render s (message ++ (g ∷ [])) =
        next_written ∙ ap (write_segments s message) f.same ∙ sym (segments_append s message (g ∷ []) []) in
        let count : length (message ++ (g ∷ [])) ≡ length message + 1 = length-append message (g ∷ []) in (
          g,
          record {
            valid = all_append ValidSegment message (g ∷ []) x.valid (f.valid, tt);
            partial = [];
            written = whole;
            segments = ap (one_more most_segments) x.segments ∙ one_more_lem most_segments (length message) ∙ ap (capped most_segments) (sym count);
            start = ap length whole;
            going = λ more. refl;
            scanning = λ more. next-scanning step more ∙ ap₂ (λ (n at : ℕ). scan_on s Start n at more) (sym count) (reached-next step refl);
          },
        )
