-- What a run keeps is what its text says so far: the first 16,777,216 bytes are read, the others counted, and of each segment that ended its start is told.
use Prim.Native.Nat.{ℕ, ◌+◌, ◌≤◌, ◌<◌}
use native.Mathlib.Omega.{arith}
use mathlib.Core.Path.{◌≡◌, refl, sym, ap, ◌∙◌, subst}
use mathlib.Core.List.{List, [], ◌∷◌, ◌++◌, append_assoc, append-nil}
use mathlib.Core.Bool.{Bool, true, false, cond, ◌&&◌, ◌||◌}
use lib.Dec.{ltb}
use lib.ListN.{length, take, drop, length-append, take-append-drop}
use lib.Seq.{take_all, take-nil, take-append-le}
use borrow.Author.Tests.{le-leb, ltb-true, ltb-false}
use Rattle.reading.specs.meaning.Service.{All, GoodService}
use Rattle.reading.specs.meaning.Message.{Segment, Message, write_segments, render}
use Rattle.reading.specs.method.Machine.{stepped, is_start, is_dead}
use Rattle.reading.specs.declared.service.Service.{Service}
use Rattle.reading.specs.declared.machine.State.{State}
use Rattle.reading.specs.declared.machine.State.TheVariants.{Start, Dead}
use Rattle.reading.proofs.States.{Course, ends, goes_on, fails, course}
use Rattle.framing.specs.meaning.Limits.{most_bytes}
use Rattle.pieces.specs.declared.progress.Progress.{Progress}
use Rattle.pieces.specs.method.Progress.{held, one_more, with_start, lacks, segment_ended, failed_at, gone_on, moved_to}
use Rattle.pieces_laws.specs.laws.Run.{ran_by, run}
use Rattle.pieces_laws.proofs.Capped.{capped, capped_is, capped_less, one_more_lem}
use Rattle.pieces_laws.proofs.Parsed.{Parsed, render_within, parsed_on, parsed_bad, parsed_same, parsed_end}
use Rattle.pieces_laws.proofs.Told.{Told, told_longer}
use Rattle.pieces_laws.proofs.Telling.{told_end}

pub record Sound (s : Service) (memory text lents : List ℕ) (p : Progress) (now : List ℕ) : Type 0 where
  pub long : length lents ≡ length text
  pub not_ended : p.ended ≡ false
  pub counted : p.bytes ≡ capped most_bytes (length text)
  -- the segments that ended
  pub message : Message
  pub parsed : Parsed s (take most_bytes text) p message
  pub told : Told s message lents memory now p.lacking

abbrev pub fresh_progress : Progress
fresh_progress = record { ended = false; state = Start; bytes = 0; bad = 0; segments = 0; start = 0; lacking = false }

-- ---- before the first byte

module _ (s : Service) (memory : List ℕ) where
  parsed_none : Parsed s [] fresh_progress []
  unfolding write_segments
  parsed_none =
      record {
        valid = tt;
        partial = [];
        written = refl;
        segments = refl;
        start = refl;
        going = λ more. refl;
        scanning = λ more. refl;
      }

  told_none : Told s [] [] memory memory false
  told_none =
      record {
        starts = record { left = λ k l. absurd (let h = l.finished in omega arith); kept = λ k f. refl; as_long = refl };
        lacking = λ k h a. absurd (omega arith);
      }

  pub sound_begin : Sound s memory [] [] fresh_progress memory
  sound_begin =
      record {
        long = refl;
        not_ended = refl;
        counted = refl;
        message = [];
        parsed = subst (λ (bytes : List ℕ). Parsed s bytes fresh_progress []) (sym (take-nil most_bytes)) parsed_none;
        told = told_none;
      }

-- ---- a text that is read as a whole

module _ (s : Service) {memory text lents : List ℕ} {p : Progress} {now : List ℕ} (x : Sound s memory text lents p now) (few : length text ≤ most_bytes) where
  pub bytes_are : p.bytes ≡ length text
  bytes_are = x.counted ∙ capped_is most_bytes (length text) few

  pub parsed_text : Parsed s text p x.message
  parsed_text = rw (take_all most_bytes text few) at x.parsed

-- ---- behind a byte

module _ (s : Service) (good : GoodService s) {memory text lents : List ℕ} {p : Progress} {now : List ℕ} (x : Sound s memory text lents p now) (b lent : ℕ) (fits : lent ≤ length now) where
  abbrev next : List ℕ
  next = text ++ (b ∷ [])

  abbrev longer : List ℕ
  longer = lents ++ (lent ∷ [])

  next_long : length next ≡ length text + 1
  next_long = length-append text (b ∷ [])

  both_longer : length longer ≡ length next
  both_longer = let l = x.long in omega (arith, next_long, length-append lents (lent ∷ []))

  counted_on : one_more most_bytes p.bytes ≡ capped most_bytes (length next)
  counted_on = ap (one_more most_bytes) x.counted ∙ one_more_lem most_bytes (length text) ∙ ap (capped most_bytes) (sym next_long)

  within : length (render s x.message) ≤ length lents
  within = let l = x.long in omega (arith, render_within s x.parsed, simp length-append at (ap length (take-append-drop most_bytes text)))

  -- where no segment ends, what is told stays so
  same_message : {q : Progress} → q.ended ≡ p.ended → q.bytes ≡ one_more most_bytes p.bytes → q.lacking ≡ p.lacking
      → Parsed s (take most_bytes next) q x.message → Sound s memory next longer q (take lent now ++ drop lent now)
  same_message e n l y =
      record {
        long = both_longer;
        not_ended = e ∙ x.not_ended;
        counted = n ∙ counted_on;
        message = x.message;
        parsed = y;
        told = rw (l, take-append-drop lent now) (told_longer s x.message lents (lent ∷ []) within x.told);
      }

  -- a byte behind the most
  byte_behind : most_bytes ≤ length text → Sound s memory next longer (gone_on p p.state (one_more most_bytes p.bytes)) (take lent now ++ drop lent now)
  byte_behind h = same_message refl refl refl (rw (take-append-le most_bytes text (b ∷ []) h) (parsed_same s x.parsed (one_more most_bytes p.bytes)))

  -- ---- a byte that is read

  module _ (few : length text < most_bytes) where
    read : Parsed s text p x.message
    read = parsed_text s x (omega arith)

    here : p.bytes ≡ length text
    here = bytes_are s x (omega arith)

    counts : p.bytes + 1 ≡ one_more most_bytes p.bytes
    counts = rw (le-leb p.bytes most_bytes (omega (arith, here)))

    whole_next : {q : Progress} {m : Message} → Parsed s next q m → Parsed s (take most_bytes next) q m
    whole_next y = rw (take_all most_bytes next (omega (arith, next_long))) y

    byte_on : {q : State} → stepped s p.state b ≡ q → is_start q ≡ false → is_dead q ≡ false → Sound s memory next longer (gone_on p q (p.bytes + 1)) (take lent now ++ drop lent now)
    byte_on step t d = same_message refl counts refl (whole_next (parsed_on s read b step t d (p.bytes + 1)))

    byte_bad : stepped s p.state b ≡ Dead → Sound s memory next longer (failed_at p p.bytes (p.bytes + 1)) (take lent now ++ drop lent now)
    byte_bad step =
        same_message refl counts refl
        (whole_next (subst (λ (at : ℕ). Parsed s next (failed_at p at (p.bytes + 1)) x.message) (sym here) (parsed_bad s read b step (p.bytes + 1))))

    end_told : (g : Segment) → length (render s (x.message ++ (g ∷ []))) ≡ length next
        → Told s (x.message ++ (g ∷ [])) longer memory (with_start p.segments p.start (take lent now) ++ drop lent now) (p.lacking || lacks p.segments lent)
    end_told g e =
        rw (x.parsed.segments, x.parsed.start)
        (told_end s good x.message g lents lent within (omega (arith, e, next_long, x.long)) x.told fits (omega (arith, within, x.long)))

    byte_end : stepped s p.state b ≡ Start
        → Sound s memory next longer (segment_ended p lent (p.bytes + 1)) (with_start p.segments p.start (take lent now) ++ drop lent now)
    byte_end step =
        let more = parsed_end s read b good step lent in
        let end : p.bytes + 1 ≡ length next = omega (arith, here, next_long) in
        record {
          long = both_longer;
          not_ended = x.not_ended;
          counted = counts ∙ counted_on;
          message = x.message ++ (more.0 ∷ []);
          parsed = whole_next (subst (λ (n : ℕ). Parsed s next (segment_ended p lent n) (x.message ++ (more.0 ∷ []))) (sym end) more.1);
          told = end_told more.0 (sym more.1.start);
        }

    byte_moved : {q : State} → Course q → stepped s p.state b ≡ q
        → Sound s memory next longer (moved_to q p lent) (cond (is_start q) (with_start p.segments p.start (take lent now)) (take lent now) ++ drop lent now)
    byte_moved ends step = byte_end step
    byte_moved (goes_on t d) step = rw (t, d) (byte_on step t d)
    byte_moved fails step = byte_bad step

  pub sound_byte : Sound s memory next longer (ran_by s (held p now) b lent).progress (ran_by s (held p now) b lent).starts
  sound_byte = go (ltb p.bytes most_bytes) (sym (capped_less most_bytes (length text)) ∙ ap (λ (n : ℕ). ltb n most_bytes) (sym x.counted))
    where
      go : (t : Bool) → ltb (length text) most_bytes ≡ t
          → Sound s memory next longer
          (cond t (moved_to (stepped s p.state b) p lent) (gone_on p p.state (one_more most_bytes p.bytes)))
          (cond (t && is_start (stepped s p.state b)) (with_start p.segments p.start (take lent now)) (take lent now) ++ drop lent now)
      go true e = byte_moved (ltb-true (length text) most_bytes e) (course (stepped s p.state b)) refl
      go false e = byte_behind (ltb-false (length text) most_bytes e)

-- ---- behind any bytes

module _ (s : Service) (good : GoodService s) {memory : List ℕ} where
  pub sound_run : {text lents : List ℕ} {p : Progress} {now : List ℕ} → Sound s memory text lents p now → (bs ls : List ℕ) → length bs ≡ length ls
      → All (λ lent. lent ≤ length memory) ls
      → Sound s memory (text ++ bs) (lents ++ ls) (run s (held p now) bs ls).progress (run s (held p now) bs ls).starts
  unfolding run
  sound_run {text} {lents} x [] [] e a = rw (append-nil text, append-nil lents) x
  sound_run x [] (l ∷ ls) e a = absurd (omega arith)
  sound_run x (b ∷ bs) [] e a = absurd (omega arith)
  sound_run {text} {lents} {p} {now} x (b ∷ bs) (l ∷ ls) e a =
      let y = sound_byte s good x b l (let f = a.0 in let z = x.told.starts.as_long in omega arith) in
      rw (sym (append_assoc text (b ∷ []) bs), sym (append_assoc lents (l ∷ []) ls)) (sound_run {text = text ++ (b ∷ [])} {lents = lents ++ (l ∷ [])} y bs ls (omega arith) a.1)
