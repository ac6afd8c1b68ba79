-- What is known of a message that passes numbers 3 to 9, and that these numbers are refusals.
use Prim.Native.Nat.{ℕ, ◌≤◌, ◌<◌}
use native.Mathlib.Omega.{arith}
use mathlib.Core.Path.{◌≡◌, refl, sym, ap, ◌∙◌}
use mathlib.Core.List.{List}
use mathlib.Core.Bool.{Bool, true, false, cond, ◌&&◌}
use mathlib.Core.Logic.{◌↔◌}
use lib.Dec.{eqb, leb}
use borrow.Author.Tests.{eqb-true, le-leb, leb-true}
use Rattle.std.specs.Prelude.{Ok, Err}
use Rattle.framing.specs.meaning.Limits.{most_segments}
use Rattle.reading.specs.meaning.Component.{same_component}
use Rattle.reading.specs.method.Outcome.{Outcome, Segments, BadAt}
use Rattle.reading.specs.method.Machine.{scanned}
use Rattle.reading.specs.declared.service.Service.{Service}
use Rattle.reading.proofs.Booleans.{halves}
use Rattle.framing.specs.meaning.Table.{HasRoom}
use Rattle.framing.specs.meaning.Record.{answer}
use Rattle.framing.specs.method.Refusals.{verdict_of}
use Rattle.framing.specs.method.Stages.{or_else, is_sized, has_room, Frame, frame_of, component_at, closing_stage, frame_stage, scan_stage, message_stage}
use Rattle.framing.specs.method.Decimal.{is_decimal}
use Rattle.framing.specs.declared.refusal.Refusal.{Refusal}
use Rattle.framing.specs.declared.refusal.Refusal.TheVariants.{Size, BadByte, TooManySegments, NoRoom, Misplaced, WrongCount, WrongReference}
use Rattle.framing.specs.declared.message.Room.{Room}
use Rattle.framing.specs.declared.verdict.Verdict.{Verdict}

-- ---- number 6

pub room_exactly : (room : Room) (n : ℕ) → (has_room room n ≡ true) ↔ HasRoom room n
room_exactly room n = (to, λ h. rw (le-leb n room.starts h.starts, le-leb n room.homes h.homes, le-leb n room.parents h.parents))
  where
    to : has_room room n ≡ true → HasRoom room n
    to e =
        let x = halves (leb n room.starts) (leb n room.homes && leb n room.parents) e in
        let y = halves (leb n room.homes) (leb n room.parents) x.1 in
        record { starts = leb-true n room.starts x.0; homes = leb-true n room.homes y.0; parents = leb-true n room.parents y.1 }

-- ---- a stage that answers number 0 has passed its test

pub passes : (b : Bool) (x y : Verdict) → (x.number ≡ 0 → ⊥) → (cond b y x).number ≡ 0 → b ≡ true
passes true x y n e = refl
passes false x y n e = absurd (n e)

passed : (b : Bool) (x y : Verdict) → (x.number ≡ 0 → ⊥) → (cond b y x).number ≡ 0 → cond b y x ≡ y
passed true x y n e = refl
passed false x y n e = absurd (n e)

pub fault : {n : ℕ} → 0 < n → n ≡ 0 → ⊥
fault h e = omega arith

pub refused : (refusal : Refusal) → (verdict_of refusal).number ≡ 0 → ⊥
refused Size e = fault {n = 3} (omega arith) e
refused (BadByte k) e = fault {n = 4} (omega arith) e
refused TooManySegments e = fault {n = 5} (omega arith) e
refused (NoRoom n) e = fault {n = 6} (omega arith) e
refused (Misplaced k) e = fault {n = 7} (omega arith) e
refused (WrongCount n) e = fault {n = 8} (omega arith) e
refused (WrongReference n) e = fault {n = 9} (omega arith) e

pub first_clear : (v w : Verdict) → (or_else v w).number ≡ 0 → v.number ≡ 0
first_clear v w e = go (eqb v.number 0) refl e
  where
    go : (b : Bool) → eqb v.number 0 ≡ b → (cond b w v).number ≡ 0 → v.number ≡ 0
    go true h i = eqb-true v.number 0 h
    go false h i = i

pub first_passed : (v w : Verdict) → v.number ≡ 0 → or_else v w ≡ w
first_passed v w e = rw e

-- ---- the message alone

pub record ClearMessage (s : Service) (bs : List ℕ) (room : Room) (v : Verdict) : Type 0 where
  pub sized : is_sized bs ≡ true
  pub segments : ℕ
  pub scan : scanned s bs ≡ Segments segments
  pub few : leb segments most_segments ≡ true
  pub roomy : has_room room segments ≡ true
  pub last : ℕ
  pub frame : frame_of s bs segments ≡ Ok last
  pub same : v ≡ answer 0 segments

module _ (s : Service) (bs : List ℕ) where
  closing_same : (n last : ℕ) → (closing_stage s bs n last).number ≡ 0 → closing_stage s bs n last ≡ answer 0 n
  closing_same n last e =
      let a = passed (is_decimal n (component_at s bs last 1 1)) (answer 8 n)
      (cond (same_component (component_at s bs last 2 1) (component_at s bs 0 1 1)) (answer 0 n) (answer 9 n)) (fault (omega arith)) e in
      a ∙ passed (same_component (component_at s bs last 2 1) (component_at s bs 0 1 1)) (answer 9 n) (answer 0 n) (fault (omega arith)) (sym (ap (λ (v : Verdict). v.number) a) ∙ e)

  frame_same : (n : ℕ) (f : Frame) → (frame_stage s bs n f).number ≡ 0 → (last : ℕ) × (f ≡ Ok last) × (frame_stage s bs n f ≡ answer 0 n)
  frame_same n (Err refusal) e = absurd (refused refusal e)
  frame_same n (Ok last) e = (last, refl, closing_same n last e)

  pub clear_message : (room : Room) → (message_stage s bs room).number ≡ 0 → ClearMessage s bs room (message_stage s bs room)
  unfolding message_stage
  clear_message room e =
      let a = passed (is_sized bs) (answer 3 0) (scan_stage s bs room (scanned s bs)) (fault (omega arith)) e in
      go (scanned s bs) refl (passes (is_sized bs) (answer 3 0) (scan_stage s bs room (scanned s bs)) (fault (omega arith)) e) a (sym (ap (λ (v : Verdict). v.number) a) ∙ e)
    where
      go : (o : Outcome) → scanned s bs ≡ o → is_sized bs ≡ true → cond (is_sized bs) (scan_stage s bs room (scanned s bs)) (answer 3 0) ≡ scan_stage s bs room o
          → (scan_stage s bs room o).number ≡ 0 → ClearMessage s bs room (cond (is_sized bs) (scan_stage s bs room (scanned s bs)) (answer 3 0))
      go (BadAt k) h z a n = absurd (fault {n = 4} (omega arith) n)
      go (Segments n) h z a i =
          let b = passed (leb n most_segments) (answer 5 0) (cond (has_room room n) (frame_stage s bs n (frame_of s bs n)) (answer 6 n)) (fault (omega arith)) i in
          let j = sym (ap (λ (v : Verdict). v.number) b) ∙ i in
          let c = passed (has_room room n) (answer 6 n) (frame_stage s bs n (frame_of s bs n)) (fault (omega arith)) j in
          let k = sym (ap (λ (v : Verdict). v.number) c) ∙ j in
          let f = frame_same n (frame_of s bs n) k in
          record {
            sized = z;
            segments = n;
            scan = h;
            few = passes (leb n most_segments) (answer 5 0) (cond (has_room room n) (frame_stage s bs n (frame_of s bs n)) (answer 6 n)) (fault (omega arith)) i;
            roomy = passes (has_room room n) (answer 6 n) (frame_stage s bs n (frame_of s bs n)) (fault (omega arith)) j;
            last = f.0;
            frame = f.1;
            same = a ∙ b ∙ c ∙ f.2;
          }

-- ---- which numbers are refusals

abbrev pub Low : Verdict → Type 0
Low v = v.number ≤ 11

low_refusal : (refusal : Refusal) → Low (verdict_of refusal)
low_refusal Size = omega arith
low_refusal (BadByte k) = omega arith
low_refusal TooManySegments = omega arith
low_refusal (NoRoom n) = omega arith
low_refusal (Misplaced k) = omega arith
low_refusal (WrongCount n) = omega arith
low_refusal (WrongReference n) = omega arith

pub low_cond : (b : Bool) (x y : Verdict) → Low x → Low y → Low (cond b y x)
low_cond true x y h k = k
low_cond false x y h k = h

pub low_or : (v w : Verdict) → Low v → Low w → Low (or_else v w)
low_or v w h k = low_cond (eqb v.number 0) v w h k

module _ (s : Service) (bs : List ℕ) where
  low_closing : (n last : ℕ) → Low (closing_stage s bs n last)
  low_closing n last =
      low_cond (is_decimal n (component_at s bs last 1 1)) (answer 8 n) (cond (same_component (component_at s bs last 2 1) (component_at s bs 0 1 1)) (answer 0 n) (answer 9 n)) (omega arith)
      (low_cond (same_component (component_at s bs last 2 1) (component_at s bs 0 1 1)) (answer 9 n) (answer 0 n) (omega arith) (omega arith))

  low_frame : (n : ℕ) (f : Frame) → Low (frame_stage s bs n f)
  low_frame n (Err refusal) = low_refusal refusal
  low_frame n (Ok last) = low_closing n last

  low_scan : (room : Room) (o : Outcome) → Low (scan_stage s bs room o)
  low_scan room (BadAt k) = omega arith
  low_scan room (Segments n) =
      low_cond (leb n most_segments) (answer 5 0) (cond (has_room room n) (frame_stage s bs n (frame_of s bs n)) (answer 6 n)) (omega arith)
      (low_cond (has_room room n) (answer 6 n) (frame_stage s bs n (frame_of s bs n)) (omega arith) (low_frame n (frame_of s bs n)))

  pub low_message : (room : Room) → Low (message_stage s bs room)
  unfolding message_stage
  low_message room = low_cond (is_sized bs) (answer 3 0) (scan_stage s bs room (scanned s bs)) (omega arith) (low_scan room (scanned s bs))
