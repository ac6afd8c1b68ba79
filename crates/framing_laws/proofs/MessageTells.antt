-- Numbers 3 to 9 are answered exactly when their rows of the table say so, whatever is answered behind them.
use Prim.Native.Nat.{ℕ, suc, ◌<◌}
use native.Mathlib.Omega.{arith}
use mathlib.Core.Path.{◌≡◌, refl, sym, ap, ◌∙◌, subst}
use mathlib.Core.List.{List, [], ◌∷◌}
use mathlib.Core.Bool.{Bool, true, false, true≢false, cond}
use mathlib.Core.Logic.{◌↔◌, ◌⊎◌, inl, inr}
use lib.Dec.{eqb, leb, ltb}
use lib.ListN.{length}
use borrow.Author.Tests.{eqb-true, le-leb, leb-true, lt-ltb, ltb-true}
use Rattle.std.specs.Prelude.{Ok}
use Rattle.framing.specs.meaning.Limits.{most_bytes, most_segments}
use Rattle.reading.specs.meaning.Service.{All, GoodService}
use Rattle.reading.specs.meaning.Message.{Segment, Message, ValidSegment, write_segments, render}
use Rattle.reading.specs.meaning.Component.{same_component}
use Rattle.reading.specs.meaning.WellFormed.{WellFormed, FirstBad, SegmentAt}
use Rattle.reading.specs.method.Outcome.{Outcome, Segments, BadAt}
use Rattle.reading_laws.specs.laws.Outcome.{Means}
use Rattle.reading.specs.method.Machine.{scanned}
use Rattle.reading.specs.declared.service.Service.{Service}
use Rattle.reading.proofs.Booleans.{halves}
use Rattle.reading.proofs.Scanning.{segments_is}
use Rattle.reading_laws.proofs.Accepting.{accepts}
use Rattle.reading_laws.proofs.Cursors.{written_at}
use Rattle.reading_laws.proofs.FirstBad.{scan_means, one_first_bad}
use Rattle.framing.specs.meaning.Record.{answer}
use Rattle.framing.specs.meaning.Table.{Unless, FirstWrong, NoneWrong, Sized, Misplaced, IsFirst, IsLast, TellsCount, TellsReference, MessageSays, BytesSay}
use Rattle.framing.specs.method.Decimal.{is_decimal}
use Rattle.framing.specs.method.Stages.{is_sized, has_room, Frame, frame_of, component_at, closing_stage, frame_stage, count_stage, scan_stage, message_stage}
use Rattle.framing.specs.declared.message.Room.{Room}
use Rattle.framing.specs.declared.verdict.Verdict.{Verdict}
use Rattle.framing.proofs.Passing.{room_exactly, clear_message}
use Rattle.framing_laws.proofs.InStages.{then, then_fault_lem, then_good}
use Rattle.framing_laws.proofs.MessageMeans.{unless, few_exactly, count_exactly, reference_exactly, Framed, wrong, right, LastAt, frame_says}

-- ---- number 3

sized_exactly : (bs : List ℕ) → (is_sized bs ≡ true) ↔ Sized bs
sized_exactly bs = (
  λ e. let h = halves (ltb 0 (length bs)) (leb (length bs) most_bytes) e in
      record { some = ltb-true 0 (length bs) h.0; within = leb-true (length bs) most_bytes h.1 },
  λ z. rw (lt-ltb 0 (length bs) z.some, le-leb (length bs) most_bytes z.within),
)

-- ---- the first that is wrong

pub one_first : {A : Type 0} (W : ℕ → A → Type 0) (k : ℕ) (xs : List A) (p q : ℕ) → FirstWrong W k xs p → FirstWrong W k xs q → p ≡ q
one_first W k [] p q a b = absurd a
one_first W k (x ∷ xs) p q (inl (w, e)) (inl (v, f)) = e ∙ sym f
one_first W k (x ∷ xs) p q (inl (w, e)) (inr (n, b)) = absurd (n w)
one_first W k (x ∷ xs) p q (inr (n, a)) (inl (v, f)) = absurd (n v)
one_first W k (x ∷ xs) p q (inr (n, a)) (inr (m, b)) = one_first W (suc k) xs p q a b

pub first_or_none : {A : Type 0} (W : ℕ → A → Type 0) (k : ℕ) (xs : List A) (p : ℕ) → FirstWrong W k xs p → NoneWrong W k xs → ⊥
first_or_none W k [] p a b = a
first_or_none W k (x ∷ xs) p (inl (w, e)) (n, b) = n w
first_or_none W k (x ∷ xs) p (inr (m, a)) (n, b) = first_or_none W (suc k) xs p a b

-- ---- in their order, and then the rest: of a message that passes, what is answered by its segment count

module _ (s : Service) (bs : List ℕ) (room : Room) (rest : ℕ → Verdict) where
  abbrev next : Verdict → Verdict
  next v = rest v.place.at

  abbrev of_closing : ℕ → ℕ → Verdict
  of_closing n last =
      cond (is_decimal n (component_at s bs last 1 1)) (cond (same_component (component_at s bs last 2 1) (component_at s bs 0 1 1)) (rest n) (answer 9 n)) (answer 8 n)

  abbrev of_frame : ℕ → Frame → Verdict
  of_frame n f = then (frame_stage s bs n f) next

  abbrev of_count : ℕ → Verdict
  of_count n = cond (leb n most_segments) (cond (has_room room n) (of_frame n (frame_of s bs n)) (answer 6 n)) (answer 5 0)

  abbrev of_scan : Outcome → Verdict
  of_scan o = then (scan_stage s bs room o) next

  after_closing : (n last : ℕ) → then (closing_stage s bs n last) next ≡ of_closing n last
  after_closing n last =
      then_fault_lem (is_decimal n (component_at s bs last 1 1)) (answer 8 n)
      (cond (same_component (component_at s bs last 2 1) (component_at s bs 0 1 1)) (answer 0 n) (answer 9 n)) next refl
      ∙ ap (λ (z : Verdict). cond (is_decimal n (component_at s bs last 1 1)) z (answer 8 n))
      (then_good (same_component (component_at s bs last 2 1) (component_at s bs 0 1 1)) (answer 9 n) (answer 0 n) next refl refl)

  after_count_lem : (n : ℕ) → then (count_stage s bs room n) next ≡ of_count n
  after_count_lem n =
      then_fault_lem (leb n most_segments) (answer 5 0) (cond (has_room room n) (frame_stage s bs n (frame_of s bs n)) (answer 6 n)) next refl
      ∙ ap (λ (z : Verdict). cond (leb n most_segments) z (answer 5 0))
      (then_fault_lem (has_room room n) (answer 6 n) (frame_stage s bs n (frame_of s bs n)) next refl)

  after_message : then (message_stage s bs room) next ≡ cond (is_sized bs) (of_scan (scanned s bs)) (answer 3 0)
  unfolding message_stage
  after_message = then_fault_lem (is_sized bs) (answer 3 0) (scan_stage s bs room (scanned s bs)) next refl

-- ---- what each says

module _ (s : Service) (service : GoodService s) (bs : List ℕ) (room : Room) (rest : ℕ → Verdict) (Rest : Message → Verdict → Type 0) (v : Verdict) where
  -- the rest says what is answered of a message whose frame is right
  abbrev pub Agrees : WellFormed s bs → Type 0
  Agrees w = NoneWrong (Misplaced (length w.message)) 0 w.message → (rest (length w.message) ≡ v) ↔ Rest w.message v

  module _ (w : WellFormed s bs) where
    abbrev m : Message
    m = w.message

    abbrev n : ℕ
    n = length w.message

    -- ---- numbers 5 to 9

    first_segment : (x : Message) → bs ≡ render s x → All ValidSegment x → 0 < length x → (g : Segment) × IsFirst x g × SegmentAt s bs 0 g
    unfolding write_segments
    first_segment [] e a l = absurd (omega arith)
    first_segment (g ∷ gs) e a l = (g, refl, subst (λ (ys : List ℕ). SegmentAt s ys 0 g) (sym e) (written_at s service [] g gs a.0))

    last_segment : (x : Message) (at : ℕ) → 0 < length x → LastAt s service n bs 0 x at → (g : Segment) × IsLast x g × SegmentAt s bs at g
    last_segment [] at l i = absurd (omega arith)
    last_segment (g ∷ gs) at l i = i

    abbrev FrameSays : Type 0
    FrameSays =
        ((k : ℕ) × FirstWrong (Misplaced n) 0 m k × (v ≡ answer 7 k))
        ⊎ (NoneWrong (Misplaced n) 0 m × Unless (TellsCount m) (v ≡ answer 8 n) (Unless (TellsReference m) (v ≡ answer 9 n) (Rest m v)))

    frame_tells : Agrees w → (f : Frame) → Framed s service n bs 0 0 m f → (of_frame s bs room rest n f ≡ v) ↔ FrameSays
    frame_tells agrees f (wrong p i) = (λ e. inl (p, i, sym e), from)
      where
        from : FrameSays → answer 7 p ≡ v
        from (inl (q, j, e)) = ap (answer 7) (one_first (Misplaced n) 0 m p q i j) ∙ sym e
        from (inr (none, x)) = absurd (first_or_none (Misplaced n) 0 m p i none)
    frame_tells agrees f (right at none i) = (λ e. inr (none, closing.0 (sym (after_closing s bs room rest n at) ∙ e)), from)
      where
        first : (g : Segment) × IsFirst m g × SegmentAt s bs 0 g
        first = first_segment m w.same w.valid.segments w.valid.non_empty

        last : (g : Segment) × IsLast m g × SegmentAt s bs at g
        last = last_segment m at w.valid.non_empty i

        closing : (of_closing s bs room rest n at ≡ v) ↔ Unless (TellsCount m) (v ≡ answer 8 n) (Unless (TellsReference m) (v ≡ answer 9 n) (Rest m v))
        closing =
            unless (is_decimal n (component_at s bs at 1 1)) (answer 8 n)
            (cond (same_component (component_at s bs at 2 1) (component_at s bs 0 1 1)) (rest n) (answer 9 n)) v (count_exactly s service bs m last.0 at last.1 last.2)
            (unless (same_component (component_at s bs at 2 1) (component_at s bs 0 1 1)) (answer 9 n) (rest n) v
            (reference_exactly s service bs m first.0 last.0 at first.1 first.2 last.1 last.2) (agrees none))

        from : FrameSays → of_frame s bs room rest n (Ok at) ≡ v
        from (inl (q, j, e)) = absurd (first_or_none (Misplaced n) 0 m q j none)
        from (inr (h, x)) = after_closing s bs room rest n at ∙ closing.1 x

    count_tells : Agrees w → (of_count s bs room rest n ≡ v) ↔ MessageSays s bs room Rest m v
    count_tells agrees =
        unless (leb n most_segments) (answer 5 0) (cond (has_room room n) (of_frame s bs room rest n (frame_of s bs n)) (answer 6 n)) v (few_exactly n most_segments)
        (unless (has_room room n) (answer 6 n) (of_frame s bs room rest n (frame_of s bs n)) v (room_exactly room n) (frame_tells agrees (frame_of s bs n) (frame_says s service bs w)))

  -- ---- numbers 3 and 4

  abbrev ScanSays : Type 0
  ScanSays = ((k : ℕ) × FirstBad s bs k × (v ≡ answer 4 k)) ⊎ ((w : WellFormed s bs) × MessageSays s bs room Rest w.message v)

  scan_tells : ((w : WellFormed s bs) → Agrees w) → (o : Outcome) → Means s bs o → scanned s bs ≡ o → (of_scan s bs room rest o ≡ v) ↔ ScanSays
  scan_tells agrees (BadAt k) i e = (λ h. inl (k, i, sym h), from)
    where
      from : ScanSays → answer 4 k ≡ v
      from (inl (j, x, h)) = ap (answer 4) (one_first_bad s service bs k j i x) ∙ sym h
      from (inr (w, x)) = absurd (i.ill_formed w)
  scan_tells agrees (Segments n) (w, l) e = (λ h. inr (w, (count_tells w (agrees w)).0 (ap (of_count s bs room rest) l ∙ sym (after_count_lem s bs room rest n) ∙ h)), from)
    where
      from : ScanSays → of_scan s bs room rest (Segments n) ≡ v
      from (inl (j, x, h)) = absurd (x.ill_formed w)
      from (inr (u, x)) =
          let same : n ≡ length u.message = segments_is (sym e ∙ accepts s service bs u) in
          after_count_lem s bs room rest n ∙ ap (of_count s bs room rest) same ∙ (count_tells u (agrees u)).1 x

  sized_tells : (Sized bs → (w : WellFormed s bs) → Agrees w) → (b : Bool) → is_sized bs ≡ b → (cond b (of_scan s bs room rest (scanned s bs)) (answer 3 0) ≡ v) ↔ BytesSay s bs room Rest v
  sized_tells agrees true e =
      unless true (answer 3 0) (of_scan s bs room rest (scanned s bs)) v (subst (λ (b : Bool). (b ≡ true) ↔ Sized bs) e (sized_exactly bs))
      (scan_tells (agrees ((sized_exactly bs).0 e)) (scanned s bs) (scan_means s service bs) refl)
  sized_tells agrees false e = (λ h. inl (λ z. true≢false (sym ((sized_exactly bs).1 z) ∙ e), sym h), from)
    where
      from : BytesSay s bs room Rest v → answer 3 0 ≡ v
      from (inl (x, h)) = sym h
      from (inr (z, x)) = absurd (true≢false (sym ((sized_exactly bs).1 z) ∙ e))

  -- the law: the message's stage, and behind it the rest
  pub message_tells : (Sized bs → (w : WellFormed s bs) → Agrees w) → (then (message_stage s bs room) (λ x. rest x.place.at) ≡ v) ↔ BytesSay s bs room Rest v
  message_tells agrees =
      subst (λ (x : Verdict). (x ≡ v) ↔ BytesSay s bs room Rest v) (sym (after_message s bs room rest)) (sized_tells agrees (is_sized bs) refl)

-- ---- the message alone: number 0 with its segment count

module _ (s : Service) (service : GoodService s) (bs : List ℕ) (room : Room) (v : Verdict) where
  abbrev Passes : Message → Verdict → Type 0
  Passes m x = x ≡ answer 0 (length m)

  alone : then (message_stage s bs room) (λ x. answer 0 x.place.at) ≡ message_stage s bs room
  alone = go (eqb (message_stage s bs room).number 0) refl
    where
      go : (b : Bool) → eqb (message_stage s bs room).number 0 ≡ b → cond b (answer 0 (message_stage s bs room).place.at) (message_stage s bs room) ≡ message_stage s bs room
      go true e =
          let same = (clear_message s bs room (eqb-true (message_stage s bs room).number 0 e)).same in
          ap (λ (x : Verdict). answer 0 x.place.at) same ∙ sym same
      go false e = refl

  pub message_alone : (message_stage s bs room ≡ v) ↔ BytesSay s bs room Passes v
  message_alone =
      subst (λ (x : Verdict). (x ≡ v) ↔ BytesSay s bs room Passes v) alone (message_tells s service bs room (answer 0) Passes v (λ z w none. (sym, sym)))
