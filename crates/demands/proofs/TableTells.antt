-- The table says what the verdict is, stage by stage: numbers 1, 2, 10 and 11; 3 to 9 by the law of framing_laws.
use Prim.Native.Nat.{ℕ, suc, ◌+◌, ◌≤◌, ◌<◌}
use native.Mathlib.Omega.{arith}
use mathlib.Core.Path.{◌≡◌, refl, sym, ap, ◌∙◌, subst}
use mathlib.Core.List.{List, [], ◌∷◌}
use mathlib.Core.Bool.{Bool, true, false, true≢false, false≢true, cond, ◌&&◌}
use mathlib.Core.Logic.{◌↔◌, inl, inr}
use lib.Dec.{eqb, leb}
use lib.ListN.{length}
use borrow.Author.Tests.{eq-eqb, ne_eqb, eqb-true, eqb-false, le-leb, leb-true}
use Rattle.guide.specs.meaning.Words.{group_kind}
use Rattle.guide.specs.meaning.Guide.{Guide, guide_of}
use Rattle.book.specs.meaning.GoodBook.{GoodBook, frame_rule}
use Rattle.guide.specs.meaning.View.{line_of}
use Rattle.book_laws.proofs.Clauses.{last_frame, counts}
use Rattle.reading.specs.meaning.Service.{All, GoodService}
use Rattle.reading.specs.meaning.Message.{Segment, Message, ValidTag, ValidSegment}
use Rattle.reading.specs.meaning.WellFormed.{WellFormed}
use Rattle.reading.specs.meaning.Tag.{tag_number, UNT}
use Rattle.reading.specs.declared.service.Service.{Service}
use Rattle.guide.specs.meaning.Plan.{plan_in}
use Rattle.placing.specs.meaning.Fitting.{fits, has_tag, home_of, homes_in}
use Rattle.placing.specs.meaning.Placement.{Placed, parents_of}
use Rattle.placing.specs.meaning.Answers.{HaveHomes}
use Rattle.placing.specs.method.Passes.{homes_from, tested}
use Rattle.placing_laws.specs.laws.Answers as passes
use Rattle.std.specs.Prelude.{⊤, Result, Ok, Err}
use Rattle.placing.specs.declared.passes.Unplaced.{Unplaced}
use Rattle.placing.specs.declared.passes.Unplaced.TheVariants.{NoHome, Stops}
use Rattle.placing_laws.proofs.Structured.{structured}
use Rattle.placing_laws.proofs.Homes.{same_tag, fits_home}
use Rattle.placing_laws.proofs.Messages.{tested_message}
use Rattle.placing_laws.proofs.Stopping.{EndsOnLast, allowed_ends, one_meaning}
use Rattle.framing.specs.meaning.Record.{answer}
use Rattle.framing.specs.method.Stages.{frame_of}
use Rattle.rules.specs.method.Conditions.{are_truth_values}
use Rattle.book.specs.method.Each.{is_good}
use Rattle.judging.specs.method.Table.{placed_stage, judged}
use Rattle.judging.specs.method.Answers.{placing_verdict}
use Rattle.framing.specs.meaning.Table.{NoneWrong, Sized, Misplaced, no_unt, BytesSay}
use Rattle.demands.specs.meaning.Table.{FitConditions, PlacedSays, HomesSay, TableSays}
use Rattle.framing.specs.method.Stages.{Frame}
use Rattle.framing.specs.declared.message.Room.{Room}
use Rattle.framing.specs.declared.verdict.Verdict.{Verdict}
use Rattle.book.proofs.Tested.{good_exactly}
use Rattle.framing_laws.proofs.MessageMeans.{unless, Framed, wrong, right, frame_says}
use Rattle.reading_laws.proofs.Tags.{one_tag, valid_unt}
use Rattle.reading.proofs.Booleans.{halves}
use Rattle.framing_laws.proofs.MessageTells.{Agrees, message_tells}
use Rattle.demands.proofs.InOrder.{of_placing, of_homes, of_message, of_conditions, in_order}

-- ---- number 2

known_exactly : (cs : List ℕ) → (are_truth_values cs ≡ true) ↔ All (λ c. c ≤ 2) cs
known_exactly [] = (λ e. tt, λ a. refl)
known_exactly (c ∷ cs) = (
  λ e. let h = halves (leb c 2) (are_truth_values cs) e in (leb-true c 2 h.0, (known_exactly cs).0 h.1),
  λ a. rw (le-leb c 2 a.0, (known_exactly cs).1 a.1),
)

conditions_exactly : (g : Guide) (cs : List ℕ) → ((eqb (length cs) g.conditions && are_truth_values cs) ≡ true) ↔ FitConditions g cs
conditions_exactly g cs = (
  λ e. let h = halves (eqb (length cs) g.conditions) (are_truth_values cs) e in
      record { as_many = eqb-true (length cs) g.conditions h.0; bytes = (known_exactly cs).0 h.1 },
  λ f. rw (eq-eqb (length cs) g.conditions f.as_many, (known_exactly cs).1 f.bytes),
)

-- ---- the last segment's home is the last line

module _ (book : List ℕ) (good : GoodBook book) where
  fits_last : (x : Segment) → ValidTag x.tag → x.tag ≡ UNT → fits (line_of (guide_of book) (guide_of book).lines) x ≡ true
  unfolding fits frame_rule
  fits_last x v e =
      let f = last_frame book good in
      let c = counts book good in
      let some = c.0 in
      let tagged : has_tag x.tag (line_of (guide_of book) (guide_of book).lines).tag ≡ true =
      sym (same_tag book good (guide_of book).lines (omega arith) (omega arith) x.tag v)
      ∙ eq-eqb ((guide_of book).tag (guide_of book).lines) (tag_number x.tag) (f.1.0 ∙ sym (ap tag_number e)) in
      rw (ne_eqb ((guide_of book).kind (guide_of book).lines) group_kind (λ z. let k = f.0 in omega arith), tagged, eq-eqb ((guide_of book).selector_element (guide_of book).lines) 0 f.1.1.1.1.1)

  last_home : (x : Segment) → ValidTag x.tag → x.tag ≡ UNT → home_of (guide_of book) x ≡ (guide_of book).lines
  last_home x v e =
      let c = counts book good in
      let some = c.0 in
      fits_home book good x (guide_of book).lines (omega arith) (omega arith) (fits_last x v e)

  -- a message whose frame is right ends with UNT
  ends_with_unt : (n k : ℕ) (g : Segment) (gs : Message) → All ValidSegment (g ∷ gs) → suc k + length gs ≡ n → NoneWrong (Misplaced n) k (g ∷ gs)
      → EndsOnLast (plan_in book) (structured book good) (homes_in book (g ∷ gs))
  ends_with_unt n k g [] v e w = record { front = []; same = ap (λ (x : ℕ). x ∷ []) (last_home g v.0.tag (go (eqb (tag_number g.tag) (tag_number UNT)) refl)) }
    where
      go : (b : Bool) → eqb (tag_number g.tag) (tag_number UNT) ≡ b → g.tag ≡ UNT
      go true h = one_tag g.tag UNT v.0.tag valid_unt (eqb-true (tag_number g.tag) (tag_number UNT) h)
      go false h = absurd (w.0 (no_unt (omega arith) (λ z. eqb-false (tag_number g.tag) (tag_number UNT) h (ap tag_number z))))
  ends_with_unt n k g (h ∷ gs) v e w =
      let r = ends_with_unt n (suc k) h gs v.1 (omega arith) w.1 in
      record { front = home_of (guide_of book) g ∷ r.front; same = ap (λ (xs : List ℕ). home_of (guide_of book) g ∷ xs) r.same }

-- of a message whose frame closes
pub framed_ends : (s : Service) (service : GoodService s) (bs book : List ℕ) (good : GoodBook book) (w : WellFormed s bs) (last : ℕ)
    → frame_of s bs (length w.message) ≡ Ok last → EndsOnLast (plan_in book) (structured book good) (homes_in book w.message)
framed_ends s service bs book good w last e =
    go w.message w.valid.segments w.valid.non_empty refl
    (none (frame_of s bs (length w.message)) e (frame_says s service bs w))
  where
    is_closed : Frame → Bool
    is_closed (Err _) = false
    is_closed (Ok _) = true

    none : (f : Frame) → f ≡ Ok last → Framed s service (length w.message) bs 0 0 w.message f → NoneWrong (Misplaced (length w.message)) 0 w.message
    none f h (wrong p i) = absurd (false≢true (ap is_closed h))
    none f h (right at i l) = i

    go : (x : Message) → All ValidSegment x → 0 < length x → length x ≡ length w.message → NoneWrong (Misplaced (length w.message)) 0 x
        → EndsOnLast (plan_in book) (structured book good) (homes_in book x)
    go [] a l h i = absurd (omega arith)
    go (g ∷ gs) a l h i = ends_with_unt book good (length w.message) 0 g gs a (omega arith) i

module _ (s : Service) (service : GoodService s) (bs book cs : List ℕ) (room : Room) (v : Verdict) where
  -- ---- numbers 10 and 11: what is left to be said is of a message that is placed

  module _ (good : GoodBook book) (w : WellFormed s bs) where
    abbrev m : Message
    m = w.message

    abbrev n : ℕ
    n = length w.message

    abbrev hs : List ℕ
    hs = homes_in book m

    abbrev Found : Result ⊤ Unplaced → Type 0
    Found p = passes.Means (plan_in book) hs p

    one : (p q : Result ⊤ Unplaced) → Found p → Found q → p ≡ q
    one = one_meaning (plan_in book) (structured book good) hs

    begins : HaveHomes hs → Placed (plan_in book) hs → Found (Ok tt)
    begins h t = (h, ((allowed_ends (plan_in book) (structured book good) hs).1 t).0)

    abbrev is_begins : Result ⊤ Unplaced → Bool
    is_begins (Ok _) = true
    is_begins (Err (NoHome k)) = false
    is_begins (Err (Stops k)) = false

    abbrev is_no_home : Result ⊤ Unplaced → Bool
    is_no_home (Ok _) = false
    is_no_home (Err (NoHome k)) = true
    is_no_home (Err (Stops k)) = false

    abbrev PlacedIff : Type 0
    PlacedIff = (t : Placed (plan_in book) hs) → (placed_stage s bs book cs n ≡ v) ↔ PlacedSays s bs book cs room m hs (parents_of t.tree) v

    homes_say : EndsOnLast (plan_in book) (structured book good) hs → PlacedIff → (p : Result ⊤ Unplaced) → Found p
        → (of_placing s bs book cs room n p ≡ v) ↔ HomesSay s bs book cs room m hs v
    homes_say last later (Ok _) f = (to, from)
      where
        t : Placed (plan_in book) hs
        t = (allowed_ends (plan_in book) (structured book good) hs).0 (f.1, last)

        to : placed_stage s bs book cs n ≡ v → HomesSay s bs book cs room m hs v
        to e = inr (f.0, inr (t, (later t).0 e))

        from : HomesSay s bs book cs room m hs v → placed_stage s bs book cs n ≡ v
        from (inl (k, x, e)) = absurd (true≢false (ap is_begins (one (Ok tt) (Err (NoHome k)) f x)))
        from (inr (h, inl (k, x, e))) = absurd (true≢false (ap is_begins (one (Ok tt) (Err (Stops k)) f (h, x))))
        from (inr (h, inr (u, x))) = (later u).1 x
    homes_say last later (Err (NoHome k)) f = (λ e. inl (k, f, sym e), from)
      where
        from : HomesSay s bs book cs room m hs v → placing_verdict n (Err (NoHome k)) ≡ v
        from (inl (j, x, e)) = ap (placing_verdict n) (one (Err (NoHome k)) (Err (NoHome j)) f x) ∙ sym e
        from (inr (h, inl (j, x, e))) = absurd (true≢false (ap is_no_home (one (Err (NoHome k)) (Err (Stops j)) f (h, x))))
        from (inr (h, inr (u, x))) = absurd (true≢false (ap is_no_home (one (Err (NoHome k)) (Ok tt) f (begins h u))))
    homes_say last later (Err (Stops k)) f = (λ e. inr (f.0, inl (k, f.1, sym e)), from)
      where
        from : HomesSay s bs book cs room m hs v → placing_verdict n (Err (Stops k)) ≡ v
        from (inl (j, x, e)) = absurd (false≢true (ap is_no_home (one (Err (Stops k)) (Err (NoHome j)) f x)))
        from (inr (h, inl (j, x, e))) = ap (placing_verdict n) (one (Err (Stops k)) (Err (Stops j)) f (h, x)) ∙ sym e
        from (inr (h, inr (u, x))) = absurd (false≢true (ap is_begins (one (Err (Stops k)) (Ok tt) f (begins h u))))

    ends : (x : Message) → All ValidSegment x → 0 < length x → length x ≡ n → NoneWrong (Misplaced n) 0 x → EndsOnLast (plan_in book) (structured book good) (homes_in book x)
    ends [] a l e none = absurd (omega arith)
    ends (g ∷ gs) a l e none = ends_with_unt book good n 0 g gs a (omega arith) none

    -- ---- what is answered behind number 9, of a message whose frame is right

    agrees : PlacedIff → Agrees s service bs room (of_homes s bs book cs room) (λ x. HomesSay s bs book cs room x (homes_in book x)) v w
    agrees later none =
        homes_say (ends m w.valid.segments w.valid.non_empty refl none) later (tested (plan_in book) (homes_from s bs book n 0)) (tested_message s service bs w book good)

  -- ---- numbers 1 and 2

  module _ (later : GoodBook book → Sized bs → (w : WellFormed s bs) (t : Placed (plan_in book) (homes_in book w.message))
      → (placed_stage s bs book cs (length w.message) ≡ v) ↔ PlacedSays s bs book cs room w.message (homes_in book w.message) (parents_of t.tree) v) where
    message_said : GoodBook book → (of_message s bs book cs room ≡ v) ↔ BytesSay s bs room (λ x. HomesSay s bs book cs room x (homes_in book x)) v
    message_said good =
        message_tells s service bs room (of_homes s bs book cs room) (λ x. HomesSay s bs book cs room x (homes_in book x)) v (λ z w. agrees good w (later good z w))

    book_tells : (b : Bool) → is_good book ≡ b → (cond b (of_conditions s bs book cs room) (answer 1 0) ≡ v) ↔ TableSays s bs book cs room v
    book_tells true e =
        unless true (answer 1 0) (of_conditions s bs book cs room) v (subst (λ (b : Bool). (b ≡ true) ↔ GoodBook book) e (good_exactly book))
        (unless (eqb (length cs) (guide_of book).conditions && are_truth_values cs) (answer 2 0) (of_message s bs book cs room) v (conditions_exactly (guide_of book) cs) (message_said ((good_exactly book).0 e)))
    book_tells false e = (λ h. inl (λ z. true≢false (sym ((good_exactly book).1 z) ∙ e), sym h), from)
      where
        from : TableSays s bs book cs room v → answer 1 0 ≡ v
        from (inl (x, h)) = sym h
        from (inr (z, x)) = absurd (true≢false (sym ((good_exactly book).1 z) ∙ e))

    -- the law, but for what is said of a message that is placed
    pub table_tells : (judged s bs book cs room ≡ v) ↔ TableSays s bs book cs room v
    table_tells = subst (λ (x : Verdict). (x ≡ v) ↔ TableSays s bs book cs room v) (sym (in_order s bs book cs room)) (book_tells (is_good book) refl)
