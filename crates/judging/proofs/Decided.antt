-- The two ways out of `judge`: a refusal, which leaves the tables alone, and the verdict on what was written into them.
use Prim.Native.Nat.{ℕ, ◌≤◌}
use native.Mathlib.Omega.{arith}
use mathlib.Core.Path.{◌≡◌, refl, sym, ap, ap₂, ◌∙◌, subst}
use mathlib.Core.List.{List, ◌++◌}
use mathlib.Core.Bool.{Bool, true, false, cond, ◌&&◌}
use lib.Dec.{eqb}
use lib.ListN.{length, take, drop, length-map}
use lib.Seq.{sets, take-append_seam}
use borrow.Author.Tests.{eq-eqb, ne_eqb, le-leb}
use Rattle.framing.specs.meaning.Limits.{most_bytes}
use Rattle.reading.specs.meaning.Service.{standard}
use Rattle.reading.specs.method.Outcome.{Segments}
use Rattle.reading.specs.declared.service.Service.{Service}
use Rattle.reading.proofs.Starts.{starts_counted, starts_small}
use Rattle.framing.specs.meaning.Record.{answer}
use Rattle.framing.specs.method.Stages.{or_else, message_stage}
use Rattle.judging.specs.meaning.Tables.{is_refusal, Tables, tables, room_of}
use Rattle.framing.specs.declared.message.Room.{Room}
use Rattle.framing.specs.declared.verdict.Verdict.{Verdict}
use Rattle.framing.proofs.Messages.{sized_within}
use Rattle.framing.proofs.Passing.{fault, first_clear, first_passed, room_exactly, ClearMessage, clear_message, Low, low_cond, low_or, low_message}
use Rattle.guide.specs.meaning.Guide.{guide_of}
use Rattle.guide.specs.meaning.Plan.{plan_in}
use Rattle.book.specs.method.Each.{is_good}
use Rattle.judging.specs.method.Answers.{placing_verdict, fields_verdict, rows_verdict}
use Rattle.placing.specs.method.Fitting.{home_at}
use Rattle.reading.specs.method.Starts.{starts_from, starts_table}
use Rattle.placing.specs.method.Passes.{homes_from, tested, homes_table, parents_table}
use Rattle.placing.proofs.Passing.{filled}
use Rattle.std.specs.Prelude.{⊤, Option, Some, None, Result, Ok, Err}
use Rattle.placing.specs.declared.passes.Unplaced.{Unplaced}
use Rattle.placing.specs.declared.passes.Unplaced.TheVariants.{NoHome, Stops}
use Rattle.fields.specs.method.Testing.{first_fault}
use Rattle.fields.specs.declared.passes.FirstFault.{FirstFault}
use Rattle.rules.specs.method.Conditions.{are_truth_values}
use Rattle.rules.specs.method.Identifiers.{identified}
use Rattle.rules.specs.method.Scanning.{scanned_row}
use Rattle.rules.specs.method.Scanning.{Outcome}
use Rattle.rules.specs.declared.finding.Finding.TheVariants.{Broken, Unsettled}
use Rattle.judging.specs.method.Table.{book_stage, conditions_stage, placing_stage, refusal, identifier_in, identifier_verdict, placed_verdict, placed_stage, judged, unless_refused, tables_after}
use Rattle.judging.proofs.Refusals.{refusal_is}

-- ---- which numbers are refusals

low_placing : (n : ℕ) (p : Result ⊤ Unplaced) → Low (placing_verdict n p)
low_placing n (Ok _) = omega arith
low_placing n (Err (NoHome k)) = omega arith
low_placing n (Err (Stops k)) = omega arith

module _ (s : Service) (bs : List ℕ) where
  pub low_refusal : (book cs : List ℕ) (room : Room) → Low (refusal s bs book cs room)
  low_refusal book cs room =
      subst Low (sym (refusal_is s bs book cs room))
      (low_or (book_stage book) (or_else (conditions_stage (guide_of book) cs) (or_else (message_stage s bs room) (placing_stage s bs book (message_stage s bs room).place.at)))
      (low_cond (is_good book) (answer 1 0) (answer 0 0) (omega arith) (omega arith))
      (low_or (conditions_stage (guide_of book) cs) (or_else (message_stage s bs room) (placing_stage s bs book (message_stage s bs room).place.at))
      (low_cond (eqb (length cs) (guide_of book).conditions && are_truth_values cs) (answer 2 0) (answer 0 0) (omega arith) (omega arith))
      (low_or (message_stage s bs room) (placing_stage s bs book (message_stage s bs room).place.at) (low_message s bs room)
      (low_placing (message_stage s bs room).place.at (tested (plan_in book) (homes_from s bs book (message_stage s bs room).place.at 0))))))

pub refusal_number : (n : ℕ) → (n ≡ 0 → ⊥) → n ≤ 11 → is_refusal n ≡ true
refusal_number n z h = rw (le-leb 1 n (omega arith), le-leb n 11 h)

pub not_refused : (v : Verdict) (before after : List ℕ) → is_refusal v.number ≡ false → after ≡ unless_refused v before after
not_refused v before after e = ap (λ (b : Bool). cond b before after) (sym e)

-- the verdicts on a placed message are no refusals
rows_number : (n : ℕ) (f : Outcome) → is_refusal (rows_verdict n f).number ≡ false
rows_number n (Ok _) = refl
rows_number n (Err (Broken k l)) = refl
rows_number n (Err (Unsettled k l c)) = refl

module _ (s : Service) (book bs cs : List ℕ) (n : ℕ) where
  pub placed_number : is_refusal (placed_stage s bs book cs n).number ≡ false
  unfolding placed_stage
  placed_number =
      go (first_fault s (guide_of book) bs 0 (starts_from s bs n 0) (homes_from s bs book n 0))
      (identified (guide_of book) (identifier_in s (guide_of book) bs (starts_from s bs n 0) (homes_from s bs book n 0)))
    where
      go : (f : Result ⊤ FirstFault) (i : Option ℕ)
          → is_refusal (fields_verdict f (identifier_verdict (guide_of book) cs n (homes_from s bs book n 0) i)).number ≡ false
      go (Err x) i = refl
      go (Ok _) None = refl
      go (Ok _) (Some p) = rows_number n (scanned_row (guide_of book) p cs (homes_from s bs book n 0))

-- ---- where nothing is refused, each stage has passed

pub placing_same : (n : ℕ) (p : Result ⊤ Unplaced) → (placing_verdict n p).number ≡ 0 → (p ≡ Ok tt) × (placing_verdict n p ≡ answer 0 n)
placing_same n (Ok _) e = (refl, refl)
placing_same n (Err (NoHome k)) e = absurd (fault {n = 10} (omega arith) e)
placing_same n (Err (Stops k)) e = absurd (fault {n = 11} (omega arith) e)

pub record ClearStages (s : Service) (bs book cs : List ℕ) (room : Room) : Type 0 where
  pub book_passed : (book_stage book).number ≡ 0
  pub message_passed : ClearMessage s bs room (message_stage s bs room)
  pub placing_passed : tested (plan_in book) (homes_from s bs book message_passed.segments 0) ≡ Ok tt
  pub same : refusal s bs book cs room ≡ answer 0 message_passed.segments

module _ (s : Service) (bs book cs : List ℕ) (room : Room) where
  pub clear_stages : (refusal s bs book cs room).number ≡ 0 → ClearStages s bs book cs room
  clear_stages e =
      let from_message = or_else (message_stage s bs room) (placing_stage s bs book (message_stage s bs room).place.at) in
      let from_conditions = or_else (conditions_stage (guide_of book) cs) from_message in
      let e1 : (or_else (book_stage book) from_conditions).number ≡ 0 = sym (ap (λ (v : Verdict). v.number) (refusal_is s bs book cs room)) ∙ e in
      let z1 = first_clear (book_stage book) from_conditions e1 in
      let p1 = first_passed (book_stage book) from_conditions z1 in
      let e2 = sym (ap (λ (v : Verdict). v.number) p1) ∙ e1 in
      let p2 = first_passed (conditions_stage (guide_of book) cs) from_message (first_clear (conditions_stage (guide_of book) cs) from_message e2) in
      let e3 = sym (ap (λ (v : Verdict). v.number) p2) ∙ e2 in
      let z3 = first_clear (message_stage s bs room) (placing_stage s bs book (message_stage s bs room).place.at) e3 in
      let p3 = first_passed (message_stage s bs room) (placing_stage s bs book (message_stage s bs room).place.at) z3 in
      let e4 = sym (ap (λ (v : Verdict). v.number) p3) ∙ e3 in
      go z1 (clear_message s bs room z3) (refusal_is s bs book cs room ∙ p1 ∙ p2 ∙ p3) e4
    where
      go : (book_stage book).number ≡ 0 → (c : ClearMessage s bs room (message_stage s bs room)) → refusal s bs book cs room ≡ placing_stage s bs book (message_stage s bs room).place.at
          → (placing_stage s bs book (message_stage s bs room).place.at).number ≡ 0 → ClearStages s bs book cs room
      go b c is z =
          let count : (message_stage s bs room).place.at ≡ c.segments = ap (λ (v : Verdict). v.place.at) c.same in
          let p = placing_same c.segments (tested (plan_in book) (homes_from s bs book c.segments 0)) (sym (ap (λ (k : ℕ). (placing_stage s bs book k).number) count) ∙ z) in
          record { book_passed = b; message_passed = c; placing_passed = p.0; same = is ∙ ap (placing_stage s bs book) count ∙ p.1 }

-- ---- a table that was written holds what was written

front_filled : (xs table : List ℕ) (n : ℕ) → length xs ≡ n → n ≤ length table → take n (sets table 0 xs) ≡ xs
front_filled xs table n e h = ap (take n) (filled xs table n e h) ∙ ap (λ (k : ℕ). take k (xs ++ drop n table)) (sym e) ∙ take-append_seam xs (drop n table)

module _ (s : Service) (bs book cs : List ℕ) (t : Tables) where
  abbrev room : Room
  room = room_of t

  module _ (r : Verdict) (e : r ≡ refusal s bs book cs room) where
    -- ---- refused

    pub decided_refused : (r.number ≡ 0 → ⊥) → (r ≡ judged s bs book cs room) × (t ≡ tables_after s bs book cs t)
    unfolding judged
    decided_refused n =
        let same : judged s bs book cs room ≡ r = rw (ne_eqb (refusal s bs book cs room).number 0 (λ z. n (ap (λ (v : Verdict). v.number) e ∙ z))) (sym e) in
        let refused : is_refusal (judged s bs book cs room).number ≡ true =
        ap (λ (v : Verdict). is_refusal v.number) same ∙ refusal_number r.number n (subst (λ (v : Verdict). v.number ≤ 11) (sym e) (low_refusal s bs book cs room)) in
        (sym same, sym (rw refused))

    -- ---- placed

    module _ (z : r.number ≡ 0) where
      c : ClearStages s bs book cs room
      c = clear_stages s bs book cs room (sym (ap (λ (v : Verdict). v.number) e) ∙ z)

      pub within : length bs ≤ most_bytes
      within = sized_within bs c.message_passed.sized

      abbrev n : ℕ
      n = r.place.at

      count : n ≡ c.message_passed.segments
      count = ap (λ (v : Verdict). v.place.at) (e ∙ c.same)

      as_many : length (starts_from s bs n 0) ≡ n
      as_many = starts_counted s bs n (sym (c.message_passed.scan ∙ ap Segments (sym count)))

      module _ (starts homes parents : List ℕ) (es : starts ≡ starts_table s bs n t.starts) (eh : homes ≡ homes_table s bs book n t.homes)
          (ep : parents ≡ parents_table s bs book n t.parents) where
        starts-are : take n starts ≡ starts_from s bs n 0
        starts-are =
            let h = within in
            let i = ((room_exactly room c.message_passed.segments).0 c.message_passed.roomy).starts in
            ap (take n) (es ∙ ap (sets t.starts 0) (starts_small s bs (omega arith) n 0)) ∙ front_filled (starts_from s bs n 0) t.starts n as_many (omega (arith, count))

        homes-are : take n homes ≡ homes_from s bs book n 0
        homes-are =
            let i = ((room_exactly room c.message_passed.segments).0 c.message_passed.roomy).homes in
            ap (take n) eh
            ∙ front_filled (homes_from s bs book n 0) t.homes n (length-map (starts_from s bs n 0) (home_at s (guide_of book) bs) ∙ as_many) (omega (arith, count))

        judged-is : judged s bs book cs room ≡ placed_stage s bs book cs n
        unfolding judged
        judged-is =
            rw (eq-eqb (refusal s bs book cs room).number 0 (sym (ap (λ (v : Verdict). v.number) e) ∙ z))
            (ap (placed_stage s bs book cs) (ap (λ (v : Verdict). v.place.at) (sym e)))

        stage_is : placed_verdict s (guide_of book) bs cs n (take n starts) (take n homes) ≡ placed_stage s bs book cs n
        unfolding placed_stage
        stage_is = ap₂ (placed_verdict s (guide_of book) bs cs n) starts-are homes-are

        pub decided_placed : (v : Verdict) → v ≡ placed_verdict s (guide_of book) bs cs n (take n starts) (take n homes)
            → (v ≡ judged s bs book cs room) × (tables starts homes parents ≡ tables_after s bs book cs t)
        decided_placed v h =
            let accepted : is_refusal (judged s bs book cs room).number ≡ false = ap (λ (x : Verdict). is_refusal x.number) judged-is ∙ placed_number s book bs cs n in
            let at : n ≡ (refusal s bs book cs room).place.at = ap (λ (x : Verdict). x.place.at) e in
            (h ∙ stage_is ∙ sym judged-is, written accepted at)
          where
            written : is_refusal (judged s bs book cs room).number ≡ false → n ≡ (refusal s bs book cs room).place.at → tables starts homes parents ≡ tables_after s bs book cs t
            written accepted at i =
                record {
                  starts = (es ∙ ap (λ (k : ℕ). starts_table s bs k t.starts) at ∙ not_refused (judged s bs book cs room) t.starts (starts_table s bs (refusal s bs book cs room).place.at t.starts) accepted) i;
                  homes = (eh ∙ ap (λ (k : ℕ). homes_table s bs book k t.homes) at ∙ not_refused (judged s bs book cs room) t.homes (homes_table s bs book (refusal s bs book cs room).place.at t.homes) accepted) i;
                  parents = (ep ∙ ap (λ (k : ℕ). parents_table s bs book k t.parents) at ∙ not_refused (judged s bs book cs room) t.parents (parents_table s bs book (refusal s bs book cs room).place.at t.parents) accepted) i;
                }

-- under the standard service characters
pub standard_decided : (s : Service) → s ≡ standard → (v : Verdict) (bs book cs : List ℕ) (t u : Tables) → (v ≡ judged s bs book cs (room_of t)) × (u ≡ tables_after s bs book cs t)
    → (v ≡ judged standard bs book cs (room_of t)) × (u ≡ tables_after standard bs book cs t)
standard_decided s e v bs book cs t u h = subst (λ (x : Service). (v ≡ judged x bs book cs (room_of t)) × (u ≡ tables_after x bs book cs t)) e h
