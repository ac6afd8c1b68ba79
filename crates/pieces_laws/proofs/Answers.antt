-- What the end answers is what the table says of the text.
use Prim.Native.Nat.{ℕ, ◌^◌, ◌≤◌, ◌<◌}
use native.Mathlib.Omega.{arith}
use mathlib.Core.Path.{◌≡◌, refl, sym, ap, ◌∙◌, subst}
use mathlib.Core.List.{List, [], append-nil, nil≢cons}
use mathlib.Core.Bool.{Bool, true, false, false≢true, cond, ◌&&◌}
use mathlib.Core.Logic.{inl, inr, ◌↔◌}
use lib.Dec.{leb, ltb}
use lib.ListN.{length}
use lib.Seq.{take_all}
use borrow.Author.Tests.{leb-true, ltb-true, le-leb, lt-ltb}
use Rattle.slices.specs.method.Entries.{entry}
use Rattle.reading.specs.meaning.Service.{GoodService}
use Rattle.reading.specs.meaning.Message.{Message, write_segments}
use Rattle.reading.specs.meaning.WellFormed.{WellFormed}
use Rattle.reading.specs.method.Machine.{pick, is_start, finished, scan_on, scanned}
use Rattle.reading.specs.method.Outcome.{Segments, BadAt}
use Rattle.reading.specs.declared.service.Service.{Service}
use Rattle.reading.proofs.Booleans.{halves, both}
use Rattle.reading_laws.proofs.FirstBad.{scan_accepts, first_bad}
use Rattle.framing.specs.meaning.Limits.{most_bytes, most_segments}
use Rattle.framing.specs.meaning.Record.{answer}
use Rattle.framing.specs.meaning.Table.{Unless, Sized}
use Rattle.framing.specs.declared.verdict.Verdict.{Verdict}
use Rattle.framing_laws.proofs.MessageMeans.{few_exactly}
use Rattle.pieces.specs.meaning.Pieces.{TextSays}
use Rattle.pieces.specs.declared.progress.Progress.{Progress}
use Rattle.pieces.specs.method.Progress.{reached_before, reached, is_complete, answer_of}
use Rattle.pieces_laws.proofs.Capped.{capped_is, capped_few, capped_some, small_entry}
use Rattle.pieces_laws.proofs.OneVerdict.{Found, Counted, Scanned}
use Rattle.pieces_laws.proofs.Told.{Lacking}
use Rattle.pieces_laws.proofs.Sound.{Sound, bytes_are, parsed_text}
use Rattle.pieces_laws.proofs.Finished.{one_finished, finished_here}

-- a stage of the table, by its test
by_test : {Met : Type 0} (Rest : Verdict → Type 0) (t : Bool) (fault more : Verdict) → ((t ≡ true) ↔ Met) → (Met → Rest more)
    → Unless Met (cond t more fault ≡ fault) (Rest (cond t more fault))
by_test Rest true fault more e r = inr (e.0 refl, r (e.0 refl))
by_test Rest false fault more e r = inl (λ h. false≢true (e.1 h), refl)

module _ (s : Service) (good : GoodService s) {memory text lents : List ℕ} {p : Progress} {now : List ℕ} (x : Sound s memory text lents p now) where
  -- ---- number 3

  sized_exactly : (ltb 0 p.bytes && leb p.bytes most_bytes ≡ true) ↔ Sized text
  sized_exactly = (
    λ e. let h = halves (ltb 0 p.bytes) (leb p.bytes most_bytes) e in
        record { some = ltb-true 0 (length text) (sym some ∙ h.0); within = leb-true (length text) most_bytes (sym few ∙ h.1) },
    λ z. both (some ∙ lt-ltb 0 (length text) z.some) (few ∙ le-leb (length text) most_bytes z.within),
  )
    where
      some : ltb 0 p.bytes ≡ ltb 0 (length text)
      some = ap (ltb 0) x.counted ∙ capped_some most_bytes (length text)

      few : leb p.bytes most_bytes ≡ leb (length text) most_bytes
      few = ap (λ (n : ℕ). leb n most_bytes) x.counted ∙ capped_few most_bytes (length text)

  -- ---- numbers 5 and 6

  few_segments : (leb p.segments most_segments ≡ true) ↔ (length x.message ≤ most_segments)
  few_segments =
      let same : leb p.segments most_segments ≡ leb (length x.message) most_segments =
      ap (λ (n : ℕ). leb n most_segments) x.parsed.segments ∙ capped_few most_segments (length x.message) in
      rw same (few_exactly (length x.message) most_segments)

  segments_are : length x.message ≤ most_segments → entry p.segments ≡ length x.message
  segments_are few = ap entry (x.parsed.segments ∙ capped_is most_segments (length x.message) few) ∙ small_entry (length x.message) (omega arith)

  room_says : (m : Message) → length m ≤ most_segments → (t : Bool) → Lacking s m lents t
      → Unless (Found s lents m) (cond t (answer 6 (length m)) (answer 0 (length m)) ≡ answer 6 (length m)) (cond t (answer 6 (length m)) (answer 0 (length m)) ≡ answer 0 (length m))
  room_says m few true (k, h, a, f) = inl (λ all. f (all k h), refl)
  room_says m few false l = inr (λ k h. l k h (omega arith), refl)

  abbrev after_count : Verdict
  after_count = cond (leb p.segments most_segments) (cond p.lacking (answer 6 (entry p.segments)) (answer 0 (entry p.segments))) (answer 5 0)

  count_says : Counted s lents x.message after_count
  count_says =
      by_test (λ v. Unless (Found s lents x.message) (v ≡ answer 6 (length x.message)) (v ≡ answer 0 (length x.message)))
      (leb p.segments most_segments) (answer 5 0) (cond p.lacking (answer 6 (entry p.segments)) (answer 0 (entry p.segments))) few_segments
      (λ few. rw (segments_are few) (room_says x.message few p.lacking x.told.lacking))

  -- ---- number 4

  module _ (sized : Sized text) where
    abbrev complete : Bool
    complete = is_start p.state && ltb 0 (length x.message)

    complete_same : is_complete p ≡ complete
    complete_same =
        ap (λ (t : Bool). is_start p.state && t) (ap (ltb 0) x.parsed.segments ∙ capped_some most_segments (length x.message))

    scan_is : scanned s text ≡ pick complete (Segments (length x.message)) (BadAt (reached p))
    unfolding scan_on
    scan_is =
        ap (scanned s) (sym (append-nil text)) ∙ (parsed_text s x sized.within).scanning []
        ∙ ap (λ (at : ℕ). finished p.state (length x.message) (reached_before p at)) (sym (bytes_are s x sized.within))

    whole_message : (w : WellFormed s text) → w.message ≡ x.message
    unfolding write_segments
    whole_message w =
        one_finished s good text w.message x.message
        (record { valid = w.valid.segments; rest = []; same = take_all most_bytes text sized.within ∙ w.same; no_more = λ g i. nil≢cons i.same }) (finished_here s good x)

    scan_says : (t : Bool) → scanned s text ≡ pick t (Segments (length x.message)) (BadAt (reached p)) → Scanned s lents text (cond t after_count (answer 4 (entry (reached p))))
    scan_says true e = let w = ((scan_accepts s good text (length x.message)).0 e).0 in inr (w, subst (λ (m : Message). Counted s lents m after_count) (sym (whole_message w)) count_says)
    scan_says false e =
        let bad = (first_bad s good text (reached p)).0 e in
        let small : reached p < 2 ^ 32 = let w = bad.within in let z = sized.within in omega arith in
        inl (reached p, bad, ap (answer 4) (small_entry (reached p) small))

  pub sound_answer : TextSays s text lents (answer_of p)
  unfolding answer_of
  sound_answer =
      by_test (Scanned s lents text)
      (ltb 0 p.bytes && leb p.bytes most_bytes) (answer 3 0) (cond (is_complete p) after_count (answer 4 (entry (reached p)))) sized_exactly
      (λ z. rw (complete_same z) (scan_says z (complete z) (scan_is z)))
