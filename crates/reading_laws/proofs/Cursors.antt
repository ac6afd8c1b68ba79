-- Laws cursor and starts: a cursor finds the segment that is written at its offset, for any bytes and any offset; and moved
-- from a message's beginning it stands at each segment's start in turn.
use Prim.Native.Nat.{ℕ, suc, ◌+◌}
use native.Mathlib.Omega.{arith}
use mathlib.Core.Path.{◌≡◌, refl, sym, ap, ◌∙◌}
use mathlib.Core.List.{List, [], ◌∷◌, ◌++◌, nil≢cons}
use mathlib.Core.Option.{Option, some, none}
use mathlib.Core.Bool.{Bool, true, false}
use mathlib.Core.Logic.{◌⊎◌, inl, inr}
use lib.ListN.{length, drop, length-append}
use lib.Seq.{drop-append_seam, drop-drop, drop-length, take-length, take-append_seam, take-append-add}
use Rattle.std.specs.Prelude.{Some, None}
use Rattle.reading.specs.meaning.Service.{GoodService}
use Rattle.reading.specs.meaning.Message.{Segment, Message, ValidSegment, write_elements, write_segment, write_segments, render}
use Rattle.reading.specs.meaning.WellFormed.{SegmentAt, NoSegmentAt, end_of}
use Rattle.reading_laws.specs.laws.Outcome.{start_after}
use Rattle.reading.specs.meaning.Component.{span}
use Rattle.reading.specs.method.Machine.{pick, stepped, is_start, is_dead, end_on, segment_end, found_by, next_segment}
use Rattle.reading.specs.declared.service.Service.{Service}
use Rattle.reading.specs.declared.machine.State.{State}
use Rattle.reading.specs.declared.machine.State.TheVariants.{Start}
use Rattle.reading.proofs.States.{Course, ends, goes_on, fails, course}
use Rattle.reading_laws.proofs.Segments.{behind, none_some, some_is, behind_segment, segment_behind}
use Rattle.reading_laws.proofs.Rendering.{elements_long, segment_front, segments_append, segments_front}

-- ---- the end that is found is the place of the terminator behind which the rest is left

record EndsAt (s : Service) (p : State) (at : ℕ) (bs rest : List ℕ) : Type 0 where
  end : ℕ
  found : end_on s p at bs ≡ Some end
  counted : suc end + length rest ≡ at + length bs

module _ (s : Service) where
  end_step : (p q : State) (at b : ℕ) (bs : List ℕ) → stepped s p b ≡ q → end_on s p at (b ∷ bs) ≡ pick (is_start q) (Some at) (pick (is_dead q) None (end_on s q (at + 1) bs))
  unfolding end_on
  end_step p q at b bs e = ap (λ (x : State). pick (is_start x) (Some at) (pick (is_dead x) None (end_on s x (at + 1) bs))) e

  ends_at : (p : State) (at : ℕ) (bs rest : List ℕ) → behind s p bs ≡ some rest → EndsAt s p at bs rest
  unfolding behind
  ends_at p at [] rest e = absurd (none_some e)
  ends_at p at (b ∷ bs) rest e = go (course (stepped s p b)) refl (λ q. ends_at q (at + 1) bs rest) e
    where
      further : (q : State) → stepped s p b ≡ q → is_start q ≡ false → is_dead q ≡ false → EndsAt s q (at + 1) bs rest → EndsAt s p at (b ∷ bs) rest
      further q h t d i = record { end = i.end; found = end_step p q at b bs h ∙ rw (t, d) i.found; counted = let c = i.counted in omega arith }

      go : {q : State} → Course q → stepped s p b ≡ q → ((x : State) → behind s x bs ≡ some rest → EndsAt s x (at + 1) bs rest)
          → pick (is_start q) (some bs) (pick (is_dead q) none (behind s q bs)) ≡ some rest → EndsAt s p at (b ∷ bs) rest
      go ends h ih e =
          record { end = at; found = end_step p Start at b bs h; counted = let l : length bs ≡ length rest = ap length (some_is e) in omega arith }
      go (goes_on t d) h ih e = further _ h t d (ih _ (rw (t, d) at e))
      go fails h ih e = absurd (none_some e)

  ends_nowhere : (p : State) (at : ℕ) (bs : List ℕ) → behind s p bs ≡ none → end_on s p at bs ≡ None
  unfolding behind end_on
  ends_nowhere p at [] e = refl
  ends_nowhere p at (b ∷ bs) e = go (is_start (stepped s p b)) (is_dead (stepped s p b)) (ends_nowhere (stepped s p b) (at + 1) bs) e
    where
      go : (t d : Bool) → (behind s (stepped s p b) bs ≡ none → end_on s (stepped s p b) (at + 1) bs ≡ None)
          → pick t (some bs) (pick d none (behind s (stepped s p b) bs)) ≡ none → pick t (Some at) (pick d None (end_on s (stepped s p b) (at + 1) bs)) ≡ None
      go true true ih e = absurd (none_some (sym e))
      go true false ih e = absurd (none_some (sym e))
      go false true ih e = refl
      go false false ih e = ih e

module _ (s : Service) (good : GoodService s) where
  -- at every offset of any bytes a segment is written, or none is
  pub segment_or_none : (bs : List ℕ) (at : ℕ) → ((g : Segment) × SegmentAt s bs at g) ⊎ NoSegmentAt s bs at
  segment_or_none bs at = go (behind s Start (drop at bs)) refl
    where
      go : (r : Option (List ℕ)) → behind s Start (drop at bs) ≡ r → ((g : Segment) × SegmentAt s bs at g) ⊎ NoSegmentAt s bs at
      go (some rest) e = let f = segment_behind s good (drop at bs) rest e in inl (f.segment, record { valid = f.valid; rest = rest; same = f.same })
      go none e = inr (λ g i. none_some (sym e ∙ ap (behind s Start) i.same ∙ behind_segment s good g i.rest i.valid))

  -- ---- the end

  pub end_of_segment : (bs : List ℕ) (at : ℕ) (g : Segment) → SegmentAt s bs at g → segment_end s bs at ≡ Some (end_of s at g)
  end_of_segment bs at g i =
      let r = ends_at s Start at (drop at bs) i.rest (ap (behind s Start) i.same ∙ behind_segment s good g i.rest i.valid) in
      let long : length (drop at bs) ≡ 3 + length (write_elements s g.elements (s.terminator ∷ i.rest)) = ap length i.same ∙ omega arith in
      r.found ∙ ap Some (let c = r.counted in omega (arith, elements_long s g.elements (s.terminator ∷ i.rest)))

  pub end_of_none : (bs : List ℕ) (at : ℕ) → NoSegmentAt s bs at → segment_end s bs at ≡ None
  end_of_none bs at none-there = go (behind s Start (drop at bs)) refl
    where
      go : (r : Option (List ℕ)) → behind s Start (drop at bs) ≡ r → segment_end s bs at ≡ None
      go (some rest) e = let f = segment_behind s good (drop at bs) rest e in absurd (none-there f.segment (record { valid = f.valid; rest = rest; same = f.same }))
      go none e = ends_nowhere s Start at (drop at bs) e

  -- ---- the cursor

  pub cursor : (bs : List ℕ) (at : ℕ) (g : Segment) → SegmentAt s bs at g
      → next_segment s bs at ≡ Some (span at (end_of s at g), record { at = end_of s at g + 1 })
  cursor bs at g i = ap (found_by at) (end_of_segment bs at g i)

  pub no_cursor : (bs : List ℕ) (at : ℕ) → NoSegmentAt s bs at → next_segment s bs at ≡ None
  no_cursor bs at none-there = ap (found_by at) (end_of_none bs at none-there)

  -- ---- the starts of a message's segments

  -- of a message of which `before` has been passed and `g` comes next
  pub start_is : (before after : Message) → start_after s (before ++ after) (length before) ≡ length (render s before)
  start_is before after = ap (λ (m : Message). length (render s m)) (take-append_seam before after)

  pub written_at : (before : Message) (g : Segment) (after : Message) → ValidSegment g
      → SegmentAt s (render s (before ++ (g ∷ after))) (length (render s before)) g
  unfolding write_segments
  written_at before g after v =
      record {
        valid = v;
        rest = render s after;
        same =
            ap (drop (length (render s before))) (segments_append s before (g ∷ after) [] ∙ segments_front s before (write_segment s g (render s after)))
            ∙ drop-append_seam (render s before) (write_segment s g (render s after));
      }

  pub next_start : (before : Message) (g : Segment) (after : Message)
      → end_of s (length (render s before)) g + 1 ≡ start_after s (before ++ (g ∷ after)) (length before + 1)
  unfolding write_segments
  next_start before g after =
      let whole : start_after s (before ++ (g ∷ after)) (length before + 1) ≡ length (render s (before ++ (g ∷ []))) =
      ap (λ (m : Message). length (render s m)) (take-append-add before (g ∷ after) 1) in
      let long : length (render s (before ++ (g ∷ []))) ≡ length (render s before) + length (write_segment s g []) =
      ap length (segments_append s before (g ∷ []) [] ∙ segments_front s before (write_segment s g [])) ∙ length-append (render s before) (write_segment s g []) in
      omega (arith, whole, long, elements_long s g.elements (s.terminator ∷ []))

  -- the law: from each segment's start a cursor goes on to the next one's
  pub starts : (before : Message) (g : Segment) (after : Message) → ValidSegment g
      → next_segment s (render s (before ++ (g ∷ after))) (start_after s (before ++ (g ∷ after)) (length before))
      ≡ Some (
        span (start_after s (before ++ (g ∷ after)) (length before)) (end_of s (start_after s (before ++ (g ∷ after)) (length before)) g),
        record { at = start_after s (before ++ (g ∷ after)) (length before + 1) },
      )
  starts before g after v =
      rw (start_is before (g ∷ after), ← next_start before g after)
      (cursor (render s (before ++ (g ∷ after))) (length (render s before)) g (written_at before g after v))

  -- and at the message's end it finds nothing
  pub no_more : (bs : List ℕ) → next_segment s bs (length bs) ≡ None
  no_more bs = no_cursor bs (length bs) (λ g i. nil≢cons (sym (drop-length bs) ∙ i.same))

  -- the first segment starts at 0, and behind the last one is the end
  pub first_start : (m : Message) → start_after s m 0 ≡ 0
  unfolding write_segments
  first_start m = refl

  pub last_start : (m : Message) → start_after s m (length m) ≡ length (render s m)
  last_start m = ap (λ (x : Message). length (render s x)) (take-length m)

  -- what stands behind a segment
  pub behind_end : (bs : List ℕ) (at : ℕ) (g : Segment) (i : SegmentAt s bs at g) → drop (end_of s at g + 1) bs ≡ i.rest
  behind_end bs at g i =
      let long : length (write_segment s g []) ≡ 3 + length (write_elements s g.elements []) + 1 = omega (arith, elements_long s g.elements (s.terminator ∷ [])) in
      let there : end_of s at g + 1 ≡ at + length (write_segment s g []) = omega arith in
      ap (λ (n : ℕ). drop n bs) there ∙ sym (drop-drop (length (write_segment s g [])) at bs) ∙ ap (drop (length (write_segment s g []))) (i.same ∙ segment_front s g i.rest)
      ∙ drop-append_seam (write_segment s g []) i.rest
