-- The steps of the pass that counts a message's segments and looks for UNH and UNT.
use Prim.Native.Nat.{ℕ, suc, ◌+◌, ◌-◌, ◌≤◌, ◌<◌}
use native.Mathlib.Omega.{arith}
use native.Mathlib.Numerals.{add-one}
use mathlib.Core.Path.{◌≡◌, refl, sym, ap, ap₂, ◌∙◌}
use mathlib.Core.List.{List, [], ◌∷◌}
use mathlib.Core.Bool.{Bool, true, false, cond, ◌&&◌}
use lib.Dec.{eqb, ltb}
use lib.ListN.{length}
use borrow.Author.Tests.{eq-eqb, ne_eqb, eqb-true, eqb-false}
use Rattle.std.specs.Prelude.{Option, Some, None, Ok, Err}
use Rattle.std.specs.Option.{option_or}
use Rattle.std.specs.Bool.{then_some}
use Rattle.reading.specs.meaning.Component.{span}
use Rattle.reading.specs.method.Machine.{stepped, is_dead, is_start, ended, pick, scan_on, segment_end, found_by, bad_from, scanned}
use Rattle.reading.specs.method.Tag.{tag_at}
use Rattle.reading.specs.declared.machine.State.{State}
use Rattle.reading.specs.declared.service.Service.{Service}
use Rattle.reading.specs.method.Outcome.{Segments, BadAt}
use Rattle.reading.specs.method.Starts.{starts_from}
use Rattle.reading.proofs.Ending.{end_within}
use Rattle.reading.proofs.Scanning.{bad_segments, Scanning, scanning_begin, scanning_on, scanning_bad, scanning_empty, scanning_end}
use Rattle.reading.proofs.Starts.{starts_found, starts_end}
use Rattle.framing.specs.method.Stages.{Frame, is_misplaced_at, is_misplaced, frame_from, frame_of}
use Rattle.framing.specs.method.Survey.{survey_by, surveyed, unless_misplaced}
use Rattle.framing.specs.declared.refusal.Refusal.TheVariants.{BadByte, Misplaced}

-- ---- the first misplaced segment

-- that of the segments before, or else this one
one_more : (before : Option ℕ) (is_here : Bool) (k : ℕ) (rest : Frame)
    → unless_misplaced (option_or before (then_some is_here k)) rest ≡ unless_misplaced before (cond is_here (Err (Misplaced k)) rest)
one_more (Some j) is_here k rest = refl
one_more None true k rest = refl
one_more None false k rest = refl

-- ---- the pass: n segments have ended before the offset `at`, the last of which starts at `last`

-- how many there will be is not known, but that there are none if nothing is left; so the frame is what it will be for any such number
pub record Surveying (s : Service) (bs : List ℕ) (n : ℕ) (misplaced : Option ℕ) (last at : ℕ) : Type 0 where
  pub scanning : Scanning s bs n at
  pub begun : n ≡ 0 → at ≡ 0
  pub framed : (m : ℕ) → n ≤ m → (at < length bs → n < m) → (length bs ≤ at → m ≡ n)
      → unless_misplaced misplaced (frame_from bs m n last (starts_from s bs (m - n) at)) ≡ frame_of s bs m

module _ (s : Service) (bs : List ℕ) where
  pub surveying_begin : Surveying s bs 0 None 0 0
  surveying_begin = record {
    scanning = scanning_begin s bs;
    begun = λ e. e;
    framed = λ m h i j. let whole : m - 0 ≡ m = omega arith in ap (λ (k : ℕ). frame_from bs m 0 0 (starts_from s bs k 0)) whole;
  }

  module _ (n : ℕ) (misplaced : Option ℕ) (last at : ℕ) (i : Surveying s bs n misplaced last at) where
    pub surveying_on : (end : ℕ) (is_here : Bool) → at < length bs → segment_end s bs at ≡ Some end
        → is_here ≡ is_misplaced_at (eqb (n + 1) 1) (eqb (end + 1) (length bs)) (tag_at bs at)
        → Surveying s bs (n + 1) (option_or misplaced (then_some is_here (n + 1))) at (end + 1)
    unfolding frame_from
    surveying_on end is_here less e f = record { scanning = scanning_on s bs n at end i.scanning e; begun = λ z. absurd (omega arith); framed = go }
      where
        -- the last one is the one behind which nothing is left
        is_last : (m : ℕ) → (end + 1 < length bs → n + 1 < m) → (length bs ≤ end + 1 → m ≡ n + 1) → eqb (end + 1) (length bs) ≡ eqb (suc n) m
        is_last m j k = by (eqb (end + 1) (length bs)) refl
          where
            by : (x : Bool) → eqb (end + 1) (length bs) ≡ x → x ≡ eqb (suc n) m
            by true z = let here = eqb-true (end + 1) (length bs) z in sym (eq-eqb (suc n) m (omega arith))
            by false z =
                let inside = (end_within s bs at end e).inside in
                let more = eqb-false (end + 1) (length bs) z in
                sym (ne_eqb (suc n) m (λ same. omega arith))

        go : (m : ℕ) → n + 1 ≤ m → (end + 1 < length bs → n + 1 < m) → (length bs ≤ end + 1 → m ≡ n + 1)
            → unless_misplaced (option_or misplaced (then_some is_here (n + 1))) (frame_from bs m (n + 1) at (starts_from s bs (m - (n + 1)) (end + 1))) ≡ frame_of s bs m
        go m h j k =
            let starts : starts_from s bs (m - n) at ≡ at ∷ starts_from s bs (m - (n + 1)) (end + 1) =
            starts_found s bs n m at (span at end) (record { at = end + 1 }) (omega arith) (sym (ap (found_by at) e)) in
            let here : is_here ≡ is_misplaced m (suc n) (tag_at bs at) =
            f ∙ ap₂ (λ (x : ℕ) (last : Bool). is_misplaced_at (eqb x 1) last (tag_at bs at)) (add-one n) (is_last m j k) in
            one_more misplaced is_here (n + 1) (frame_from bs m (n + 1) at (starts_from s bs (m - (n + 1)) (end + 1)))
            ∙ ap₂ (λ (x : ℕ) (b : Bool). unless_misplaced misplaced (cond b (Err (Misplaced x)) (frame_from bs m x at (starts_from s bs (m - (n + 1)) (end + 1))))) (add-one n) here
            ∙ ap (unless_misplaced misplaced) (sym (ap (frame_from bs m n last) starts)) ∙ i.framed m (omega arith) (omega arith) (omega arith)

    pub surveying_bad : (k : ℕ) → at < length bs → segment_end s bs at ≡ None → k ≡ bad_from s bs at → Err (BadByte k) ≡ surveyed s bs
    surveying_bad k h e f = ap (λ (x : ℕ). Err (BadByte x)) f ∙ ap (survey_by s bs) (scanning_bad s bs n at h i.scanning e)

    module _ (h : length bs ≤ at) where
      pub surveying_empty : n ≡ 0 → Err (BadByte 0) ≡ surveyed s bs
      surveying_empty z = ap (λ (x : ℕ). Err (BadByte x)) (sym (i.begun z)) ∙ ap (survey_by s bs) (scanning_empty s bs n at h z i.scanning)

      pub surveying_end : (n ≡ 0 → ⊥) → (f : Frame) → f ≡ unless_misplaced misplaced (Ok last) → Ok (record { segments = n; frame = f }) ≡ surveyed s bs
      unfolding frame_from
      surveying_end z f e =
          ap (λ (x : Frame). Ok (record { segments = n; frame = x }))
          (e ∙ ap (unless_misplaced misplaced) (sym (ap (frame_from bs n n last) (starts_end s bs n n at (omega arith)))) ∙ i.framed n (omega arith) (omega arith) (omega arith))
          ∙ ap (survey_by s bs) (scanning_end s bs n at h z i.scanning)

-- ---- number 4's place

-- it lies within the message, or at its end
bad_in : (s : Service) (p : State) (n at : ℕ) (bs : List ℕ) (k : ℕ) → scan_on s p n at bs ≡ BadAt k → k ≤ at + length bs
unfolding scan_on
bad_in s p n at [] k e = go (is_start p) (ltb 0 n) e
  where
    go : (x y : Bool) → pick (x && y) (Segments n) (BadAt at) ≡ BadAt k → k ≤ at + 0
    go true true h = absurd (bad_segments (sym h))
    go true false h = let i : at ≡ k = cc h in omega arith
    go false y h = let i : at ≡ k = cc h in omega arith
bad_in s p n at (b ∷ bs) k e = go (is_dead (stepped s p b)) (bad_in s (stepped s p b) (ended (stepped s p b) n) (at + 1) bs k) e
  where
    go : (x : Bool) → (scan_on s (stepped s p b) (ended (stepped s p b) n) (at + 1) bs ≡ BadAt k → k ≤ at + 1 + length bs)
        → pick x (BadAt at) (scan_on s (stepped s p b) (ended (stepped s p b) n) (at + 1) bs) ≡ BadAt k → k ≤ at + length (b ∷ bs)
    go true ih h = let i : at ≡ k = cc h in omega arith
    go false ih h = let i = ih h in omega arith

pub bad_within : (s : Service) (bs : List ℕ) (k : ℕ) → scanned s bs ≡ BadAt k → k ≤ length bs
bad_within s bs k e = let h = bad_in s _ 0 0 bs k e in omega arith
