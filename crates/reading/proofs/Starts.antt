-- The segments that a cursor finds one after the other: where they start, and that there are as many as a scan counts.
use Prim.Native.Nat.{ℕ, zero, suc, ◌+◌, ◌-◌, ◌≤◌, ◌<◌, ◌^◌, ◌%◌}
use native.Mathlib.Omega.{arith}
use mathlib.Core.Path.{◌≡◌, refl, sym, ap, ap₂, ◌∙◌}
use mathlib.Core.List.{List, [], ◌∷◌, map}
use mathlib.Core.Bool.{Bool, true, false}
use lib.Dec.{leb, eqb}
use lib.ListN.{length}
use borrow.Author.Tests.{leb-true, leb-false, eqb-true, eqb-false}
use Rattle.std.specs.Prelude.{Option, Some, None}
use Rattle.reading.specs.meaning.Component.{span}
use Rattle.reading.specs.method.Outcome.{Segments}
use Rattle.reading.specs.method.Machine.{segment_end, found_by, next_segment, scanned}
use Rattle.reading.specs.method.Starts.{starts_then, starts_from}
use Rattle.reading.specs.declared.service.Service.{Service}
use Rattle.reading.specs.declared.span.Span.{Span}
use Rattle.reading.specs.declared.cursor.Cursor.{Cursor}
use Rattle.reading.proofs.Ending.{end_within}
use Rattle.reading.proofs.Scanning.{bad_segments, segments_is, Scanning, scanning_begin, scanning_on, scanning_bad, scanning_empty, scanning_end}

-- how many are left from x on
pub none_left : (x end : ℕ) → end ≤ x → end - x ≡ 0
none_left x end h = omega arith

pub one_less : (x end : ℕ) → x < end → end - x ≡ suc (end - (x + 1))
one_less x end h = omega arith

-- a segment that is found has its tag within the message
pub found_within : (s : Service) (bs : List ℕ) (at : ℕ) (x : Span) (next : Cursor) → Some (x, next) ≡ next_segment s bs at → at + 3 ≤ length bs
found_within s bs at x next e = go (segment_end s bs at) refl e
  where
    go : (end : Option ℕ) → segment_end s bs at ≡ end → Some (x, next) ≡ found_by at end → at + 3 ≤ length bs
    go (Some end) i h = let w = end_within s bs at end i in let a = w.behind in let b = w.inside in omega arith
    go None i h = cc

found_is : {f g : Span × Cursor} → Some f ≡ Some g → f ≡ g
found_is e = cc

-- the cursor moves on, and not past the end
pub moves_within : (s : Service) (bs : List ℕ) (at : ℕ) (x : Span) (next : Cursor) → Some (x, next) ≡ next_segment s bs at → (at < next.at) × (next.at ≤ length bs)
moves_within s bs at x next e = go (segment_end s bs at) refl e
  where
    go : (end : Option ℕ) → segment_end s bs at ≡ end → Some (x, next) ≡ found_by at end → (at < next.at) × (next.at ≤ length bs)
    go (Some end) i h =
        let w = end_within s bs at end i in
        let a = w.behind in
        let b = w.inside in
        let n : next.at ≡ end + 1 = ap (λ (f : Span × Cursor). f.1.at) (found_is h) in
        (omega arith, omega arith)
    go None i h = cc

module _ (s : Service) (bs : List ℕ) where
  -- ---- the segments that are left, where k of n have been passed

  pub starts_found : (k n at : ℕ) (x : Span) (next : Cursor) → k < n → Some (x, next) ≡ next_segment s bs at
      → starts_from s bs (n - k) at ≡ at ∷ starts_from s bs (n - (k + 1)) next.at
  unfolding starts_from
  starts_found k n at x next h e =
      ap (λ (m : ℕ). starts_from s bs m at) (one_less k n h) ∙ ap (λ (f : Option (Span × Cursor)). starts_then f (starts_from s bs (n - (k + 1))) at) (sym e)

  pub no_starts : (m at : ℕ) → None ≡ next_segment s bs at → starts_from s bs m at ≡ []
  unfolding starts_from
  no_starts zero at e = refl
  no_starts (suc m) at e = ap (λ (f : Option (Span × Cursor)). starts_then f (starts_from s bs m) at) (sym e)

  pub starts_end : (k n at : ℕ) → n ≤ k → starts_from s bs (n - k) at ≡ []
  unfolding starts_from
  starts_end k n at h = ap (λ (m : ℕ). starts_from s bs m at) (none_left k n h)

  -- ---- of a message that a scan counts, there are as many

  -- from the segment on that starts at `at`, before which n of m have ended
  abbrev AsMany : ℕ → ℕ → ℕ → Type 0
  AsMany n at m = (n ≤ m) × (length (starts_from s bs (m - n) at) ≡ m - n)

  counted_out : (n at m : ℕ) → length bs ≤ at → Scanning s bs n at → Segments m ≡ scanned s bs → AsMany n at m
  counted_out n at m h i e = go (eqb n 0) refl
    where
      go : (z : Bool) → eqb n 0 ≡ z → AsMany n at m
      go true z = absurd (bad_segments (scanning_empty s bs n at h (eqb-true n 0 z) i ∙ sym e))
      go false z =
          let same : m ≡ n = segments_is (e ∙ sym (scanning_end s bs n at h (eqb-false n 0 z) i)) in
          (omega arith, ap length (starts_end n m at (omega arith)) ∙ omega arith)

  counted_on : (n at m : ℕ) → at < length bs → Scanning s bs n at → Segments m ≡ scanned s bs
      → ((end : ℕ) → at < end + 1 → Scanning s bs (n + 1) (end + 1) → AsMany (n + 1) (end + 1) m) → AsMany n at m
  counted_on n at m h i e later = go (segment_end s bs at) refl
    where
      go : (x : Option ℕ) → segment_end s bs at ≡ x → AsMany n at m
      go (Some end) y =
          let w = (end_within s bs at end y).behind in
          let r = later end (omega arith) (scanning_on s bs n at end i y) in
          let few = r.0 in
          let starts = starts_found n m at (span at end) (record { at = end + 1 }) (omega arith) (sym (ap (found_by at) y)) in
          (omega arith, ap length starts ∙ ap suc r.1 ∙ omega arith)
      go None y = absurd (bad_segments (scanning_bad s bs n at h i y ∙ sym e))

  -- the fuel is what is left of the bytes
  counted : (fuel n at m : ℕ) → length bs - at ≤ fuel → Scanning s bs n at → Segments m ≡ scanned s bs → AsMany n at m
  counted zero n at m f i e = counted_out n at m (omega arith) i e
  counted (suc fuel) n at m f i e =
      go (leb (length bs) at) refl (λ h. counted_on n at m h i e (λ end less later. counted fuel (n + 1) (end + 1) m (omega arith) later e))
    where
      go : (z : Bool) → leb (length bs) at ≡ z → (at < length bs → AsMany n at m) → AsMany n at m
      go true z on = counted_out n at m (leb-true (length bs) at z) i e
      go false z on = on (leb-false (length bs) at z)

  pub starts_counted : (n : ℕ) → Segments n ≡ scanned s bs → length (starts_from s bs n 0) ≡ n
  starts_counted n e =
      let nought : n - 0 ≡ n = omega arith in
      sym (ap (λ (k : ℕ). length (starts_from s bs k 0)) nought) ∙ (counted (length bs) 0 0 n (omega arith) (scanning_begin s bs) e).1 ∙ nought

  -- ---- they are offsets of the message, so small numbers where it is short

  -- one of them, and those behind it
  small_then : length bs ≤ 2 ^ 32 → (at : ℕ) (more : ℕ → List ℕ) → ((next : ℕ) → map (λ x. x % 2 ^ 32) (more next) ≡ more next) → (f : Option (Span × Cursor)) → f ≡ next_segment s bs at
      → map (λ x. x % 2 ^ 32) (starts_then f more at) ≡ starts_then f more at
  small_then h at more all (Some (x, next)) e =
      let w = found_within s bs at x next e in
      let small : at % 2 ^ 32 ≡ at = omega arith in
      ap₂ (λ (y : ℕ) (ys : List ℕ). y ∷ ys) small (all next.at)
  small_then h at more all None e = refl

  pub starts_small : length bs ≤ 2 ^ 32 → (n at : ℕ) → map (λ x. x % 2 ^ 32) (starts_from s bs n at) ≡ starts_from s bs n at
  unfolding starts_from
  starts_small h zero at = refl
  starts_small h (suc n) at = small_then h at (starts_from s bs n) (starts_small h n) (next_segment s bs at) refl
