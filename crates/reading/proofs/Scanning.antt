-- A scan, segment by segment: where one ends, the scan goes on behind it; where none does, it ends at the first bad byte.
use Prim.Native.Nat.{ℕ, suc, ◌+◌, ◌-◌, ◌≤◌, ◌<◌}
use native.Mathlib.Omega.{arith}
use native.Mathlib.Numerals.{add-one}
use mathlib.Core.Path.{◌≡◌, refl, sym, ap, ap₂, ◌∙◌}
use mathlib.Core.List.{List, [], ◌∷◌}
use mathlib.Core.Bool.{Bool, true, false}
use lib.ListN.{length, get_or, drop, drop_of_length-le}
use lib.Seq.{drop-cons, drop-drop}
use borrow.Author.Tests.{lt-ltb}
use Rattle.std.specs.Prelude.{Some, None}
use Rattle.reading.specs.method.Machine.{pick, stepped, is_start, is_dead, ended, finished, scan_on, scanned, bad_on, bad_from, end_on, segment_end}
use Rattle.reading.specs.declared.service.Service.{Service}
use Rattle.reading.specs.declared.machine.State.{State}
use Rattle.reading.specs.declared.machine.State.TheVariants.{Start}
use Rattle.reading.specs.method.Outcome.{Segments, BadAt}
use Rattle.reading.proofs.States.{Course, ends, goes_on, fails, course}
use Rattle.reading.proofs.Ending.{at_is, not_at, end_on_within, end_within}

-- ---- what a scan comes to is one of two

pub bad_segments : {k n : ℕ} → BadAt k ≡ Segments n → ⊥
bad_segments e = let z : ◌≡◌ {A = ℕ} 0 1 = cc in omega arith

pub segments_is : {m n : ℕ} → Segments m ≡ Segments n → m ≡ n
segments_is e = cc

-- ---- over a segment

at_nowhere : {n : ℕ} → Some n ≡ None → ⊥
at_nowhere e = not_at (sym e)

scan_over : (s : Service) (p : State) (n at end : ℕ) (bs : List ℕ) → end_on s p at bs ≡ Some end
    → scan_on s p n at bs ≡ scan_on s Start (n + 1) (end + 1) (drop (end + 1 - at) bs)
unfolding scan_on end_on
scan_over s p n at end [] e = absurd (not_at e)
scan_over s p n at end (b ∷ bs) e = go (course (stepped s p b)) (λ q. scan_over s q n (at + 1) end bs) e
  where
    on : (q : State) → end_on s q (at + 1) bs ≡ Some end → drop (end + 1 - (at + 1)) bs ≡ drop (end + 1 - at) (b ∷ bs)
    on q h =
        let w = (end_on_within s q (at + 1) end bs h).behind in
        let k : end + 1 - at ≡ suc (end + 1 - (at + 1)) = omega arith in
        sym (ap (λ (m : ℕ). drop m (b ∷ bs)) k)

    go : {q : State} → Course q
        → ((x : State) → end_on s x (at + 1) bs ≡ Some end → scan_on s x n (at + 1) bs ≡ scan_on s Start (n + 1) (end + 1) (drop (end + 1 - (at + 1)) bs))
        → pick (is_start q) (Some at) (pick (is_dead q) None (end_on s q (at + 1) bs)) ≡ Some end
        → pick (is_dead q) (BadAt at) (scan_on s q (ended q n) (at + 1) bs) ≡ scan_on s Start (n + 1) (end + 1) (drop (end + 1 - at) (b ∷ bs))
    go ends ih h =
        let x : at ≡ end = at_is h in
        let k : end + 1 - at ≡ 1 = omega arith in
        ap₂ (scan_on s Start (n + 1)) (ap (λ (m : ℕ). m + 1) x) (sym (ap (λ (m : ℕ). drop m (b ∷ bs)) k))
    go (goes_on t d) ih h = let i = rw (t, d) at h in rw (t, d) (ih _ i ∙ ap (scan_on s Start (n + 1) (end + 1)) (on _ i))
    go fails ih h = absurd (not_at h)

-- ---- where no segment ends

-- behind a byte that does not end the segment
scan_bad_behind : (s : Service) {q : State} → Course q → (n at : ℕ) (bs : List ℕ) → pick (is_start q) (Some at) (pick (is_dead q) None (end_on s q (at + 1) bs)) ≡ None
    → ((x : State) → is_start x ≡ false → end_on s x (at + 1) bs ≡ None → scan_on s x n (at + 1) bs ≡ BadAt (bad_on s x (at + 1) bs))
    → pick (is_dead q) (BadAt at) (scan_on s q (ended q n) (at + 1) bs) ≡ BadAt (pick (is_dead q) at (bad_on s q (at + 1) bs))
scan_bad_behind s ends n at bs h ih = absurd (at_nowhere h)
scan_bad_behind s (goes_on t d) n at bs h ih = rw (t, d) (ih _ t (rw (t, d) at h))
scan_bad_behind s fails n at bs h ih = refl

-- and none has ended here
scan_bad : (s : Service) (p : State) (n at : ℕ) (bs : List ℕ) → is_start p ≡ false → end_on s p at bs ≡ None → scan_on s p n at bs ≡ BadAt (bad_on s p at bs)
unfolding scan_on end_on bad_on
scan_bad s p n at [] t e = rw t refl
scan_bad s p n at (b ∷ bs) t e = scan_bad_behind s (course (stepped s p b)) n at bs e (λ x. scan_bad s x n (at + 1) bs)

-- a byte at least
scan_bad_first : (s : Service) (p : State) (n at b : ℕ) (bs : List ℕ) → end_on s p at (b ∷ bs) ≡ None → scan_on s p n at (b ∷ bs) ≡ BadAt (bad_on s p at (b ∷ bs))
unfolding scan_on end_on bad_on
scan_bad_first s p n at b bs e = scan_bad_behind s (course (stepped s p b)) n at bs e (λ x. scan_bad s x n (at + 1) bs)

-- ---- the loop over segments: before the one that starts at `at`, n have ended, no more than bytes have been read

pub record Scanning (s : Service) (bs : List ℕ) (n at : ℕ) : Type 0 where
  pub few : n ≤ at
  pub same : scan_on s Start n at (drop at bs) ≡ scanned s bs

module _ (s : Service) (bs : List ℕ) where
  pub scanning_begin : Scanning s bs 0 0
  scanning_begin = record { few = omega arith; same = refl }

  pub scanning_on : (n at end : ℕ) → Scanning s bs n at → segment_end s bs at ≡ Some end → Scanning s bs (n + 1) (end + 1)
  scanning_on n at end i e =
      let w = (end_within s bs at end e).behind in
      let f = i.few in
      let there : at + (end + 1 - at) ≡ end + 1 = omega arith in
      let rest : drop (end + 1 - at) (drop at bs) ≡ drop (end + 1) bs =
      drop-drop (end + 1 - at) at bs ∙ ap (λ (m : ℕ). drop m bs) there in
      record {
        few = omega arith;
        same = sym (scan_over s Start n at end (drop at bs) e ∙ ap (scan_on s Start (n + 1) (end + 1)) rest) ∙ i.same;
      }

  pub scanning_bad : (n at : ℕ) → at < length bs → Scanning s bs n at → segment_end s bs at ≡ None → BadAt (bad_from s bs at) ≡ scanned s bs
  scanning_bad n at h i e =
      let cut = drop-cons bs at 0 h in
      sym
      (ap (scan_on s Start n at) cut ∙ scan_bad_first s Start n at (get_or bs at 0) (drop (suc at) bs) (sym (ap (end_on s Start at) cut) ∙ e)
      ∙ ap (λ (xs : List ℕ). BadAt (bad_on s Start at xs)) (sym cut))
      ∙ i.same

  out : (n at : ℕ) → length bs ≤ at → Scanning s bs n at → finished Start n at ≡ scanned s bs
  unfolding scan_on
  out n at h i = sym (ap (scan_on s Start n at) (drop_of_length-le bs h)) ∙ i.same

  pub scanning_empty : (n at : ℕ) → length bs ≤ at → n ≡ 0 → Scanning s bs n at → BadAt at ≡ scanned s bs
  scanning_empty n at h z i = sym (rw z refl) ∙ out n at h i

  pub scanning_end : (n at : ℕ) → length bs ≤ at → (n ≡ 0 → ⊥) → Scanning s bs n at → Segments n ≡ scanned s bs
  scanning_end n at h z i = sym (rw (lt-ltb 0 n (omega (arith, z))) refl) ∙ out n at h i

-- ---- the loop over bytes that looks for the first bad one

module _ (s : Service) (bs : List ℕ) (from : ℕ) where
  -- it stands in state p before the byte at `at`
  abbrev pub Looking : State → ℕ → Type 0
  Looking p at = bad_on s p at (drop at bs) ≡ bad_from s bs from

  turn : (p q : State) (at : ℕ) → at < length bs → Looking p at → q ≡ stepped s p (get_or bs at 0)
      → pick (is_dead q) at (bad_on s q (at + 1) (drop (at + 1) bs)) ≡ bad_from s bs from
  unfolding bad_on
  turn p q at h i e = sym (rw (drop-cons bs at 0 h, e, add-one at) refl) ∙ i

  pub looking_bad : (p q : State) (at : ℕ) → at < length bs → Looking p at → q ≡ stepped s p (get_or bs at 0) → is_dead q ≡ true → at ≡ bad_from s bs from
  looking_bad p q at h i e d = sym (ap (λ (x : Bool). pick x at (bad_on s q (at + 1) (drop (at + 1) bs))) d) ∙ turn p q at h i e

  pub looking_on : (p q : State) (at : ℕ) → at < length bs → Looking p at → q ≡ stepped s p (get_or bs at 0) → is_dead q ≡ false → Looking q (at + 1)
  looking_on p q at h i e d = sym (ap (λ (x : Bool). pick x at (bad_on s q (at + 1) (drop (at + 1) bs))) d) ∙ turn p q at h i e

  pub looking_out : (p : State) (at : ℕ) → length bs ≤ at → Looking p at → at ≡ bad_from s bs from
  unfolding bad_on
  looking_out p at h i = sym (ap (bad_on s p at) (drop_of_length-le bs h)) ∙ i
