-- What is told where a segment ends: its start is stored if the table that is lent then has the entry, and is lacking if not; from the most on, nothing is told.
use Prim.Native.Nat.{ℕ, ◌+◌, ◌^◌, ◌≤◌, ◌<◌}
use native.Mathlib.Omega.{arith}
use native.Mathlib.Decide.{dec_lt, ℕ_discrete}
use mathlib.Core.Path.{◌≡◌, sym, ap, ◌∙◌, subst}
use mathlib.Core.List.{List, [], ◌∷◌, ◌++◌, append_assoc, append-nil}
use mathlib.Core.Bool.{Bool, true, false, ◌||◌}
use mathlib.Core.Logic.{dite}
use lib.Dec.{leb}
use lib.ListN.{length, get_or, set, take, drop, length-append, length-set, take-append-drop, get_or-append}
use lib.Seq.{length-take-le, set-append_left, set_out, get_or-set_same, get_or-set_other, get_or_at}
use borrow.Author.Tests.{lt-ltb, le-ltb, le-leb, lt-leb}
use Rattle.slices.specs.method.Entries.{entry}
use Rattle.reading.specs.meaning.Service.{GoodService}
use Rattle.reading.specs.meaning.Message.{Segment, Message, render}
use Rattle.reading.specs.meaning.Starts.{starts_in, starts_of}
use Rattle.reading.specs.declared.service.Service.{Service}
use Rattle.reading.proofs.Booleans.{or-true}
use Rattle.reading_laws.proofs.Starts.{starts_long}
use Rattle.framing.specs.meaning.Limits.{most_segments}
use Rattle.pieces.specs.meaning.Starts.{lent_at, FoundEntry, IsLeft, StartsLeft}
use Rattle.pieces.specs.method.Progress.{lacks, with_start}
use Rattle.pieces_laws.proofs.Capped.{capped, capped_is, capped_less, small_entry}
use Rattle.pieces_laws.proofs.Told.{Lacking, Told, lent_longer, lent_before, lent_last, found_later, left_later, left_earlier, lacking_later}

-- ---- the starts of a message and one segment more

module _ (s : Service) where
  starts_in_lem : (m before : Message) (g : Segment) → starts_in s before (m ++ (g ∷ [])) ≡ starts_in s before m ++ (length (render s (before ++ m)) ∷ [])
  unfolding starts_in
  starts_in_lem [] before g = ap (λ (x : Message). length (render s x) ∷ []) (sym (append-nil before))
  starts_in_lem (h ∷ m) before g =
      ap (◌∷◌ (length (render s before)))
      (starts_in_lem m (before ++ (h ∷ [])) g
      ∙ ap (λ (x : Message). starts_in s (before ++ (h ∷ [])) m ++ (length (render s x) ∷ [])) (append_assoc before (h ∷ []) m))

  module _ (good : GoodService s) (m : Message) (g : Segment) where
    start_before : (k : ℕ) → k < length m → get_or (starts_of s (m ++ (g ∷ []))) k 0 ≡ get_or (starts_of s m) k 0
    start_before k h =
        ap (λ (xs : List ℕ). get_or xs k 0) (starts_in_lem m [] g)
        ∙ get_or-append (starts_of s m) (length (render s m) ∷ []) 0 k (omega (arith, starts_long s good m []))

    start_last : get_or (starts_of s (m ++ (g ∷ []))) (length m) 0 ≡ length (render s m)
    start_last =
        ap (λ (xs : List ℕ). get_or xs (length m) 0) (starts_in_lem m [] g) ∙ get_or_at (starts_of s m) (length (render s m)) [] 0 (length m) (starts_long s good m [])

-- ---- what becomes of the start of the segment with n others before it, in a memory whose first so many entries are lent

-- the memory then, and whether an entry is lacking
data Storing (now : List ℕ) (lent n start : ℕ) : List ℕ → Bool → Type 0 where
  stored : n < most_segments → n < lent → Storing now lent n start (set now n (entry start)) false
  lacked : n < most_segments → lent ≤ n → Storing now lent n start now true
  not_told : most_segments ≤ n → Storing now lent n start now false

module _ (now : List ℕ) (lent : ℕ) (fits : lent ≤ length now) where
  set_lent : (n a : ℕ) → n < lent → set (take lent now) n a ++ drop lent now ≡ set now n a
  set_lent n a h =
      sym (set-append_left (take lent now) (drop lent now) n a (omega (arith, length-take-le lent now fits)))
      ∙ ap (λ (xs : List ℕ). set xs n a) (take-append-drop lent now)

  set_past : (n a : ℕ) → lent ≤ n → set (take lent now) n a ++ drop lent now ≡ now
  set_past n a h =
      ap (λ (xs : List ℕ). xs ++ drop lent now) (set_out (take lent now) n a (omega (arith, length-take-le lent now fits))) ∙ take-append-drop lent now

  storing_told : (n start : ℕ) → n < most_segments → Storing now lent n start (set (take lent now) n (entry start) ++ drop lent now) (leb lent n)
  storing_told n start a =
      dite (dec_lt n lent) (λ h. rw (set_lent n (entry start) h, lt-leb lent n h) (stored a h))
      (λ f. let h : lent ≤ n = omega (arith, f) in rw (set_past n (entry start) h, le-leb lent n h) (lacked a h))

  storing : (n start : ℕ)
      → Storing now lent n start (with_start (capped most_segments n) start (take lent now) ++ drop lent now) (lacks (capped most_segments n) lent)
  storing n start =
      dite (dec_lt n most_segments) (λ a. rw (capped_is most_segments n (omega arith), lt-ltb n most_segments a) (storing_told n start a))
      (λ f. let a : most_segments ≤ n = omega (arith, f) in rw (capped_less most_segments n ∙ le-ltb n most_segments a, take-append-drop lent now) (not_told a))

-- ---- one segment more, whose last byte comes with the last of the entries

module _ (s : Service) (good : GoodService s) (m : Message) (g : Segment) (lents : List ℕ) (lent : ℕ)
    (within : length (render s m) ≤ length lents) (long : length (render s (m ++ (g ∷ []))) ≡ length lents + 1) where
  abbrev more : Message
  more = m ++ (g ∷ [])

  abbrev longer : List ℕ
  longer = lents ++ (lent ∷ [])

  abbrev start : ℕ
  start = length (render s m)

  one_more_lem : length more ≡ length m + 1
  one_more_lem = length-append m (g ∷ [])

  front : length m ≤ length more
  front = omega (arith, one_more_lem)

  same_before : (k : ℕ) → k < length m → lent_at s more longer k ≡ lent_at s m lents k
  same_before k h = lent_before s m (g ∷ []) longer k h ∙ lent_longer s m lents (lent ∷ []) within k h

  -- it found its entry or not
  last_found : length m < lent → FoundEntry s more longer (length m)
  last_found h = rw (lent_last s m g lents lent long) h

  last_not_found : lent ≤ length m → FoundEntry s more longer (length m) → ⊥
  last_not_found h f = let i : length m < lent = rw (lent_last s m g lents lent long) at f in omega arith

  last_left : length m < most_segments → length m < lent → IsLeft s more longer (length m)
  last_left a h = record { finished = omega (arith, one_more_lem); among = a; found = last_found h }

  before_or_last : (k : ℕ) → k < length more → (k ≡ length m → ⊥) → k < length m
  before_or_last k h f = omega (arith, one_more_lem, f)

  -- ---- the starts

  module _ {memory now : List ℕ} (x : StartsLeft s m lents memory now) where
    -- those before it are left as they were
    left_before : (k : ℕ) → (k ≡ length m → ⊥) → IsLeft s more longer k → get_or now k 0 ≡ get_or (starts_of s more) k 0
    left_before k f l =
        let h : k < length m = before_or_last k l.finished f in
        x.left k (left_earlier s m more lents longer front same_before k h l) ∙ sym (start_before s good m g k h)

    kept_before : (k : ℕ) → (IsLeft s more longer k → ⊥) → get_or now k 0 ≡ get_or memory k 0
    kept_before k f = x.kept k (λ l. f (left_later s m more lents longer front same_before k l))

    starts_kept : (IsLeft s more longer (length m) → ⊥) → StartsLeft s more longer memory now
    starts_kept f =
        record {
          left = λ k l. dite (ℕ_discrete k (length m)) (λ e. absurd (f (subst (IsLeft s more longer) e l))) (λ e. left_before k e l);
          kept = kept_before;
          as_long = x.as_long;
        }

    starts_stored : length m < most_segments → length m < lent → lent ≤ length now → StartsLeft s more longer memory (set now (length m) start)
    starts_stored a h fits =
        let there : get_or (set now (length m) start) (length m) 0 ≡ start = get_or-set_same now (length m) start 0 (omega arith) in
        record {
          left = λ k l. dite (ℕ_discrete k (length m)) (λ e. rw e (there ∙ sym (start_last s good m g))) (λ e. other k e ∙ left_before k e l);
          kept = λ k f. dite (ℕ_discrete k (length m)) (λ e. absurd (f (rw e (last_left a h)))) (λ e. other k e ∙ kept_before k f);
          as_long = length-set now (length m) start ∙ x.as_long;
        }
      where
        other : (k : ℕ) → (k ≡ length m → ⊥) → get_or (set now (length m) start) k 0 ≡ get_or now k 0
        other k e = get_or-set_other now (length m) k start 0 e

  -- ---- whether one found none

  found_all : (length m < most_segments → length m < lent) → Lacking s m lents false → (k : ℕ) → k < length more → k < most_segments → FoundEntry s more longer k
  found_all h x k l a = dite (ℕ_discrete k (length m)) (λ e. rw e (last_found (h (rw e at a)))) (λ e. found_before (before_or_last k l e))
    where
      found_before : k < length m → FoundEntry s more longer k
      found_before i = found_later s m more lents longer front same_before k i (x k i a)

  lacking_kept : (length m < most_segments → length m < lent) → (t : Bool) → Lacking s m lents t → Lacking s more longer (t || false)
  lacking_kept h true x = lacking_later s m more lents longer front same_before x
  lacking_kept h false x = found_all h x

  lacking_last : length m < most_segments → lent ≤ length m → (t : Bool) → Lacking s more longer (t || true)
  lacking_last a h t = rw (or-true t) (length m, omega (arith, one_more_lem), a, last_not_found h)

  -- ---- both

  module _ {memory now : List ℕ} {t : Bool} (x : Told s m lents memory now t) (fits : lent ≤ length now) (small : length (render s m) < 2 ^ 32) where
    told_by : {left : List ℕ} {u : Bool} → Storing now lent (length m) start left u → Told s more longer memory left (t || u)
    told_by (stored a h) = record { starts = rw (small_entry start small) (starts_stored x.starts a h fits); lacking = lacking_kept (λ _. h) t x.lacking }
    told_by (lacked a h) = record { starts = starts_kept x.starts (λ l. last_not_found h l.found); lacking = lacking_last a h t }
    told_by (not_told a) =
        record {
          starts = starts_kept x.starts (λ l. let b = l.among in omega arith);
          lacking = lacking_kept (λ b. absurd (omega arith)) t x.lacking;
        }

    pub told_end : Told s more longer memory (with_start (capped most_segments (length m)) start (take lent now) ++ drop lent now) (t || lacks (capped most_segments (length m)) lent)
    told_end = told_by (storing now lent fits (length m) start)
