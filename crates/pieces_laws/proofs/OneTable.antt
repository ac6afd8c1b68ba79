-- One table that is lent throughout: number 6 is "fewer than n entries", and the starts that are left are as many as fit.
use Prim.Native.Nat.{ℕ, suc, zero, ◌-◌, ◌≤◌, ◌<◌}
use native.Mathlib.Omega.{arith}
use mathlib.Core.Path.{◌≡◌, refl, sym, ap, ap₂, ◌∙◌, subst}
use mathlib.Core.Logic.{◌⊎◌, inl, inr, ◌↔◌}
use mathlib.Core.List.{List, [], ◌∷◌}
use mathlib.Core.Bool.{Bool, true, false}
use lib.Dec.{ltb}
use lib.ListN.{length, get_or, take, replicate, length-take}
use borrow.Author.Tests.{ltb-true, ltb-false}
use Rattle.slices.specs.meaning.Lent.{as_many_as_fit}
use Rattle.reading.specs.meaning.Message.{Message, write_segments, render}
use Rattle.reading.specs.meaning.WellFormed.{WellFormed, FirstBad}
use Rattle.reading.specs.meaning.Service.{GoodService}
use Rattle.reading.specs.meaning.Starts.{starts_of}
use Rattle.reading.specs.declared.service.Service.{Service}
use Rattle.reading_laws.proofs.Rendering.{segments_long}
use Rattle.reading_laws.proofs.Starts.{starts_long}
use Rattle.framing.specs.meaning.Limits.{most_bytes, most_segments}
use Rattle.framing.specs.meaning.Record.{answer}
use Rattle.framing.specs.meaning.Table.{Unless, HasRoom, FirstWrong, NoneWrong, Misplaced, TellsCount, TellsReference, BytesSay}
use Rattle.pieces.specs.meaning.Table.{ReadingSays}
use Rattle.framing.specs.declared.message.Room.{Room}
use Rattle.framing.specs.declared.verdict.Verdict.{Verdict}
use Rattle.pieces.specs.meaning.Starts.{Finished, FoundEntry, lent_at, StartsLeft}
use Rattle.pieces.specs.meaning.Pieces.{TextSays}
use Rattle.pieces_laws.proofs.Told.{front_shorter, some_written}

lent_throughout : (n a k : ℕ) → k < n → get_or (replicate n a) k 0 ≡ a
lent_throughout zero a k h = absurd (omega arith)
lent_throughout (suc n) a zero h = refl
lent_throughout (suc n) a (suc k) h = lent_throughout n a k (omega arith)

module _ (s : Service) where
  -- what came with a terminator, where the message's bytes lie within the text
  lent_there : (n room : ℕ) (m : Message) → length (render s m) ≤ n → (k : ℕ) → k < length m → lent_at s m (replicate n room) k ≡ room
  lent_there n room m fits k h =
      lent_throughout n room (length (render s (take (suc k) m)) - 1) (omega (arith, some_written s k m h, front_shorter s (suc k) m))

  -- ---- number 6

  module _ (text : List ℕ) (room : ℕ) (w : WellFormed s text) where
    fits : length (render s w.message) ≤ length text
    fits = omega (arith, ap length w.same)

    to_room : ((k : ℕ) → k < length w.message → FoundEntry s w.message (replicate (length text) room) k) → length w.message ≤ room
    to_room f = go (length w.message) refl
      where
        go : (n : ℕ) → length w.message ≡ n → length w.message ≤ room
        go zero e = omega arith
        go (suc n) e = let h : n < length w.message = omega arith in omega (arith, f n h, lent_there (length text) room w.message fits n h)

    from_room : length w.message ≤ room → (k : ℕ) → k < length w.message → FoundEntry s w.message (replicate (length text) room) k
    from_room h k i = omega (arith, lent_there (length text) room w.message fits k i)

  unless_to : {A B F R : Type 0} → (A → B) → (B → A) → Unless A F R → Unless B F R
  unless_to to from (inl (n, f)) = inl (λ b. n (from b), f)
  unless_to to from (inr (a, r)) = inr (to a, r)

  unless_in : {A F R Q : Type 0} → (R → Q) → Unless A F R → Unless A F Q
  unless_in on (inl x) = inl x
  unless_in on (inr (a, r)) = inr (a, on r)

  abbrev Asks : List ℕ → Verdict → (Message → Type 0) → Type 0
  Asks text v Room = ((k : ℕ) × FirstBad s text k × (v ≡ answer 4 k)) ⊎ ((w : WellFormed s text) × Unless (length w.message ≤ most_segments) (v ≡ answer 5 0) (Unless (Room w.message) (v ≡ answer 6 (length w.message)) (v ≡ answer 0 (length w.message))))

  pub one_table : (text : List ℕ) (room : ℕ) (v : Verdict) → TextSays s text (replicate (length text) room) v ↔ ReadingSays (λ m. length m ≤ room) (λ m v. v ≡ answer 0 (length m)) s text v
  one_table text room v = (unless_in to, unless_in from)
    where
      to : Asks text v (λ m. (k : ℕ) → k < length m → FoundEntry s m (replicate (length text) room) k) → Asks text v (λ m. length m ≤ room)
      to (inl x) = inl x
      to (inr (w, x)) = inr (w, unless_in (unless_to (to_room text room w) (from_room text room w)) x)

      from : Asks text v (λ m. length m ≤ room) → Asks text v (λ m. (k : ℕ) → k < length m → FoundEntry s m (replicate (length text) room) k)
      from (inl x) = inl x
      from (inr (w, x)) = inr (w, unless_in (unless_to (from_room text room w) (to_room text room w)) x)

-- ---- the starts

-- tables with the same entries are the same
same_entries : (xs ys : List ℕ) → length xs ≡ length ys → ((k : ℕ) → get_or xs k 0 ≡ get_or ys k 0) → xs ≡ ys
same_entries [] [] e h = refl
same_entries [] (y ∷ ys) e h = absurd (omega arith)
same_entries (x ∷ xs) [] e h = absurd (omega arith)
same_entries (x ∷ xs) (y ∷ ys) e h = ap₂ ◌∷◌ (h 0) (same_entries xs ys (omega arith) (λ k. h (suc k)))

fitted_long : (xs table : List ℕ) → length (as_many_as_fit xs table) ≡ length table
unfolding as_many_as_fit
fitted_long [] table = refl
fitted_long (x ∷ xs) [] = refl
fitted_long (x ∷ xs) (y ∷ table) = ap suc (fitted_long xs table)

fitted_in : (xs table : List ℕ) (k : ℕ) → k < length xs → k < length table → get_or (as_many_as_fit xs table) k 0 ≡ get_or xs k 0
unfolding as_many_as_fit
fitted_in [] table k h i = absurd (omega arith)
fitted_in (x ∷ xs) [] k h i = absurd (omega arith)
fitted_in (x ∷ xs) (y ∷ table) zero h i = refl
fitted_in (x ∷ xs) (y ∷ table) (suc k) h i = fitted_in xs table k (omega arith) (omega arith)

fitted_behind : (xs table : List ℕ) (k : ℕ) → length xs ≤ k → get_or (as_many_as_fit xs table) k 0 ≡ get_or table k 0
unfolding as_many_as_fit
fitted_behind [] table k h = refl
fitted_behind (x ∷ xs) [] k h = refl
fitted_behind (x ∷ xs) (y ∷ table) zero h = absurd (omega arith)
fitted_behind (x ∷ xs) (y ∷ table) (suc k) h = fitted_behind xs table k (omega arith)

fitted_out : (xs table : List ℕ) (k : ℕ) → length table ≤ k → get_or (as_many_as_fit xs table) k 0 ≡ get_or table k 0
unfolding as_many_as_fit
fitted_out [] table k h = refl
fitted_out (x ∷ xs) [] k h = refl
fitted_out (x ∷ xs) (y ∷ table) zero h = absurd (omega arith)
fitted_out (x ∷ xs) (y ∷ table) (suc k) h = fitted_out xs table k (omega arith)

-- the first n of some, for an n that is not told: the checker would take a number such as 999,999 apart
module _ (n : ℕ) (xs : List ℕ) where
  taken_within : (k : ℕ) → k < length (take n xs) → (k < n) × (k < length xs)
  taken_within k h = (omega (arith, h, length-take n xs), omega (arith, h, length-take n xs))

  taken_not : (k : ℕ) → length (take n xs) ≤ k → k < n → k < length xs → ⊥
  taken_not k h i j = omega (arith, h, i, j, length-take n xs)

taken_in : (n : ℕ) (xs : List ℕ) (k : ℕ) → k < n → get_or (take n xs) k 0 ≡ get_or xs k 0
taken_in zero xs k h = absurd (omega arith)
taken_in (suc n) [] k h = refl
taken_in (suc n) (x ∷ xs) zero h = refl
taken_in (suc n) (x ∷ xs) (suc k) h = taken_in n xs k (omega arith)

-- and of a message that lies within the first n bytes
taken_shorter : (n : ℕ) (text written : List ℕ) (l : ℕ) → take n text ≡ written → length written ≡ l → l ≤ length text
taken_shorter n text written l e f = omega (arith, ap length e, f, length-take n text)

module _ (s : Service) (good : GoodService s) (text memory now : List ℕ) (m : Message) (f : Finished s text m)
    (left : StartsLeft s m (replicate (length text) (length memory)) memory now) where
  within : length (render s m) ≤ length text
  within = omega (arith, segments_long s m f.rest, taken_shorter most_bytes text (write_segments s m f.rest) (length (write_segments s m f.rest)) f.same refl)

  as_many : length (starts_of s m) ≡ length m
  as_many = starts_long s good m []

  found_there : (k : ℕ) → k < length m → lent_at s m (replicate (length text) (length memory)) k ≡ length memory
  found_there = lent_there s (length text) (length memory) m within

  -- entry for entry, where the starts that are told are those of the first so many
  module _ (told : List ℕ) (inside : (k : ℕ) → k < length told → (k < most_segments) × (k < length (starts_of s m)))
      (outside : (k : ℕ) → length told ≤ k → k < most_segments → k < length (starts_of s m) → ⊥)
      (same : (k : ℕ) → k < length told → get_or told k 0 ≡ get_or (starts_of s m) k 0) where
    entry_for_entry : (k : ℕ) → get_or now k 0 ≡ get_or (as_many_as_fit told memory) k 0
    entry_for_entry k = by (ltb k (length told)) (ltb k (length memory)) refl refl
      where
        by : (t u : Bool) → ltb k (length told) ≡ t → ltb k (length memory) ≡ u → get_or now k 0 ≡ get_or (as_many_as_fit told memory) k 0
        by true true e g =
            let h = ltb-true k (length told) e in
            let i = ltb-true k (length memory) g in
            let few : k < length m = subst (λ (n : ℕ). k < n) as_many (inside k h).1 in
            left.left k (record { finished = few; among = (inside k h).0; found = subst (λ (n : ℕ). k < n) (sym (found_there k few)) i })
            ∙ sym (same k h) ∙ sym (fitted_in told memory k h i)
        by false u e g =
            let h = ltb-false k (length told) e in
            left.kept k (λ is. outside k h is.among (subst (λ (n : ℕ). k < n) (sym as_many) is.finished)) ∙ sym (fitted_behind told memory k h)
        by true false e g =
            let h = ltb-false k (length memory) g in
            left.kept k (λ is. not-below h (subst (λ (n : ℕ). k < n) (found_there k is.finished) is.found)) ∙ sym (fitted_out told memory k h)
          where
            not-below : length memory ≤ k → k < length memory → ⊥
            not-below a b = omega arith

    left_fitted : now ≡ as_many_as_fit told memory
    left_fitted = same_entries now (as_many_as_fit told memory) (left.as_long ∙ sym (fitted_long told memory)) entry_for_entry

  pub as_far_as_they_fit : now ≡ as_many_as_fit (take most_segments (starts_of s m)) memory
  as_far_as_they_fit =
      left_fitted (take most_segments (starts_of s m)) (taken_within most_segments (starts_of s m)) (taken_not most_segments (starts_of s m))
      (λ k h. taken_in most_segments (starts_of s m) k (taken_within most_segments (starts_of s m) k h).0)

-- numbers 3 to 6 are those of the judge's own table, by computation
module _ (s : Service) (bs : List ℕ) (room : Room) (Rest : Message → Verdict → Type 0) where
  -- 7 to 9
  abbrev FrameSays : Message → Verdict → Type 0
  FrameSays m v =
      ((k : ℕ) × FirstWrong (Misplaced (length m)) 0 m k × (v ≡ answer 7 k))
      ⊎ (NoneWrong (Misplaced (length m)) 0 m
      × Unless (TellsCount m) (v ≡ answer 8 (length m)) (Unless (TellsReference m) (v ≡ answer 9 (length m)) (Rest m v)))

  pub table_reads : (v : Verdict) → BytesSay s bs room Rest v ≡ ReadingSays (λ m. HasRoom room (length m)) FrameSays s bs v
  table_reads v = refl
