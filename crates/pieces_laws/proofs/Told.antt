-- The starts that are told: which segments found their entry, what they left in the memory, and whether one found none; and what a byte more makes of that.
use Prim.Native.Nat.{ℕ, suc, ◌+◌, ◌-◌, ◌≤◌, ◌<◌}
use native.Mathlib.Omega.{arith}
use mathlib.Core.Path.{◌≡◌, sym, ap, ◌∙◌}
use mathlib.Core.List.{List, [], ◌∷◌, ◌++◌}
use mathlib.Core.Bool.{Bool, true, false}
use lib.ListN.{length, get_or, take, drop, length-append, take-append-drop, get_or-append}
use lib.Seq.{take_all, take-append-le, get_or_at}
use Rattle.reading.specs.meaning.Message.{Segment, Message, write_segments, render}
use Rattle.reading.specs.declared.service.Service.{Service}
use Rattle.reading_laws.proofs.Rendering.{segments_append, segments_long}
use Rattle.framing.specs.meaning.Limits.{most_segments}
use Rattle.pieces.specs.meaning.Starts.{lent_at, FoundEntry, IsLeft, StartsLeft}

-- a segment whose start is to be told found no entry; or each of them found one
abbrev pub Lacking : Service → Message → List ℕ → Bool → Type 0
Lacking s m lents true = (k : ℕ) × (k < length m) × (k < most_segments) × (FoundEntry s m lents k → ⊥)
Lacking s m lents false = (k : ℕ) → k < length m → k < most_segments → FoundEntry s m lents k

pub record Told (s : Service) (m : Message) (lents memory now : List ℕ) (t : Bool) : Type 0 where
  pub starts : StartsLeft s m lents memory now
  pub lacking : Lacking s m lents t

module _ (s : Service) where
  -- ---- how many entries came with a segment's last byte

  pub front_shorter : (k : ℕ) (m : Message) → length (render s (take k m)) ≤ length (render s m)
  front_shorter k m =
      let whole : render s m ≡ write_segments s (take k m) (render s (drop k m)) =
      ap (render s) (sym (take-append-drop k m)) ∙ segments_append s (take k m) (drop k m) [] in
      omega (arith, segments_long s (take k m) (render s (drop k m)), ap length whole)

  pub some_written : (k : ℕ) (m : Message) → k < length m → 0 < length (render s (take (suc k) m))
  unfolding write_segments
  some_written k [] h = absurd (omega arith)
  some_written k (g ∷ gs) h = omega arith

  -- no later byte changes it
  pub lent_longer : (m : Message) (lents more : List ℕ) → length (render s m) ≤ length lents → (k : ℕ) → k < length m → lent_at s m (lents ++ more) k ≡ lent_at s m lents k
  lent_longer m lents more w k h =
      get_or-append lents more 0 (length (render s (take (suc k) m)) - 1) (omega (arith, some_written k m h, front_shorter (suc k) m))

  -- nor does a later segment
  pub lent_before : (m n : Message) (lents : List ℕ) (k : ℕ) → k < length m → lent_at s (m ++ n) lents k ≡ lent_at s m lents k
  lent_before m n lents k h = ap (λ (x : Message). get_or lents (length (render s x) - 1) 0) (take-append-le (suc k) m n (omega arith))

  pub lent_last : (m : Message) (g : Segment) (lents : List ℕ) (lent : ℕ) → length (render s (m ++ (g ∷ []))) ≡ length lents + 1
      → lent_at s (m ++ (g ∷ [])) (lents ++ (lent ∷ [])) (length m) ≡ lent
  lent_last m g lents lent e =
      let all : take (suc (length m)) (m ++ (g ∷ [])) ≡ m ++ (g ∷ []) = take_all (suc (length m)) (m ++ (g ∷ [])) (omega (arith, length-append m (g ∷ []))) in
      ap (λ (x : Message). get_or (lents ++ (lent ∷ [])) (length (render s x) - 1) 0) all
      ∙ get_or_at lents lent [] 0 (length (render s (m ++ (g ∷ []))) - 1) (omega arith)

  -- ---- what is known of a message's segments is known of them in a longer text

  module _ (m n : Message) (lents longer : List ℕ) (front : length m ≤ length n) (same : (k : ℕ) → k < length m → lent_at s n longer k ≡ lent_at s m lents k) where
    pub found_later : (k : ℕ) → k < length m → FoundEntry s m lents k → FoundEntry s n longer k
    found_later k h f = rw (same k h) f

    found_earlier : (k : ℕ) → k < length m → FoundEntry s n longer k → FoundEntry s m lents k
    found_earlier k h f = rw (same k h) at f

    pub left_later : (k : ℕ) → IsLeft s m lents k → IsLeft s n longer k
    left_later k l = record { finished = let h = l.finished in omega arith; among = l.among; found = found_later k l.finished l.found }

    pub left_earlier : (k : ℕ) → k < length m → IsLeft s n longer k → IsLeft s m lents k
    left_earlier k h l = record { finished = h; among = l.among; found = found_earlier k h l.found }

    pub lacking_later : Lacking s m lents true → Lacking s n longer true
    lacking_later (k, h, a, f) = (k, omega arith, a, λ i. f (found_earlier k h i))

  -- ---- a byte that ends no segment

  module _ (m : Message) (lents more : List ℕ) (within : length (render s m) ≤ length lents) where
    abbrev same_longer : (k : ℕ) → k < length m → lent_at s m (lents ++ more) k ≡ lent_at s m lents k
    same_longer = lent_longer m lents more within

    lacking_longer : (t : Bool) → Lacking s m lents t → Lacking s m (lents ++ more) t
    lacking_longer true x = lacking_later m m lents (lents ++ more) (omega arith) same_longer x
    lacking_longer false x = λ k h a. found_later m m lents (lents ++ more) (omega arith) same_longer k h (x k h a)

    pub told_longer : {memory now : List ℕ} {t : Bool} → Told s m lents memory now t → Told s m (lents ++ more) memory now t
    told_longer {t = t} x =
        record {
          starts = record {
            left = λ k l. x.starts.left k (left_earlier m m lents (lents ++ more) (omega arith) same_longer k l.finished l);
            kept = λ k f. x.starts.kept k (λ l. f (left_later m m lents (lents ++ more) (omega arith) same_longer k l));
            as_long = x.starts.as_long;
          };
          lacking = lacking_longer t x.lacking;
        }
