-- What one call does to the counts of the memory that it is lent a part of: it changes nothing, adds one to one of them, or zeroes all.
use Prim.Native.Nat.{ℕ, zero, suc, ◌+◌, ◌≤◌, ◌<◌}
use native.Mathlib.Omega.{arith}
use mathlib.Core.Path.{◌≡◌, refl, sym, ap, ◌∙◌, subst}
use mathlib.Core.Bool.{Bool, true, false}
use mathlib.Core.List.{List, [], ◌∷◌, ◌++◌}
use lib.ListN.{length, get_or, take, drop, replicate, length-replicate, take-append-drop}
use lib.Seq.{get_or-drop, drop_at, length_front}
use lib.Dec.{eqb, leb}
use borrow.Author.Tests.{eqb-true, eqb-false, leb-true, leb-false}
use Rattle.tally.specs.meaning.Tally.{counts, tally_length, count_place, count_of, with_count, full, answer_to_add, tally_after_add, answer_to_clear, tally_after_clear}
use Rattle.tally.specs.statements.AddsUp.{Asked, add, clear, Call, answer_to, left_by, answered, after_call}
use Rattle.tally_laws.proofs.Cases.{add_of_wrong_length, add_outside, add_to_full, add-one, clear_of_wrong_length, clear_all}
use Rattle.tally_laws.proofs.Counts.{Bytes, length_with_count, bytes_with_count, own_count, other_count, count_before, count_small}

-- ---- the calls alone

data AddCase (tally : List ℕ) (number : ℕ) : Type 0 where
  not_added : (answer_to_add tally number ≡ 0 → ⊥) → tally_after_add tally number ≡ tally → AddCase tally number
  one_added : answer_to_add tally number ≡ 0 → length tally ≡ tally_length → number < counts → (count_of tally number ≡ full → ⊥)
      → tally_after_add tally number ≡ with_count tally number (count_of tally number + 1) → AddCase tally number

-- an answer other than 0
refusal : {answer : ℕ} (k : ℕ) → suc k ≡ answer → answer ≡ 0 → ⊥
refusal k e z = omega (arith, e, z)

add_case : (tally : List ℕ) (number : ℕ) → AddCase tally number
add_case tally number = by_length (eqb (length tally) tally_length) refl
  where
    by_count : length tally ≡ tally_length → number < counts → (t : Bool) → eqb (count_of tally number) full ≡ t → AddCase tally number
    by_count right inside true e =
        let gives = add_to_full tally right number inside (eqb-true (count_of tally number) full e) in
        not_added (refusal 2 gives.0) (sym gives.1)
    by_count right inside false e =
        let not_full = eqb-false (count_of tally number) full e in
        let gives = add-one tally right number inside not_full in
        one_added (sym gives.0) right inside not_full (sym gives.1)

    by_number : length tally ≡ tally_length → (t : Bool) → leb counts number ≡ t → AddCase tally number
    by_number right true e =
        let gives = add_outside tally right number (leb-true counts number e) in
        not_added (refusal 1 gives.0) (sym gives.1)
    by_number right false e = by_count right (leb-false counts number e) (eqb (count_of tally number) full) refl

    by_length : (t : Bool) → eqb (length tally) tally_length ≡ t → AddCase tally number
    by_length true e = by_number (eqb-true (length tally) tally_length e) (leb counts number) refl
    by_length false e =
        let gives = add_of_wrong_length tally number (eqb-false (length tally) tally_length e) in
        not_added (refusal 0 gives.0) (sym gives.1)

data ClearCase (tally : List ℕ) : Type 0 where
  not_cleared : (answer_to_clear tally ≡ 0 → ⊥) → tally_after_clear tally ≡ tally → ClearCase tally
  all_cleared : answer_to_clear tally ≡ 0 → length tally ≡ tally_length → tally_after_clear tally ≡ replicate tally_length 0 → ClearCase tally

clear_case : (tally : List ℕ) → ClearCase tally
clear_case tally = by_length (eqb (length tally) tally_length) refl
  where
    by_length : (t : Bool) → eqb (length tally) tally_length ≡ t → ClearCase tally
    by_length true e =
        let right = eqb-true (length tally) tally_length e in
        let gives = clear_all tally right in
        all_cleared (sym gives.0) right (sym gives.1)
    by_length false e =
        let gives = clear_of_wrong_length tally (eqb-false (length tally) tally_length e) in
        not_cleared (refusal 0 gives.0) (sym gives.1)

-- ---- bytes of parts

bytes_take : (n : ℕ) (memory : List ℕ) → Bytes memory → Bytes (take n memory)
bytes_take zero memory b at = omega arith
bytes_take (suc n) [] b at = omega arith
bytes_take (suc n) (x ∷ xs) b zero = b zero
bytes_take (suc n) (x ∷ xs) b (suc at) = bytes_take n xs (λ k. b (suc k)) at

bytes_drop : (n : ℕ) (memory : List ℕ) → Bytes memory → Bytes (drop n memory)
bytes_drop n memory b at = rw (get_or-drop n memory at 0) (b (n + at))

bytes_append : (xs ys : List ℕ) → Bytes xs → Bytes ys → Bytes (xs ++ ys)
bytes_append [] ys b c at = c at
bytes_append (x ∷ xs) ys b c zero = b zero
bytes_append (x ∷ xs) ys b c (suc at) = bytes_append xs ys (λ k. b (suc k)) c at

zeros_at : (n at : ℕ) → ◌≡◌ {A = ℕ} (get_or (replicate n 0) at 0) 0
zeros_at zero at = refl
zeros_at (suc n) zero = refl
zeros_at (suc n) (suc at) = zeros_at n at

pub bytes_zeros : (n : ℕ) → Bytes (replicate n 0)
bytes_zeros n at = rw (zeros_at n at) (omega arith)

pub zeros_count : (n number : ℕ) → count_of (replicate n 0) number ≡ 0
zeros_count n number = rw (zeros_at n (count_place number), zeros_at n (count_place number + 1), zeros_at n (count_place number + 2), zeros_at n (count_place number + 3))

-- ---- a call over memory

-- what it leaves of the counts
pub data Moved (memory : List ℕ) : Asked → List ℕ → Type 0 where
  one_more_lem : (number : ℕ) (left : List ℕ) → number < counts → count_of left number ≡ count_of memory number + 1
      → ((other : ℕ) → other < counts → (other ≡ number → ⊥) → count_of left other ≡ count_of memory other) → Moved memory (add number) left
  zeroed : (left : List ℕ) → ((number : ℕ) → number < counts → count_of left number ≡ 0) → Moved memory clear left

pub data Outcome (memory : List ℕ) (call : Call) : Type 0 where
  refused : (answered memory call ≡ 0 → ⊥) → after_call memory call ≡ memory → Outcome memory call
  accepted : answered memory call ≡ 0 → Bytes (after_call memory call) → length (after_call memory call) ≡ length memory
      → drop tally_length (after_call memory call) ≡ drop tally_length memory → Moved memory call.asked (after_call memory call) → Outcome memory call

module _ (memory : List ℕ) (b : Bytes memory) (lent : ℕ) where
  abbrev part : List ℕ
  part = take lent memory

  abbrev rest : List ℕ
  rest = drop lent memory

  -- a tally in the place of the lent one
  count_in_front : (tally : List ℕ) → length tally ≡ tally_length → (number : ℕ) → number < counts → count_of (tally ++ rest) number ≡ count_of tally number
  count_in_front tally right number inside = count_before tally rest number (omega (arith, right, inside))

  behind : (tally : List ℕ) → length tally ≡ tally_length → drop tally_length (tally ++ rest) ≡ rest
  behind tally right = drop_at tally rest tally_length right

  pub count_in_memory : length part ≡ tally_length → (number : ℕ) → number < counts → count_of memory number ≡ count_of part number
  count_in_memory right number inside = ap (λ (l : List ℕ). count_of l number) (sym (take-append-drop lent memory)) ∙ count_in_front part right number inside

  behind_memory : length part ≡ tally_length → drop tally_length memory ≡ rest
  behind_memory right = ap (drop tally_length) (sym (take-append-drop lent memory)) ∙ behind part right

  same_length : (tally : List ℕ) → length tally ≡ length part → length (tally ++ rest) ≡ length memory
  same_length tally same = length_front memory tally lent same

  unchanged : (asked : Asked) → (answer_to asked part ≡ 0 → ⊥) → left_by asked part ≡ part → Outcome memory (record { asked = asked; lent = lent })
  unchanged asked refusal-of same = refused refusal-of (ap (λ (l : List ℕ). l ++ rest) same ∙ take-append-drop lent memory)

  replaced : (asked : Asked) (tally : List ℕ) → length part ≡ tally_length → length tally ≡ tally_length → Bytes tally
      → answer_to asked part ≡ 0 → left_by asked part ≡ tally → Moved memory asked (tally ++ rest) → Outcome memory (record { asked = asked; lent = lent })
  replaced asked tally right long bytes answer gives moved =
      let left : left_by asked part ++ rest ≡ tally ++ rest = ap (λ (l : List ℕ). l ++ rest) gives in
      accepted answer
      (subst Bytes (sym left) (bytes_append tally rest bytes (bytes_drop lent memory b)))
      (ap length left ∙ same_length tally (long ∙ sym right))
      (ap (drop tally_length) left ∙ behind tally long ∙ sym (behind_memory right))
      (subst (Moved memory asked) (sym left) moved)

  outcome_of_add : (number : ℕ) → AddCase part number → Outcome memory (record { asked = add number; lent = lent })
  outcome_of_add number (not_added refusal-of same) = unchanged (add number) refusal-of same
  outcome_of_add number (one_added answer right inside not_full gives) =
      let next = count_of part number + 1 in
      let tally = with_count part number next in
      let long : length tally ≡ tally_length = length_with_count part number next ∙ right in
      let small : next ≤ full = omega (arith, count_small part (bytes_take lent memory b) number, not_full) in
      let own : count_of (tally ++ rest) number ≡ count_of memory number + 1 =
      count_in_front tally long number inside
      ∙ own_count part number next (omega (arith, right, inside)) small
      ∙ ap (λ (k : ℕ). k + 1) (sym (count_in_memory right number inside)) in
      let others : (other : ℕ) → other < counts → (other ≡ number → ⊥) → count_of (tally ++ rest) other ≡ count_of memory other =
      λ other h differs. count_in_front tally long other h ∙ other_count part number next other differs ∙ sym (count_in_memory right other h) in
      replaced (add number) tally right long (bytes_with_count part number next (bytes_take lent memory b)) answer gives (one_more_lem number (tally ++ rest) inside own others)

  outcome_of_clear : ClearCase part → Outcome memory (record { asked = clear; lent = lent })
  outcome_of_clear (not_cleared refusal-of same) = unchanged clear refusal-of same
  outcome_of_clear (all_cleared answer right gives) =
      let tally : List ℕ = replicate tally_length 0 in
      let long : length tally ≡ tally_length = length-replicate {A = ℕ} tally_length 0 in
      replaced clear tally right long (bytes_zeros tally_length) answer gives (zeroed (tally ++ rest) (λ number h. count_in_front tally long number h ∙ zeros_count tally_length number))

pub outcome : (memory : List ℕ) → Bytes memory → (call : Call) → Outcome memory call
outcome memory b call = of call.asked
  where
    of : (asked : Asked) → Outcome memory (record { asked = asked; lent = call.lent })
    of (add number) = outcome_of_add memory b call.lent number (add_case (take call.lent memory) number)
    of clear = outcome_of_clear memory b call.lent (clear_case (take call.lent memory))
