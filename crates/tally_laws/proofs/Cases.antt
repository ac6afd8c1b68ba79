-- What the two calls answer and leave, case by case: 02's refusals in their order, and then what is done.
use Prim.Native.Nat.{ℕ, ◌+◌, ◌≤◌, ◌<◌}
use mathlib.Core.Path.{◌≡◌}
use mathlib.Core.List.{List}
use lib.ListN.{length, replicate}
use borrow.Author.Tests.{eq-eqb, ne_eqb, le-leb, lt-leb}
use Rattle.tally.specs.meaning.Tally.{counts, tally_length, count_of, with_count, full, answer_to_add, tally_after_add, answer_to_clear, tally_after_clear}

-- this is answered to adding, and these bytes are left
abbrev pub AddGives : List ℕ → ℕ → ℕ → List ℕ → Type 0
AddGives tally number answer left = (answer ≡ answer_to_add tally number) × (left ≡ tally_after_add tally number)

abbrev pub ClearGives : List ℕ → ℕ → List ℕ → Type 0
ClearGives tally answer left = (answer ≡ answer_to_clear tally) × (left ≡ tally_after_clear tally)

module _ (tally : List ℕ) where
  pub add_of_wrong_length : (number : ℕ) → (length tally ≡ tally_length → ⊥) → AddGives tally number 1 tally
  unfolding answer_to_add tally_after_add
  add_of_wrong_length number wrong = let test = ne_eqb (length tally) tally_length wrong in (simp test, simp test)

  pub clear_of_wrong_length : (length tally ≡ tally_length → ⊥) → ClearGives tally 1 tally
  unfolding answer_to_clear tally_after_clear
  clear_of_wrong_length wrong = let test = ne_eqb (length tally) tally_length wrong in (simp test, simp test)

  module _ (right : length tally ≡ tally_length) where
    pub add_outside : (number : ℕ) → counts ≤ number → AddGives tally number 2 tally
    unfolding answer_to_add tally_after_add
    add_outside number outside =
        let long = eq-eqb (length tally) tally_length right in
        let test = le-leb counts number outside in
        (simp (long, test), simp (long, test))

    pub add_to_full : (number : ℕ) → number < counts → count_of tally number ≡ full → AddGives tally number 3 tally
    unfolding answer_to_add tally_after_add
    add_to_full number inside is-full =
        let long = eq-eqb (length tally) tally_length right in
        let there = lt-leb counts number inside in
        let test = eq-eqb (count_of tally number) full is-full in
        (simp (long, there, test), simp (long, there, test))

    pub add-one : (number : ℕ) → number < counts → (count_of tally number ≡ full → ⊥) → AddGives tally number 0 (with_count tally number (count_of tally number + 1))
    unfolding answer_to_add tally_after_add
    add-one number inside not_full =
        let long = eq-eqb (length tally) tally_length right in
        let there = lt-leb counts number inside in
        let test = ne_eqb (count_of tally number) full not_full in
        (simp (long, there, test), simp (long, there, test))

    pub clear_all : ClearGives tally 0 (replicate tally_length 0)
    unfolding answer_to_clear tally_after_clear
    clear_all = let long = eq-eqb (length tally) tally_length right in (simp long, simp long)
