-- The tally's definitions at work: computed, and by the law where there are too many calls to compute.
use Prim.Native.Nat.{ℕ, zero, suc, ◌+◌, ◌≤◌, ◌<◌}
use native.Mathlib.Omega.{arith}
use mathlib.Core.Path.{◌≡◌, refl}
use mathlib.Core.List.{List, [], ◌∷◌, ◌++◌}
use lib.ListN.{replicate, length-replicate}
use borrow.Author.Tests.{eq-eqb}
use Rattle.tally.specs.meaning.Tally.{counts, tally_length, count_of, full, answer_to_add, tally_after_add, answer_to_clear, tally_after_clear}
use Rattle.tally.specs.statements.AddsUp.{add, Call, adding, clearing, answered, after, day_of, how_often}
use Rattle.tally_laws.proofs.Counts.{Bytes}
use Rattle.tally_laws.proofs.OneCall.{bytes_zeros, zeros_count}
use Rattle.tally_laws.proofs.AddsUp.{adds_up}

abbrev zeros : List ℕ
zeros = replicate tally_length 0

-- ---- computed

-- the lowest byte comes first, and number 1 behind number 0
pub little_endian : (count_of (1 ∷ 2 ∷ 3 ∷ 4 ∷ 9 ∷ replicate 59 0) 0 ≡ 67305985) × (count_of (1 ∷ 2 ∷ 3 ∷ 4 ∷ 9 ∷ replicate 59 0) 1 ≡ 9)
little_endian = (refl, refl)

-- one is carried from byte to byte, and to no other count
pub carried : (tally_after_add (255 ∷ 0 ∷ 0 ∷ 0 ∷ replicate 60 255) 0 ≡ 0 ∷ 1 ∷ 0 ∷ 0 ∷ replicate 60 255)
    × (tally_after_add (255 ∷ 255 ∷ 0 ∷ 0 ∷ replicate 60 255) 0 ≡ 0 ∷ 0 ∷ 1 ∷ 0 ∷ replicate 60 255)
    × (tally_after_add (254 ∷ 255 ∷ 255 ∷ 255 ∷ replicate 60 255) 0 ≡ replicate 64 255)
unfolding answer_to_add tally_after_add
carried = (refl, refl, refl)

-- the refusals, in their order
pub refusals : (answer_to_add (replicate 63 255) 16 ≡ 1) × (answer_to_add (replicate 65 255) 0 ≡ 1) × (answer_to_add (replicate 64 255) 16 ≡ 2)
    × (answer_to_add (replicate 64 255) 15 ≡ 3) × (answer_to_clear (replicate 65 255) ≡ 1) × (tally_after_clear (replicate 65 255) ≡ replicate 65 255)
unfolding answer_to_add answer_to_clear tally_after_clear
refusals = (refl, refl, refl, refl, refl, refl)

-- full counts are cleared too
pub cleared : (answer_to_clear (replicate 64 255) ≡ 0) × (tally_after_clear (replicate 64 255) ≡ replicate 64 0)
unfolding answer_to_clear tally_after_clear
cleared = (refl, refl)

-- a day: 0, 15, a call of 63 bytes, a clearing; then 0 and 0, and 15
pub a_day : after zeros (adding 15 ∷ adding 0 ∷ adding 0 ∷ clearing ∷ record { asked = add 0; lent = 63 } ∷ adding 15 ∷ adding 0 ∷ []) ≡ 2 ∷ replicate 59 0 ++ (1 ∷ 0 ∷ 0 ∷ 0 ∷ [])
unfolding after answer_to_add tally_after_add answer_to_clear tally_after_clear
a_day = refl

-- ---- by the law

-- a verdict that is accepted is one more of its number
one_more_often : (memory : List ℕ) → Bytes memory → (calls : List Call) (number : ℕ) → number < counts → answered (after memory calls) (adding number) ≡ 0
    → count_of (after memory (adding number ∷ calls)) number ≡ count_of (after memory calls) number + 1
unfolding day_of how_often
one_more_often memory b calls number inside answer =
    let before : count_of (after memory calls) number ≡ (day_of memory calls).begun number + how_often number (day_of memory calls).accepted =
    (adds_up memory b calls).each number inside in
    let behind = rw (eq-eqb (answered (after memory calls) (adding number)) 0 answer, eq-eqb number number refl) at ((adds_up memory b (adding number ∷ calls)).each number inside) in
    omega (arith, before, behind)

-- so many verdicts of one number, from a cleared tally
pub counted_on : (number : ℕ) → number < counts → (n : ℕ) → n ≤ full → count_of (after zeros (replicate n (adding number))) number ≡ n
unfolding after
counted_on number inside zero small = zeros_count tally_length number
counted_on number inside (suc n) small =
    let earlier = replicate n (adding number) in
    let before = counted_on number inside n (omega arith) in
    let answer = (adds_up zeros (bytes_zeros tally_length) earlier).not_full_answers_zero (omega (arith, (adds_up zeros (bytes_zeros tally_length) earlier).as_long, length-replicate {A = ℕ} tally_length 0)) number inside (λ is-full. omega (arith, is-full, before, small)) in
    omega (arith, before, one_more_often zeros (bytes_zeros tally_length) earlier number inside answer)

-- in 16 bits, as the old inspector counted segments, it would be 8
pub sixty_five_thousand : count_of (after zeros (replicate 65544 (adding 0))) 0 ≡ 65544
sixty_five_thousand = counted_on 0 (omega arith) 65544 (omega arith)
