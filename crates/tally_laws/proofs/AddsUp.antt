-- The tally adds up, over any calls: what holds before a call holds behind it, whatever the call and its answer.
use Prim.Native.Nat.{ℕ, ◌+◌, ◌≤◌, ◌<◌}
use native.Mathlib.Omega.{arith}
use mathlib.Core.Path.{◌≡◌, refl, sym, ap, ◌∙◌, subst}
use mathlib.Core.Bool.{Bool, true, false, cond}
use mathlib.Core.List.{List, [], ◌∷◌}
use lib.ListN.{length, take, drop}
use lib.Seq.{length-take-le}
use lib.Dec.{eqb}
use borrow.Author.Tests.{eq-eqb, ne_eqb, eqb-true, eqb-false}
use Rattle.tally.specs.meaning.Tally.{counts, tally_length, count_of}
use Rattle.tally.specs.statements.AddsUp.{Asked, add, clear, Call, answer_to, answered, after_call, after, Day, day_after, day_of, how_often, sum_of, TallyAddsUp}
use Rattle.tally_laws.proofs.Cases.{add_of_wrong_length, add_outside, add_to_full, add-one, clear_of_wrong_length, clear_all}
use Rattle.tally_laws.proofs.Counts.{Bytes}
use Rattle.tally_laws.proofs.OneCall.{Moved, one_more_lem, zeroed, Outcome, refused, accepted, outcome, count_in_memory}
use Rattle.tally_laws.proofs.Sums.{Below, sum_alike, sum_both, sum_how_often}

-- the counts of a memory are what the day says
abbrev Each : List ℕ → Day → Type 0
Each now day = (number : ℕ) → number < counts → count_of now number ≡ day.begun number + how_often number day.accepted

-- what holds of the memory and of the day so far
record Sound (memory now : List ℕ) (day : Day) : Type 0 where
  bytes : Bytes now
  each : Each now day
  below : Below counts day.accepted
  behind : drop tally_length now ≡ drop tally_length memory
  as_long : length now ≡ length memory

-- each count behind a call that was answered 0
each_moved : (now left : List ℕ) (day : Day) (asked : Asked) → Moved now asked left → Each now day → Each left (day_after asked day)
unfolding how_often
each_moved now left day asked (one_more_lem added _ inside own others) each number h = by (eqb number added) refl
  where
    by : (t : Bool) → eqb number added ≡ t → count_of left number ≡ day.begun number + (cond (eqb number added) 1 0 + how_often number day.accepted)
    by true e = let same = eqb-true number added e in rw e (omega (arith, ap (count_of left) same, ap (count_of now) same, own, each number h))
    by false e = rw e (omega (arith, others number h (eqb-false number added e), each number h))
each_moved now left day asked (zeroed _ zeros) each number h = zeros number h

below_moved : (now left : List ℕ) (day : Day) (asked : Asked) → Moved now asked left → Below counts day.accepted → Below counts (day_after asked day).accepted
below_moved now left day asked (one_more_lem added _ inside own others) below = (inside, below)
below_moved now left day asked (zeroed _ zeros) below = tt

one_call : (memory now : List ℕ) (day : Day) (call : Call) → Sound memory now day
    → Sound memory (after_call now call) (cond (eqb (answered now call) 0) (day_after call.asked day) day)
one_call memory now day call sound = by (outcome now sound.bytes call)
  where
    by : Outcome now call → Sound memory (after_call now call) (cond (eqb (answered now call) 0) (day_after call.asked day) day)
    by (refused answer same) = rw (ne_eqb (answered now call) 0 answer) (subst (λ (l : List ℕ). Sound memory l day) (sym same) sound)
    by (accepted answer bytes as_long behind moved) =
        rw
        (eq-eqb (answered now call) 0 answer)
        (record {
          bytes = bytes;
          each = each_moved now (after_call now call) day call.asked moved sound.each;
          below = below_moved now (after_call now call) day call.asked moved sound.below;
          behind = behind ∙ sound.behind;
          as_long = as_long ∙ sound.as_long;
        })

any_calls : (memory : List ℕ) → Bytes memory → (calls : List Call) → Sound memory (after memory calls) (day_of memory calls)
unfolding after day_of how_often
any_calls memory b [] = record { bytes = b; each = λ number h. omega arith; below = tt; behind = refl; as_long = refl }
any_calls memory b (call ∷ earlier) = one_call memory (after memory earlier) (day_of memory earlier) call (any_calls memory b earlier)

same_when_refused : (now : List ℕ) (call : Call) → (answered now call ≡ 0 → ⊥) → Outcome now call → after_call now call ≡ now
same_when_refused now call answer (refused _ same) = same
same_when_refused now call answer (accepted zero-answer bytes as_long behind moved) = absurd (answer zero-answer)

-- a wrong length, whatever is asked
wrong_length : (tally : List ℕ) (asked : Asked) → (length tally ≡ tally_length → ⊥) → answer_to asked tally ≡ 1
wrong_length tally (add number) wrong = sym (add_of_wrong_length tally number wrong).0
wrong_length tally clear wrong = sym (clear_of_wrong_length tally wrong).0

pub adds_up : TallyAddsUp
adds_up memory b calls =
    let now = after memory calls in
    let day = day_of memory calls in
    let sound = any_calls memory b calls in
    let tally = take tally_length now in
    let right : tally_length ≤ length now → length tally ≡ tally_length = length-take-le tally_length now in
    let same : (long : tally_length ≤ length now) (number : ℕ) → number < counts → count_of now number ≡ count_of tally number =
    λ long. count_in_memory now sound.bytes tally_length (right long) in
    record {
      each = sound.each;
      sum =
          sum_alike counts (count_of now) (λ number. day.begun number + how_often number day.accepted) sound.each
          ∙ sum_both counts day.begun (λ number. how_often number day.accepted)
          ∙ ap (λ (n : ℕ). sum_of counts day.begun + n) (sum_how_often counts day.accepted sound.below);
      wrong_length_answers_one = λ call. wrong_length (take call.lent now) call.asked;
      outside_answers_two = λ long number outside. sym (add_outside tally (right long) number outside).0;
      full_answers_three = λ long number inside is-full. sym (add_to_full tally (right long) number inside (sym (same long number inside) ∙ is-full)).0;
      not_full_answers_zero = λ long number inside not_full. sym (add-one tally (right long) number inside (λ is-full. not_full (same long number inside ∙ is-full))).0;
      clearing_answers_zero = λ long. sym (clear_all tally (right long)).0;
      refused_changes_nothing = λ call answer. same_when_refused now call answer (outcome now sound.bytes call);
      behind = sound.behind;
      as_long = sound.as_long;
    }
