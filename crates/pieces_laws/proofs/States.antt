-- The numbers that the caller keeps: from eight zeros on they tell the progress, and nothing else.
use Prim.Native.Nat.{ℕ}
use native.Mathlib.Omega.{arith}
use mathlib.Core.Path.{◌≡◌, refl, ap, ap₂, ◌∙◌}
use mathlib.Core.List.{List, [], ◌∷◌}
use mathlib.Core.Bool.{Bool, true, false, cond}
use lib.ListN.{length, get_or, set, length-set}
use Rattle.slices.specs.meaning.Lent.{as_many_as_fit}
use Rattle.reading.specs.declared.machine.State.{State}
use Rattle.reading.specs.declared.machine.State.TheVariants.{Start, Second, Third, Tagged, Opened, Parted, Inside, Released, Dead}
use Rattle.pieces.specs.meaning.Calls.{state_length}
use Rattle.pieces.specs.meaning.Pieces.{fresh}
use Rattle.pieces.specs.declared.progress.Progress.{Progress}
use Rattle.pieces.specs.method.Progress.{answer_of}
use Rattle.pieces.specs.method.Numbers.{state_number, state_of, flag, is_set, progress_of, numbers_of, ended}
use Rattle.pieces.specs.method.Calls.{has_ended}
use Rattle.pieces_laws.proofs.Sound.{fresh_progress}

flag_told : (b : Bool) → is_set (flag b) ≡ b
flag_told true = refl
flag_told false = refl

state_told : (q : State) → state_of (state_number q) ≡ q
unfolding state_of
state_told Start = refl
state_told Second = refl
state_told Third = refl
state_told Tagged = refl
state_told Opened = refl
state_told Parted = refl
state_told Inside = refl
state_told Released = refl
state_told Dead = refl

-- the eight numbers of a progress: seven, and one that stays 0
abbrev pub kept : Progress → List ℕ
kept p = as_many_as_fit (numbers_of p) fresh

pub kept_eight : (p : Progress) → length (kept p) ≡ state_length
unfolding as_many_as_fit
kept_eight p = refl

pub kept_fresh : fresh ≡ kept fresh_progress
unfolding as_many_as_fit
kept_fresh = refl

pub kept_anew : (p q : Progress) → as_many_as_fit (numbers_of q) (kept p) ≡ kept q
unfolding as_many_as_fit
kept_anew p q = refl

pub kept_told : (p : Progress) → progress_of (kept p) ≡ p
unfolding as_many_as_fit
kept_told p =
    ap₂ (λ (e : Bool) (q : State). record { ended = e; state = q; bytes = p.bytes; bad = p.bad; segments = p.segments; start = p.start; lacking = is_set (flag p.lacking) })
    (flag_told p.ended) (state_told p.state)
    ∙ ap (λ (l : Bool). record { ended = p.ended; state = p.state; bytes = p.bytes; bad = p.bad; segments = p.segments; start = p.start; lacking = l }) (flag_told p.lacking)

-- ---- the end, of any numbers

abbrev ended_at : Progress → Progress
ended_at p = record { ended = true; state = p.state; bytes = p.bytes; bad = p.bad; segments = p.segments; start = p.start; lacking = p.lacking }

ended_told : (state : List ℕ) → length state ≡ state_length → progress_of (ended state) ≡ ended_at (progress_of state)
ended_told [] eight = absurd (omega arith)
ended_told (x ∷ xs) eight = go (is_set x) refl
  where
    go : (b : Bool) → is_set x ≡ b → progress_of (cond b (x ∷ xs) (1 ∷ xs)) ≡ ended_at (progress_of (x ∷ xs))
    go true e = ap (λ (is : Bool). record {
      ended = is;
      state = (progress_of (x ∷ xs)).state;
      bytes = (progress_of (x ∷ xs)).bytes;
      bad = (progress_of (x ∷ xs)).bad;
      segments = (progress_of (x ∷ xs)).segments;
      start = (progress_of (x ∷ xs)).start;
      lacking = (progress_of (x ∷ xs)).lacking;
    }) e
    go false e = refl

pub ended_eight : (state : List ℕ) → length state ≡ state_length → length (ended state) ≡ state_length
ended_eight state eight = go (is_set (get_or state 0 0))
  where
    go : (b : Bool) → length (cond b state (set state 0 1)) ≡ state_length
    go true = eight
    go false = length-set state 0 1 ∙ eight

pub ended_is : (state : List ℕ) → length state ≡ state_length → has_ended (ended state) ≡ true
ended_is state eight = ap (λ (p : Progress). p.ended) (ended_told state eight)

-- it does not change the answer
pub ended_answer : (state : List ℕ) → length state ≡ state_length → answer_of (progress_of (ended state)) ≡ answer_of (progress_of state)
unfolding answer_of
ended_answer state eight = ap answer_of (ended_told state eight)
