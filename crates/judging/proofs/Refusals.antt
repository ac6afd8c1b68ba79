-- The refusals: each return of the code is its case of the definition.
use Prim.Native.Nat.{ℕ}
use native.Mathlib.Omega.{arith}
use mathlib.Core.Path.{◌≡◌, refl, sym, ap, ◌∙◌}
use mathlib.Core.List.{List}
use mathlib.Core.Bool.{Bool, true, false, cond, ◌&&◌}
use lib.Dec.{eqb}
use lib.ListN.{length}
use borrow.Author.Tests.{ne_eqb}
use Rattle.guide.specs.meaning.Guide.{guide_of}
use Rattle.book.specs.meaning.GoodBook.{Judged}
use Rattle.book.specs.method.Each.{is_good}
use Rattle.book.proofs.Tested.{good_exactly}
use Rattle.reading.specs.declared.service.Service.{Service}
use Rattle.framing.specs.meaning.Record.{answer}
use Rattle.framing.specs.method.Refusals as message
use Rattle.framing.specs.declared.refusal.Refusal as of_message
use Rattle.framing.proofs.Passing.{fault}
use Rattle.framing.proofs.Passing as passing
use Rattle.judging.specs.method.Refusals.{verdict_of}
use Rattle.judging.specs.declared.refusing.Refusal.{Refusal}
use Rattle.judging.specs.declared.refusing.Refusal.TheVariants.{Book, Conditions, Message, Placing}
use Rattle.framing.specs.method.Stages.{or_else, message_stage}
use Rattle.judging.specs.method.Table.{book_stage, conditions_stage, placing_stage, refusal}
use Rattle.judging.specs.method.Answers.{placing_verdict}
use Rattle.guide.specs.meaning.Plan.{plan_in}
use Rattle.placing.specs.method.Passes.{homes_from, tested}
use Rattle.std.specs.Prelude.{Ok, Err}
use Rattle.placing.specs.declared.passes.Unplaced.{Unplaced}
use Rattle.placing.specs.declared.passes.Unplaced.TheVariants.{NoHome, Stops}
use Rattle.rules.specs.method.Conditions.{are_truth_values}
use Rattle.framing.specs.declared.message.Room.{Room}
use Rattle.framing.specs.declared.verdict.Verdict.{Verdict}

-- ---- number 1

module _ (book : List ℕ) where
  pub book_bad : Judged book 1 → answer 1 0 ≡ book_stage book
  book_bad j = go (is_good book) refl
    where
      go : (v : Bool) → is_good book ≡ v → answer 1 0 ≡ cond v (answer 0 0) (answer 1 0)
      go true e = absurd (fault {n = 1} (omega arith) (j.good ((good_exactly book).0 e)))
      go false e = refl

  pub book_good : Judged book 0 → answer 0 0 ≡ book_stage book
  book_good j = ap (λ (v : Bool). cond v (answer 0 0) (answer 1 0)) (sym ((good_exactly book).1 (j.accepted refl)))

-- ---- numbers 10 and 11

-- what refuses the placing is the stage's verdict
pub unplaced : (n : ℕ) (u : Unplaced) → verdict_of (Placing u) ≡ placing_verdict n (Err u)
unplaced n (NoHome k) = refl
unplaced n (Stops k) = refl

-- ---- in their order

module _ (s : Service) (bs book cs : List ℕ) (room : Room) where
  abbrev placed_after : Verdict → Verdict
  placed_after v = placing_stage s bs book v.place.at

  abbrev from_message : Verdict
  from_message = or_else (message_stage s bs room) (placed_after (message_stage s bs room))

  abbrev from_conditions : Verdict
  from_conditions = or_else (conditions_stage (guide_of book) cs) from_message

  pub refusal_is : refusal s bs book cs room ≡ or_else (book_stage book) from_conditions
  unfolding refusal
  refusal_is = refl

  pub refused_book : answer 1 0 ≡ book_stage book → answer 1 0 ≡ refusal s bs book cs room
  refused_book e = ap (λ (v : Verdict). or_else v from_conditions) e ∙ sym refusal_is

  module _ (e : answer 0 0 ≡ book_stage book) (known : Bool) (k : known ≡ eqb (length cs) (guide_of book).conditions && are_truth_values cs) where
    behind_book : or_else (cond known (answer 0 0) (answer 2 0)) from_message ≡ refusal s bs book cs room
    behind_book =
        ap (λ (x : Bool). or_else (cond x (answer 0 0) (answer 2 0)) from_message) k
        ∙ ap (λ (v : Verdict). or_else v from_conditions) e ∙ sym refusal_is

    pub refused_conditions : known ≡ false → answer 2 0 ≡ refusal s bs book cs room
    refused_conditions f = ap (λ (x : Bool). or_else (cond x (answer 0 0) (answer 2 0)) from_message) (sym f) ∙ behind_book

    module _ (t : known ≡ true) where
      behind_conditions : from_message ≡ refusal s bs book cs room
      behind_conditions = ap (λ (x : Bool). or_else (cond x (answer 0 0) (answer 2 0)) from_message) (sym t) ∙ behind_book

      pub refused_message : (r : of_message.Refusal) → message.verdict_of r ≡ message_stage s bs room → message.verdict_of r ≡ refusal s bs book cs room
      refused_message r g =
          sym (rw (ne_eqb (message.verdict_of r).number 0 (passing.refused r)))
          ∙ ap (λ (v : Verdict). or_else v (placed_after v)) g ∙ behind_conditions

      module _ (n : ℕ) (g : answer 0 n ≡ message_stage s bs room) where
        behind_message : placing_stage s bs book n ≡ refusal s bs book cs room
        behind_message = ap (λ (x : Verdict). or_else x (placed_after x)) g ∙ behind_conditions

        pub refused_placing : (u : Unplaced) → Err u ≡ tested (plan_in book) (homes_from s bs book n 0) → verdict_of (Placing u) ≡ refusal s bs book cs room
        refused_placing u t = unplaced n u ∙ ap (placing_verdict n) t ∙ behind_message

        pub passed_all : Ok tt ≡ tested (plan_in book) (homes_from s bs book n 0) → answer 0 n ≡ refusal s bs book cs room
        passed_all t = ap (placing_verdict n) t ∙ behind_message

-- ---- none of them is number 0

pub refused : (r : Refusal) → (verdict_of r).number ≡ 0 → ⊥
refused Book e = fault {n = 1} (omega arith) e
refused Conditions e = fault {n = 2} (omega arith) e
refused (Message r) e = passing.refused r e
refused (Placing (NoHome k)) e = fault {n = 10} (omega arith) e
refused (Placing (Stops k)) e = fault {n = 11} (omega arith) e
