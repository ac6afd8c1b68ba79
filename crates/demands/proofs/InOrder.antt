-- "It stops at the first fault in this order": the verdict as one nest of tests, in the order of the table.
use Prim.Native.Nat.{ℕ}
use mathlib.Core.Path.{◌≡◌, refl, ap, ◌∙◌}
use mathlib.Core.List.{List}
use mathlib.Core.Bool.{Bool, cond, ◌&&◌}
use lib.Dec.{eqb}
use lib.ListN.{length}
use Rattle.guide.specs.meaning.Guide.{guide_of}
use Rattle.reading.specs.declared.service.Service.{Service}
use Rattle.guide.specs.meaning.Plan.{plan_in}
use Rattle.placing.specs.method.Passes.{homes_from, tested}
use Rattle.std.specs.Prelude.{⊤, Result, Ok, Err}
use Rattle.placing.specs.declared.passes.Unplaced.{Unplaced}
use Rattle.framing.specs.meaning.Record.{answer}
use Rattle.framing.specs.method.Stages.{message_stage}
use Rattle.rules.specs.method.Conditions.{are_truth_values}
use Rattle.book.specs.method.Each.{is_good}
use Rattle.judging.specs.method.Table.{book_stage, conditions_stage, placing_stage, refusal, placed_stage, judged}
use Rattle.judging.specs.method.Answers.{placing_verdict}
use Rattle.framing.specs.declared.message.Room.{Room}
use Rattle.framing.specs.declared.verdict.Verdict.{Verdict}
use Rattle.framing_laws.proofs.InStages.{then, then_then, then_good}

module _ (s : Service) (bs book cs : List ℕ) (room : Room) where
  abbrev pub homes : ℕ → List ℕ
  homes n = homes_from s bs book n 0

  -- ---- what is answered behind number 9

  abbrev placed : Verdict → Verdict
  placed r = placed_stage s bs book cs r.place.at

  abbrev pub of_placing : ℕ → Result ⊤ Unplaced → Verdict
  of_placing n p = then (placing_verdict n p) placed

  abbrev pub of_homes : ℕ → Verdict
  of_homes n = of_placing n (tested (plan_in book) (homes n))

  -- ---- stage by stage

  abbrev fit : Bool
  fit = eqb (length cs) (guide_of book).conditions && are_truth_values cs

  abbrev pub of_message : Verdict
  of_message = then (message_stage s bs room) (λ m. of_homes m.place.at)

  abbrev pub of_conditions : Verdict
  of_conditions = cond fit of_message (answer 2 0)

  abbrev placing : Verdict → Verdict
  placing m = placing_stage s bs book m.place.at

  -- the law
  pub in_order : judged s bs book cs room ≡ cond (is_good book) of_conditions (answer 1 0)
  unfolding judged refusal
  in_order =
      then_then (book_stage book) (λ _. then (conditions_stage (guide_of book) cs) (λ _. then (message_stage s bs room) placing)) placed
      ∙ then_good (is_good book) (answer 1 0) (answer 0 0) (λ _. then (then (conditions_stage (guide_of book) cs) (λ _. then (message_stage s bs room) placing)) placed) refl refl
      ∙ ap (λ (z : Verdict). cond (is_good book) z (answer 1 0))
      (then_then (conditions_stage (guide_of book) cs) (λ _. then (message_stage s bs room) placing) placed
      ∙ then_good fit (answer 2 0) (answer 0 0) (λ _. then (then (message_stage s bs room) placing) placed) refl refl
      ∙ ap (λ (z : Verdict). cond fit z (answer 2 0)) (then_then (message_stage s bs room) placing placed))
