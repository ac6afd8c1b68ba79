-- What holds of these service characters, which are the standard ones.
use Prim.Native.Nat.{ℕ}
use mathlib.Core.Path.{◌≡◌, sym, ap, ◌∙◌}
use mathlib.Core.List.{List}
use Rattle.reading.specs.meaning.Service.{standard}
use Rattle.reading.specs.declared.service.Service.{Service}
use Rattle.guide.specs.meaning.Plan.{plan_in}
use Rattle.judging.specs.method.Answers.{placing_verdict}
use Rattle.reading.specs.method.Starts.{starts_table}
use Rattle.placing.specs.method.Passes.{homes_from, tested, homes_table, parents_table}
use Rattle.std.specs.Prelude.{⊤, Result}
use Rattle.placing.specs.declared.passes.Unplaced.{Unplaced}
use Rattle.probe.specs.Probe.{packed}

module _ (bs book : List ℕ) (n : ℕ) (s : Service) (known : s ≡ standard) where
  -- an outcome, once it is known, as one number
  pub placed : (r p : Result ⊤ Unplaced) → r ≡ p → r ≡ tested (plan_in book) (homes_from s bs book n 0)
      → packed (placing_verdict n p) ≡ packed (placing_verdict n (tested (plan_in book) (homes_from standard bs book n 0)))
  placed r p h e = ap (λ (x : Result ⊤ Unplaced). packed (placing_verdict n x)) (sym h ∙ e ∙ ap (λ (x : Service). tested (plan_in book) (homes_from x bs book n 0)) known)

  pub tables : (starts homes parents starts₁ homes₁ parents₁ : List ℕ)
      → (starts₁ ≡ starts_table s bs n starts) × (homes₁ ≡ homes_table s bs book n homes) × (parents₁ ≡ parents_table s bs book n parents)
      → (starts₁ ≡ starts_table standard bs n starts) × (homes₁ ≡ homes_table standard bs book n homes) × (parents₁ ≡ parents_table standard bs book n parents)
  tables starts homes parents starts₁ homes₁ parents₁ e = (
    e.0 ∙ ap (λ (x : Service). starts_table x bs n starts) known,
    e.1 ∙ ap (λ (x : Service). homes_table x bs book n homes) known,
    e.2 ∙ ap (λ (x : Service). parents_table x bs book n parents) known,
  )
