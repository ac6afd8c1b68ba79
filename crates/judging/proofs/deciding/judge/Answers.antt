-- `deciding::judge` meets its contract: a refusal leaves the tables alone, and after it nothing is refused.
use mathlib.Core.Path.{refl, sym, ap, ◌∙◌}
use Rattle.framing.specs.declared.verdict.Verdict.{Verdict}
use Rattle.judging.specs.meaning.Tables.{tables}
use Rattle.judging.proofs.Refusals.{refused}
use Rattle.judging.proofs.Decided.{decided_refused, decided_placed, within}
use Rattle.judging.proofs.deciding.judge.Goals as goal

pub returns-in-Err : goal.returns-in-Err
returns-in-Err c =
    decided_refused _ _ _ _ (tables c.args.starts.now c.args.homes.now c.args.parents.now) _ (c.into.ensures ∙ c.in-Err.ensures)
    (λ z. refused c.in-Err.refusal (ap (λ (v : Verdict). v.number) (sym c.into.ensures) ∙ z))

pub find_fault-requires : goal.find_fault-requires
find_fault-requires c = within _ _ _ _ (tables c.args.starts.now c.args.homes.now c.args.parents.now) _ c.in-Ok.ensures refl

pub returns-in-Ok-find_fault : goal.returns-in-Ok-find_fault
returns-in-Ok-find_fault c =
    decided_placed _ _ _ _ (tables c.args.starts.now c.args.homes.now c.args.parents.now) _ c.in-Ok.ensures refl _ _ _
    c.write_tree.ensures.starts c.write_tree.ensures.homes c.write_tree.ensures.parents _ (c.answer.ensures ∙ c.in-Ok-find_fault.ensures)

pub returns-in-Err-find_fault : goal.returns-in-Err-find_fault
returns-in-Err-find_fault c =
    decided_placed _ _ _ _ (tables c.args.starts.now c.args.homes.now c.args.parents.now) _ c.in-Ok.ensures refl _ _ _
    c.write_tree.ensures.starts c.write_tree.ensures.homes c.write_tree.ensures.parents _ (c.into-in-Err-find_fault.ensures ∙ c.in-Err-find_fault.ensures)
