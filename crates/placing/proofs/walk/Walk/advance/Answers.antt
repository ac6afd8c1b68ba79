-- `Walk::advance` meets its contract: refused where the home cannot be placed or its line is not admitted, else moved.
use Prim.Native.Nat.{ℕ, ◌<◌}
use native.Mathlib.Omega.{arith}
use mathlib.Core.Path.{sym, ap, ◌∙◌}
use mathlib.Core.List.{List, [], ◌∷◌, ◌++◌, append-nil}
use lib.ListN.{length, get_or}
use Rattle.guide.specs.meaning.Plan.{plan_in}
use Rattle.guide.proofs.WideNumbers.{maximum_small}
use Rattle.placing.specs.declared.walk.Level.{Level}
use Rattle.placing.specs.method.Walking.{level, open_lines}
use Rattle.placing.proofs.Steps.{admits_open, admits_room, advance_yes}
use Rattle.placing.proofs.walk.Walk.advance.Goals as goal

pub bounds-deref-depth : goal.bounds-deref-depth
bounds-deref-depth c =
    let there : c.depth_of-depth.result < length (open_lines c.args.self.now) =
    admits_open (plan_in c.args.book.now) (open_lines c.args.self.now) c.target_of-to.result c.depth_of-depth.result c.depth_of-depth.ensures.value (sym c.admits.ensures ∙ c.if-not-admits.false) in
    omega (arith, ap length c.deref.ensures.0)

pub raise-level-requires : goal.raise-level-requires
raise-level-requires c =
    λ e. omega (
      arith,
      admits_room (plan_in c.args.book.now) (open_lines c.args.self.now) c.target_of-to.result c.depth_of-depth.result c.depth_of-depth.ensures.value _ (ap (λ (ys : List Level). get_or ys c.depth_of-depth.result (level 0 0)) c.deref.ensures.0)
          (sym c.admits.ensures ∙ c.if-not-admits.false) e,
      maximum_small c.args.book.now (λ (k : ℕ). omega (arith, c.type_inv.book k)) c.target_of-to.result,
    )

pub returns-then-opens : goal.returns-then-opens
returns-then-opens c =
    advance_yes (plan_in c.args.book.now) c.args.home _ _ _ _ c.requires c.target_of-to.ensures.value c.depth_of-depth.ensures.value c.is_trigger-opens.ensures c.depths_for.ensures (open_lines c.args.self.now) _ _ _ c.if-depths_for-depth.false
    (sym c.admits.ensures ∙ c.if-not-admits.false) c.deref.ensures.0 c.raise-level.ensures
    (c.push-then-opens.ensures.items ∙ ap (λ (ys : List Level). ys ++ (level c.args.home 1 ∷ [])) (c.push.ensures.items ∙ ap (λ (ys : List Level). ys ++ (c.raise-level.result ∷ [])) c.truncate.ensures.items)
    ∙ sym (simp c.if-opens.true))

pub returns-else-opens : goal.returns-else-opens
returns-else-opens c =
    advance_yes (plan_in c.args.book.now) c.args.home _ _ _ _ c.requires c.target_of-to.ensures.value c.depth_of-depth.ensures.value c.is_trigger-opens.ensures c.depths_for.ensures (open_lines c.args.self.now) _ _ _ c.if-depths_for-depth.false
    (sym c.admits.ensures ∙ c.if-not-admits.false) c.deref.ensures.0 c.raise-level.ensures
    (c.push.ensures.items ∙ ap (λ (ys : List Level). ys ++ (c.raise-level.result ∷ [])) c.truncate.ensures.items ∙ sym (simp (c.if-opens.false, append-nil)))
