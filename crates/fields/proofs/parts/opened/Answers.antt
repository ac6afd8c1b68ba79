use mathlib.Core.Path.{sym, ◌∙◌}
use Rattle.fields.proofs.Cutting.{opened_next}
use Rattle.fields.proofs.parts.opened.Goals as goal

pub returns-in-len1-up : goal.returns-in-len1-up
returns-in-len1-up c = opened_next c.args.service c.args.mark c.args.rest.now c.kind_of.result c.in-len1-up.len_at_least c.kind_of.ensures (sym c.eq.ensures ∙ c.if-eq.true)
