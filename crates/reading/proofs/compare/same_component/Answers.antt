-- `compare::same_component` meets its contract: `==` of two slices goes through them as the definition does.
use mathlib.Core.Path.{◌∙◌}
use Rattle.reading.proofs.Comparing.{compared}
use Rattle.reading.proofs.compare.same_component.Goals as goal

pub returns : goal.returns
returns c = c.eq.ensures ∙ compared _ _
