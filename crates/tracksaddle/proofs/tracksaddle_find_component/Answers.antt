-- `tracksaddle_find_component` meets its contract: two numbers put one after the other are as many of the two as fit.
use Prim.Native.Nat.{◌≤◌}
use native.Mathlib.Omega.{arith}
use mathlib.Core.Path.{refl, ap, ◌∙◌}
use Rattle.reading.specs.method.Machine.{component_span}
use Rattle.reading.specs.declared.service.Service.{Service}
use Rattle.reading.specs.declared.span.Span.{Span}
use Rattle.reading.proofs.Seeking.{span_inside}
use Rattle.slices.specs.meaning.Lent.{as_many_as_fit}
use Rattle.slices.proofs.Fitting.{puts_fit}
use Rattle.tracksaddle.specs.meaning.Door.{part_numbers}
use Rattle.tracksaddle.proofs.tracksaddle_find_component.Goals as goal

pub overflow_sub-span : goal.overflow_sub-span
overflow_sub-span c =
    let ordered : c.component_span-span.result.start ≤ c.component_span-span.result.end =
    rw c.component_span-span.ensures (span_inside c.standard.result c.args.message.now c.args.at c.args.element c.args.component).ordered in
    omega arith

pub returns : goal.returns
returns c =
    puts_fit (part_numbers c.component_span-span.result) c.args.part.now _ (_, c.put.ensures, (_, c.put-2.ensures, refl))
    ∙ ap (λ (x : Span). as_many_as_fit (part_numbers x) c.args.part.now)
    (c.component_span-span.ensures ∙ ap (λ (s : Service). component_span s c.args.message.now c.args.at c.args.element c.args.component) c.standard.ensures)
