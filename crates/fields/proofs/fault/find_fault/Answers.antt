use Prim.Native.Nat.{ℕ, ◌+◌, ◌<◌}
use native.Mathlib.Omega.{arith}
use mathlib.Core.Path.{ap}
use lib.ListN.{length}
use Rattle.guide.specs.meaning.Guide.{guide_of}
use Rattle.reading.specs.declared.bytes.Kind.TheVariants.{Element}
use Rattle.fields.proofs.Cutting.{next_shorter, tail_shorter}
use Rattle.fields.proofs.Stepping.{passing_begin, passing_on}
use Rattle.fields.proofs.fault.find_fault.Goals as goal

pub loop-rest-init : goal.loop-rest-init
loop-rest-init c =
    passing_begin c.args.service (guide_of c.args.book.now) c.args.message.now c.args.at c.args.line c.behind_tag.result.now c.skip_to_element-behind.result.now
    (record { start = c.first_field-first.result; end = c.first_field-first.result + c.field_count.result }) c.first_field-first.ensures.0
    (ap (λ (n : ℕ). c.first_field-first.result + n) c.field_count.ensures.0) c.behind_tag.ensures c.skip_to_element-behind.ensures

pub loop-rest-smaller : goal.loop-rest-smaller
loop-rest-smaller c =
    let n = next_shorter c.args.service Element c.loop-rest.behind.now c.in-Some.rest.now c.in-Some.ensures in
    let m = tail_shorter c.in-Some.rest.now c.in_ok-closed.closed.behind.now c.in_ok-closed.ensures.closes.0.tail in
    let less : length c.in_ok-closed.closed.behind.now < length c.loop-rest.behind.now = omega arith in
    less

pub loop-rest-preserved : goal.loop-rest-preserved
loop-rest-preserved c =
    passing_on c.args.service (guide_of c.args.book.now) c.args.message.now c.args.at c.args.line c.loop-rest.element c.loop-rest.behind.now c.loop-rest.left
    c.loop-rest.invariant c.in-Some.rest.now c.in-Some.ensures c.in_ok-closed.closed.left c.in_ok-closed.closed.behind.now c.in_ok-closed.ensures.value
    c.in_ok-closed.ensures.closes.0
