use Prim.Native.Nat.{◌<◌}
use native.Mathlib.Omega.{arith}
use lib.ListN.{length}
use Rattle.reading.specs.declared.bytes.Kind.TheVariants.{Component}
use Rattle.fields.proofs.Cutting.{behind_shorter, next_shorter}
use Rattle.fields.proofs.parts.skip_to_element.Goals as goal

pub loop-next-smaller : goal.loop-next-smaller
loop-next-smaller c =
    let n = next_shorter c.args.service Component c.loop-next.behind.now c.in-Some.next.now c.in-Some.ensures in
    let m = behind_shorter c.args.service c.in-Some.next.now c.split_component-in-Some.result.0.now c.split_component-in-Some.result.1.now c.split_component-in-Some.ensures in
    let less : length c.split_component-in-Some.result.1.now < length c.loop-next.behind.now = omega arith in
    less
