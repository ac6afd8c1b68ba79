-- `lookup::seek_from` meets its contract: each byte of each kind is a turn of `Seeking`.
use native.Mathlib.Omega.{arith}
use Rattle.reading.proofs.Seeking.{seek_released, seek_component, seek_element, seek_release, seek_plain, seek_other, seek_text}
use Rattle.reading.proofs.lookup.seek_from.Goals.{then-released, else-released+then-must_release+in-Component+else-is_here, else-released+then-must_release+in-Element+else-is_here-2, else-released+then-must_release+in-Plain, else-released+then-must_release+in-Release, else-released+else-must_release}
use Rattle.reading.proofs.lookup.seek_from.Goals as goal

pub loop-at-preserved : goal.loop-at-preserved
loop-at-preserved c =
    elim c.if-released.branch [
      | then-released w ↦ grind (arith, seek_released)
      | else-released+then-must_release+in-Component+else-is_here w ↦ grind (arith, seek_component)
      | else-released+then-must_release+in-Element+else-is_here-2 w ↦ grind (arith, seek_element)
      | else-released+then-must_release+in-Release w ↦ grind (arith, seek_release)
      | else-released+then-must_release+in-Plain w ↦ grind (arith, seek_plain, seek_other)
      | else-released+else-must_release w ↦ grind (arith, seek_text)
    ]
