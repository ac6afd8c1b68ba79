-- `counts::put_count` meets its contract.
use native.Mathlib.Omega.{arith}
use Rattle.tally.proofs.Stores.{four_stored}
use Rattle.tally.proofs.counts.put_count.Goals as goal

pub returns : goal.returns
returns c =
    rw (c.copy_from_slice.ensures.after, c.to_le_bytes.ensures, c.count_place-at.ensures)
    (four_stored _ _ _ _ c.args.tally.now _ _ (omega arith) c.requires)
