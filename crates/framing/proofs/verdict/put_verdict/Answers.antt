-- `verdict::put_verdict` meets its contract: a copy into the front of a table is as many numbers as fit.
use Rattle.slices.proofs.Fitting.{front_fits}
use Rattle.framing.specs.meaning.Record.{numbers_of}
use Rattle.framing.proofs.verdict.put_verdict.Goals as goal

pub returns : goal.returns
returns c =
    rw (c.copy_from_slice.ensures.after, c.from-entries.ensures)
    (front_fits (numbers_of c.args.verdict) c.args.numbers.now c.min-fitting.result c.min-fitting.ensures)
