-- `first_row` meets its contract. The invariant: nothing has been found, so what is found from this line on is what is found in all.
use Rattle.std.proofs.Common.{◌≡◌, take}
use Rattle.guide.specs.meaning.Guide.{guide_of}
use Rattle.rules.specs.method.Scanning.{scanned_row}
use Rattle.rules.proofs.Passing.{rows_from}
use Rattle.rules.proofs.first_row.first_row.Given as goal

abbrev pub invariant-loop-line : goal.invariant-loop-line
invariant-loop-line l =
    rows_from (guide_of l.book) l.identifier l.conditions l.counted l.line
    ≡ scanned_row (guide_of l.book) l.identifier l.conditions (take l.segments l.homes)
