-- `breach::read_row` meets its contract. The invariant: the conditions that are left read as all of them do.
use Rattle.std.proofs.Common.{◌≡◌}
use Rattle.guide.specs.meaning.Guide.{guide_of}
use Rattle.guide.specs.meaning.View.{row_numbered}
use Rattle.rules.specs.method.Scanning.{read_row}
use Rattle.rules.proofs.Reading.{reading_from}
use Rattle.rules.proofs.breach.read_row.Given as goal

abbrev pub invariant-loop-next : goal.invariant-loop-next
invariant-loop-next l =
    reading_from l.any l.conditions l.guess ((guide_of l.book).condition l.row) l.next 3
    ≡ read_row l.conditions l.guess (row_numbered (guide_of l.book) l.row)
