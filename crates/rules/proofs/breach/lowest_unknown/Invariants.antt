-- `breach::lowest_unknown` meets its contract. The invariant: the lowest of the conditions that are left is the lowest of all.
use Rattle.std.proofs.Common.{◌≡◌}
use Rattle.guide.specs.meaning.Guide.{guide_of}
use Rattle.guide.specs.meaning.View.{row_numbered}
use Rattle.rules.specs.meaning.Rows.{conditions_of}
use Rattle.rules.specs.method.Scanning.{first_unknown}
use Rattle.rules.proofs.Reading.{lowest_from}
use Rattle.rules.proofs.breach.lowest_unknown.Given as goal

abbrev pub invariant-loop-next : goal.invariant-loop-next
invariant-loop-next l =
    lowest_from l.conditions ((guide_of l.book).condition l.row) l.next 3
    ≡ first_unknown l.conditions (conditions_of (row_numbered (guide_of l.book) l.row))
