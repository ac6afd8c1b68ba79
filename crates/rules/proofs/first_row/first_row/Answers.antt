-- `first_row` meets its contract: what a line's pass finds is what is found, and behind the last line there is nothing.
use Rattle.std.proofs.Common.{rules, ◌≡◌, ◌+◌, Err, sym, ◌∙◌, take, arith}
use Rattle.guide.specs.meaning.Guide.{guide_of}
use Rattle.rules.proofs.Passing.{row_kept, row_broken, rows_end}
use Rattle.rules.proofs.first_row.first_row.Goals as goal

pub returns-in_err-scan : goal.returns-in_err-scan
returns-in_err-scan c =
    let q : c.from_residual.result ≡ Err c.in_err-scan.field-0.0 = search rules in
    q ∙ row_broken (guide_of c.args.book.now) c.args.identifier c.args.conditions.now (take c.min.result c.args.homes.now) c.loop-line.line c.of_line.result
    c.in_err-scan.field-0.0 (omega (arith, c.loop-line-test.true, c.lines-line-end.ensures.0)) c.of_line.ensures (sym c.in_err-scan.was ∙ c.scan.ensures)
    ∙ c.loop-line.invariant

pub returns-in_ok-scan : goal.returns-in_ok-scan
returns-in_ok-scan c =
    sym (rows_end (guide_of c.args.book.now) c.args.identifier c.args.conditions.now (take c.min.result c.args.homes.now) (c.loop-line.line + 1)
    (let q = c.lines-line-end.ensures.0 in omega arith))
    ∙ row_kept (guide_of c.args.book.now) c.args.identifier c.args.conditions.now (take c.min.result c.args.homes.now) c.loop-line.line c.of_line.result
    (omega (arith, c.loop-line-test.true, c.lines-line-end.ensures.0)) c.of_line.ensures (sym c.in_ok-scan.was ∙ c.scan.ensures)
    ∙ c.loop-line.invariant
