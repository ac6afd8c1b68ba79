-- `Watch::scan` meets its contract: what an instance reports is what is found.
use Rattle.std.proofs.Common.{rules, ◌≡◌, Err, sym, ◌∙◌}
use Rattle.rules.proofs.Passing.{pass_stops}
use Rattle.rules.proofs.watch.Watch.scan.Goals as goal

pub returns-in_err-report : goal.returns-in_err-report
returns-in_err-report c =
    let q : c.from_residual.result ≡ Err c.in_err-report.field-0.0 = search rules in
    q ∙ pass_stops c.args.self c.args.line c.args.homes.now c.loop-at.instance c.loop-at.seen c.loop-at.at c.loop-at.invariant c.in_err-report.field-0.0
    c.loop-at-test.true c.if-home-self.true (sym c.in_err-report.was ∙ c.report.ensures)
