use Rattle.check_report.specs.Told.{enforced_line, verdict_line}
use Rattle.check_report.proofs.VerdictLaws.{lines_told}
use Rattle.check_report.proofs.sections.push_report.Goals as goal

pub returns : goal.returns
returns g c =
    lines_told c.push_enforced_line.result c.push_constraints.new.page.bytes.items c.push_verdict.new.page.bytes.items c.push_enforced_line.new.page.bytes.items
    (verdict_line c.args.report.now.balanced c.args.report.now.hold c.args.report.now.within) (enforced_line c.args.told.enforced c.args.report.now.enforced.all)
    c.in_ok-push_verdict.ensures c.push_enforced_line.ensures
