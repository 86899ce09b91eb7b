use Rattle.std.proofs.Common.{List, IfOk, subst, ◌∙◌}
use Rattle.field.specs.laws.Extension.{of_laws}
use Rattle.lookup_model.specs.Batches.Instances.{instance_of}
use Rattle.checker_witness.specs.Columns.{ColumnsHoldUntil}
use Rattle.checker_witness.proofs.rows.rows_hold_until.Goals as goal

pub returns-clause-holds : goal.returns-clause-holds
returns-clause-holds g c =
    let E = of_laws g.met.EF.ExtensionField.lawful_fields in
    let i = instance_of c.args.instance.now in
    subst (λ (challenges : List _). IfOk c.columns_hold_until.result (ColumnsHoldUntil E i.traces i.lookups challenges (c.args.aux.now, c.args.terminal.now) c.args.first c.args.end))
    (c.deref.ensures.value ∙ c.in_ok-columns.ensures.challenges) c.columns_hold_until.ensures.holds
