use Rattle.std.proofs.Common.{List, subst, ◌∙◌}
use Rattle.field.specs.laws.Extension.{of_laws}
use Rattle.lookup_model.specs.Batches.Instances.{instance_of}
use Rattle.checker_witness.specs.Columns.{ChecksColumns}
use Rattle.checker_witness.proofs.witness.check_result.Goals as goal

pub returns : goal.returns
returns g c =
    let E = of_laws g.met.EF.ExtensionField.lawful_fields in
    let i = instance_of c.args.instance.now in
    subst (λ (challenges : List _). ChecksColumns E i.traces i.lookups challenges (c.args.aux.now, c.args.terminal.now) c.args.air c.check_in_columns.result) (c.deref.ensures.value ∙ c.in_ok-columns.ensures.challenges) c.check_in_columns.ensures
