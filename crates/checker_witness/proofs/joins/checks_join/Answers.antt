use Rattle.field.specs.laws.Extension.{of_laws}
use Rattle.checker_witness.proofs.CheckLaws.{checks_join_of}
use Rattle.checker_witness.proofs.joins.checks_join.Goals as goal

pub returns : goal.returns
returns g c = λ table i result. checks_join_of (of_laws g.met.EF.ExtensionField.lawful_fields) table i g.met.EF.ExtensionField.lawful_fields result
