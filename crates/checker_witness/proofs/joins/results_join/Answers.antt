use Rattle.field.specs.laws.Extension.{of_laws}
use Rattle.checker_witness.proofs.WitnessLaws.{results_join_of}
use Rattle.checker_witness.proofs.joins.results_join.Goals as goal

pub returns : goal.returns
returns g c = λ table instances witness.
    results_join_of (of_laws g.met.EF.ExtensionField.lawful_fields) table instances witness g.met.EF.ExtensionField.lawful_fields
