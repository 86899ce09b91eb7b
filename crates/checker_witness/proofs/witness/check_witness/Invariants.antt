use Rattle.std.specs.List.{zip}
use Rattle.list_laws.proofs.Zips.{BothHoldBelow}
use Rattle.lookup_model.specs.Challenges.{table_of}
use Rattle.field.specs.laws.Extension.{of_laws}
use Rattle.lookup_model.specs.Batches.Instances.{instances_of}
use Rattle.lookup_model.specs.Batches.Witnesses.{IsSatisfiedAt}
use Rattle.checker_witness.proofs.witness.check_witness.Given as goal

abbrev pub invariant-loop-air : goal.invariant-loop-air
invariant-loop-air g l =
    BothHoldBelow (IsSatisfiedAt (of_laws g.met.EF.ExtensionField.lawful_fields) (table_of l.challenges)) (instances_of l.instances) (zip l.aux l.terminals) l.air
