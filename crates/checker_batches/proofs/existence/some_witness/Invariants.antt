use Rattle.std.proofs.Common.{take}
use Rattle.lookup_model.specs.Challenges.{table_of}
use Rattle.field.specs.laws.Extension.{of_laws}
use Rattle.lookup_model.specs.Batches.Instances.{instances_of}
use Rattle.lookup_model.specs.internal.Equations.{batch_equations}
use Rattle.checker_batches.specs.internal.Sums.{AreSums}
use Rattle.checker_batches.proofs.existence.some_witness.Given as goal

abbrev pub invariant-loop-air : goal.invariant-loop-air
invariant-loop-air g l =
    let E = of_laws g.met.EF.ExtensionField.lawful_fields in
    AreSums E.ring (batch_equations E (table_of l.challenges) (take l.air (instances_of l.instances))) l.sums
