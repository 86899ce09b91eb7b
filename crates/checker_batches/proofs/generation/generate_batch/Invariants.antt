use Rattle.field.specs.laws.Extension.{of_laws}
use Rattle.lookup_model.specs.Batches.Instances.{instances_of}
use Rattle.checker_batches.specs.internal.Results.{HasResults}
use Rattle.lookup_model.specs.Challenges.{table_of}
use Rattle.checker_batches.proofs.generation.generate_batch.Given as goal

abbrev pub invariant-loop-air : goal.invariant-loop-air
invariant-loop-air g l =
    HasResults (of_laws g.met.EF.ExtensionField.lawful_fields) (table_of l.challenges) (instances_of l.instances) l.air l.aux.items l.terminals.items
