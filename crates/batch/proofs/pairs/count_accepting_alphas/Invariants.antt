use Rattle.std.proofs.Common.{take}
use Rattle.field.specs.laws.Extension.{of_laws}
use Rattle.lookup_model.specs.Batches.Counts.{IsAccepting}
use Rattle.lookup_model.specs.Batches.Instances.{instances_of}
use Rattle.lookup_model.specs.Batches.Grid.{IsNumberOf}
use Rattle.batch.proofs.pairs.count_accepting_alphas.Given as goal

abbrev pub invariant-loop-index : goal.invariant-loop-index
invariant-loop-index g l =
    IsNumberOf (IsAccepting (of_laws g.met.EF.ExtensionField.lawful_fields) (instances_of l.instances) l.max_message_width l.beta) (take l.index l.alphas) l.accepting
