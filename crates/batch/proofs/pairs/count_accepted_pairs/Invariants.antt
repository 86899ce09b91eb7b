use Rattle.std.proofs.Common.{◌*◌, ◌^◌, ◌≤◌, take}
use Rattle.field.specs.laws.Extension.{of_laws}
use Rattle.lookup_model.specs.Batches.Instances.{instances_of}
use Rattle.lookup_model.specs.Batches.Grid.{AcceptsPair, IsNumberOf, grid}
use Rattle.batch.proofs.pairs.count_accepted_pairs.Given as goal

abbrev pub invariant-loop-index : goal.invariant-loop-index
invariant-loop-index g l =
    (l.accepted ≤ l.index * 2 ^ 64) × IsNumberOf (AcceptsPair (of_laws g.met.EF.ExtensionField.lawful_fields) (instances_of l.instances) l.max_message_width) (grid l.alphas (take l.index l.betas)) l.accepted
