use Rattle.std.proofs.Common.{◌∙◌, map}
use Rattle.std.proofs.lemmas.List.Elements.{recursion_from_All}
use Rattle.lookup_model.specs.Batches.Instances.{IsFitting}
use Rattle.checker_batches.proofs.PackedBatches.{kept_counts, kept_terminals}
use Rattle.checker_batches.proofs.RenamedBatches.{renamed_counts}
use Rattle.checker_batches.specs.Renamed.{renamed_instance}
use Rattle.checker_batches.proofs.theorems.packing_keeps_batch.Goals as goal

pub returns-clause-counts : goal.returns-clause-counts
returns-clause-counts g c = λ before after packed. kept_counts g.met.EF.ExtensionField.lawful_fields before after packed

pub returns-clause-renumbered : goal.returns-clause-renumbered
returns-clause-renumbered g c = λ rename apart before after fitting packed.
    let laws = g.met.EF.ExtensionField.lawful_fields in
    let under_names = renamed_counts laws rename apart before (recursion_from_All IsFitting before fitting) in
    let as_packed = kept_counts laws (map (renamed_instance rename) before) after packed in
    record { messages = as_packed.messages ∙ under_names.messages; unbalanced = as_packed.unbalanced ∙ under_names.unbalanced }

pub returns-clause-terminals : goal.returns-clause-terminals
returns-clause-terminals g c = λ before after fitting fitting_after packed.
    kept_terminals g.met.EF.ExtensionField.lawful_fields before after (recursion_from_All IsFitting before fitting) (recursion_from_All IsFitting after fitting_after) packed
