use Rattle.std.proofs.Common.{◌∙◌}
use Rattle.lookup_record.proofs.symbolic.InteractionSymbolicBuilder.constraint_layout.Goals as goal

pub returns-clause-base : goal.returns-clause-base
returns-clause-base g c =
    c.in_ok-from_slice.ensures.items ∙ c.as_slice.ensures.value ∙ c.constraint_layout-indices.ensures.base

pub returns-clause-extension : goal.returns-clause-extension
returns-clause-extension g c =
    c.in_ok-from_slice-2.ensures.items ∙ c.as_slice-2.ensures.value ∙ c.constraint_layout-indices.ensures.extension
