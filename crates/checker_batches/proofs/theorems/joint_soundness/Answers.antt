use Rattle.field.specs.laws.Extension.{of_laws}
use Rattle.lookup_model.proofs.Counting.JointPairs.{few_accepted_pairs, jointly_sound}
use Rattle.checker_batches.proofs.theorems.joint_soundness.Goals as goal

pub returns-clause-pairs : goal.returns-clause-pairs
returns-clause-pairs g c = λ W m instances fitting ids lawful.
    let laws = g.met.EF.ExtensionField.lawful_fields in
    let E = of_laws laws in
    jointly_sound laws instances W (c.counted_soundness.ensures W m instances fitting ids lawful).bad_betas

pub returns-clause-counts : goal.returns-clause-counts
returns-clause-counts g c = λ W m instances fitting ids lawful.
    few_accepted_pairs (of_laws g.met.EF.ExtensionField.lawful_fields) instances W (c.counted_soundness.ensures W m instances fitting ids lawful).bad_betas
