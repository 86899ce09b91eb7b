use Rattle.std.proofs.Common.{subst, sym}
use Rattle.std.proofs.lemmas.List.Elements.{recursion_from_All}
use Rattle.field.specs.Characteristic.{HasCharacteristic}
use Rattle.field.specs.laws.Extension.{of_laws}
use Rattle.lookup_model.specs.Batches.Instances.{IsFitting}
use Rattle.lookup_model.proofs.Counting.Soundness.{few_bad_alphas, linearly_sound}
use Rattle.lookup_model.proofs.Counting.JointPairs.{linearly_few_accepted_pairs, linearly_jointly_sound}
use Rattle.checker_batches.proofs.theorems.linear_soundness.Goals as goal

pub returns-clause-betas : goal.returns-clause-betas
returns-clause-betas g c = λ W m instances fitting ids lawful.
    let laws = g.met.EF.ExtensionField.lawful_fields in
    let char = subst (HasCharacteristic (of_laws laws).ring) (sym g.met.EF.ExtensionDomain.same_characteristic) g.met.EF.PrimeCharacteristicRing.characteristic in
    linearly_sound laws W m g.F.PrimeCharacteristicRing.CHARACTERISTIC char instances (recursion_from_All IsFitting instances fitting) ids lawful

pub returns-clause-pairs : goal.returns-clause-pairs
returns-clause-pairs g c = λ W m instances fitting ids lawful.
    linearly_jointly_sound g.met.EF.ExtensionField.lawful_fields instances W (returns-clause-betas g c W m instances fitting ids lawful).bad_betas

pub returns-clause-counts : goal.returns-clause-counts
returns-clause-counts g c = λ W m instances fitting ids lawful.
    linearly_few_accepted_pairs (of_laws g.met.EF.ExtensionField.lawful_fields) instances W (returns-clause-betas g c W m instances fitting ids lawful).bad_betas

pub returns-clause-alphas : goal.returns-clause-alphas
returns-clause-alphas g c = λ W m instances fitting ids lawful below.
    let laws = g.met.EF.ExtensionField.lawful_fields in
    let char = subst (HasCharacteristic (of_laws laws).ring) (sym g.met.EF.ExtensionDomain.same_characteristic) g.met.EF.PrimeCharacteristicRing.characteristic in
    few_bad_alphas laws W m g.F.PrimeCharacteristicRing.CHARACTERISTIC char instances (recursion_from_All IsFitting instances fitting) ids lawful below
