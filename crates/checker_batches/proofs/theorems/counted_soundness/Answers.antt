use Rattle.std.proofs.Common.{subst, sym}
use Rattle.std.proofs.lemmas.List.Elements.{recursion_from_All}
use Rattle.field.specs.Characteristic.{HasCharacteristic}
use Rattle.field.specs.laws.Extension.{of_laws}
use Rattle.lookup_model.specs.Batches.Instances.{IsFitting}
use Rattle.lookup_model.proofs.Counting.Soundness.{counted_sound}
use Rattle.checker_batches.proofs.theorems.counted_soundness.Goals as goal

pub returns : goal.returns
returns g c = λ W m instances fitting ids lawful.
    let laws = g.met.EF.ExtensionField.lawful_fields in
    let E = of_laws laws in
    let char : HasCharacteristic E.ring g.F.PrimeCharacteristicRing.CHARACTERISTIC =
    subst (HasCharacteristic E.ring) (sym g.met.EF.ExtensionDomain.same_characteristic) g.met.EF.PrimeCharacteristicRing.characteristic in
    counted_sound laws W m g.F.PrimeCharacteristicRing.CHARACTERISTIC char instances (recursion_from_All IsFitting instances fitting) ids lawful
