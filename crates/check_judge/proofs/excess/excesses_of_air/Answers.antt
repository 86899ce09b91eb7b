use Rattle.std.proofs.Common.{◌≡◌, IfOk, map, subst}
use Rattle.std.specs.Option.{option_copied}
use Rattle.air.specs.Traces.{air_traces}
use Rattle.check_judge.specs.Constraints.{Constrained, over_constrained}
use Rattle.check_judge.specs.Excesses.{AreExcesses}
use Rattle.check_judge.proofs.excess.excesses_of_air.Goals as goal

pub returns : goal.returns
returns g c =
    let air = c.args.air.now in
    let given : Constrained _ = record { traces = air_traces air.main (option_copied c.as_ref.result) c.as_slice.result.now; constraints = air.constraints.items; lookups = c.as_slice-2.result.now; counts = map (λ v. v.items) c.deref.result.now } in
    let same : given ≡ over_constrained air = λ k. record { traces = air_traces air.main (c.as_ref.ensures.value k) (c.as_slice.ensures.value k); constraints = air.constraints.items; lookups = c.as_slice-2.ensures.lookups k; counts = map (λ v. v.items) (c.deref.ensures.value k) } in
    subst (λ x. IfOk c.excesses_over.result (λ v. AreExcesses g.F.PrimeCharacteristicRing.CHARACTERISTIC g.F.SignedField.number g.F.PrimeCharacteristicRing.ring g.F.PartialEq.eq x v.items)) same c.excesses_over.ensures
