use Rattle.std.proofs.Common.{◌≡◌, map, subst}
use Rattle.std.specs.Option.{option_copied}
use Rattle.air.specs.Traces.{air_traces, window_of}
use Rattle.air_constraints.specs.Checked.{IsFirstFault}
use Rattle.air_constraints.specs.Hold.{value_at}
use Rattle.lookup.specs.Lookups.{lookups_of}
use Rattle.check_judge.specs.Constraints.{Constrained, over_constrained}
use Rattle.check_judge.proofs.ConstraintLaws.{failure_there}
use Rattle.check_judge.proofs.constraints.failure_of.Goals as goal

pub returns-in-Err : goal.returns-in-Err
returns-in-Err g c =
    let R = g.F.PrimeCharacteristicRing.ring in
    let air = c.args.air.now in
    let fault = c.in-Err.fault in
    let e = c.index.result.now in
    let given : Constrained _ = record { traces = air_traces air.main (option_copied c.as_ref.result) c.as_slice.result.now; constraints = c.as_slice-2.result.now; lookups = lookups_of air.lookups; counts = map (λ v. v.items) air.counts.items } in
    let same : given ≡ over_constrained air = λ k. record { traces = air_traces air.main (c.as_ref.ensures.value k) (c.as_slice.ensures.value k); constraints = c.as_slice-2.ensures.value k; lookups = lookups_of air.lookups; counts = map (λ v. v.items) air.counts.items } in
    failure_there R (over_constrained air) fault e c.value_on_row.result
    (subst (λ (x : Constrained _). IsFirstFault R x.traces x.constraints fault) same c.in-Err.ensures)
    c.index.ensures
    (subst (λ (x : Constrained _). c.value_on_row.result ≡ value_at R (window_of x.traces fault.row) e) same c.value_on_row.ensures)
