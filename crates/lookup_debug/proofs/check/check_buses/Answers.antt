use Rattle.std.proofs.Common.{◌<◌, ◌≤◌, ℕ, inl, inr, List, length, map, refl, subst, arith}
use Rattle.std.proofs.lemmas.Option.{slice_get_read}
use Rattle.std.proofs.lemmas.Result.{err_from_is_err_and}
use Rattle.std.specs.Borrow.{Bor}
use Rattle.lookup_debug.specs.Contributions.{traced_of}
use Rattle.lookup_debug.specs.Groups.{bus_group}
use Rattle.lookup_debug.specs.Mismatch.{EachBalances, IsFirstMismatch}
use Rattle.lookup_debug.proofs.GroupLaws.{bus_balances, bus_mismatch, buses_balance}
use Rattle.lookup_debug.proofs.check.check_buses.Goals as goal

pub returns-in_err-check_bus : goal.returns-in_err-check_bus
returns-in_err-check_bus g c =
    let R = g.F.PrimeCharacteristicRing.ring in
    let eq = g.F.PartialEq.eq in
    let text = g.F.Field.text in
    let all = map traced_of c.args.instances.now in
    let list = c.in_ok-names.names in
    let index = c.loop-index.index in
    let lt : index < length list.items = omega (arith, c.loop-index-test.true, c.loop-index.auto.index-end, c.len-index-end.ensures, list.ok.0) in
    let there = slice_get_read list.items (length list.items) index c.index.result.now refl lt c.index.ensures in
    let fault = c.in_err-check_bus.field-0.0 in
    let p = err_from_is_err_and c.from_residual-in_err-check_bus.result c.from_residual-in_err-check_bus.ensures.1 in
    rw (p.1, p.2) (elim c.in_err-check_bus.ensures [
      | inl memory ↦ inl memory
      | inr is ↦ inr (subst (λ names. IsFirstMismatch R eq text (map (bus_group R eq all) names) fault) c.in_ok-names.ensures
          (bus_mismatch R eq (λ (n : Bor (List ℕ)). n.now) all list.items index c.index.result.now there c.loop-index.invariant text fault is))
    ])

pub loop-index-preserved : goal.loop-index-preserved
loop-index-preserved g c =
    let R = g.F.PrimeCharacteristicRing.ring in
    let eq = g.F.PartialEq.eq in
    let all = map traced_of c.args.instances.now in
    let list = c.in_ok-names.names in
    let index = c.loop-index.index in
    let lt : index < length list.items = omega (arith, c.loop-index-test.true, c.loop-index.auto.index-end, c.len-index-end.ensures, list.ok.0) in
    let there = slice_get_read list.items (length list.items) index c.index.result.now refl lt c.index.ensures in
    bus_balances R eq (λ (n : Bor (List ℕ)). n.now) all list.items index c.index.result.now there c.loop-index.invariant c.in_ok-check_bus.ensures

pub returns : goal.returns
returns g c =
    let R = g.F.PrimeCharacteristicRing.ring in
    let eq = g.F.PartialEq.eq in
    let all = map traced_of c.args.instances.now in
    let list = c.in_ok-names.names in
    let past : length list.items ≤ c.loop-index.index = omega (arith, c.loop-index-test.false, c.loop-index.auto.index-end, c.len-index-end.ensures, list.ok.0) in
    subst (λ names. EachBalances R eq (map (bus_group R eq all) names)) c.in_ok-names.ensures
    (buses_balance R eq (λ (n : Bor (List ℕ)). n.now) all list.items c.loop-index.index past c.loop-index.invariant)
