use Rattle.std.proofs.Common.{inl, inr, map, subst, sym, arith}
use Rattle.std.proofs.lemmas.List.{length-map}
use Rattle.std.proofs.lemmas.Result.{err_from_is_err_and}
use Rattle.lookup_debug.specs.Contributions.{IsTracedFitting, traced_of}
use Rattle.lookup_debug.specs.declared.instance.LookupDebugInstance.{LookupDebugInstance}
use Rattle.lookup_debug.proofs.GroupLaws.{air_balances, air_mismatch, airs_balance, traced_at}
use Rattle.lookup_debug.proofs.check.check_locals.Goals as goal

pub check_locals_of-requires : goal.check_locals_of-requires
check_locals_of-requires g c =
    let item = c.index-instances-instance in
    subst (λ (i : LookupDebugInstance _). IsTracedFitting (traced_of i)) (sym item.is)
    (c.requires c.loop-instance.instance item.result c.loop-instance-test.true)

pub returns-in_err-check_locals_of : goal.returns-in_err-check_locals_of
returns-in_err-check_locals_of g c =
    let R = g.F.PrimeCharacteristicRing.ring in
    let eq = g.F.PartialEq.eq in
    let instances = c.args.instances.now in
    let index = c.loop-instance.instance in
    let item = c.index-instances-instance in
    let there = traced_at instances index item.result c.loop-instance-test.true item.is in
    let p = err_from_is_err_and c.from_residual.result c.from_residual.ensures.1 in
    rw (p.1, p.2) (elim c.in_err-check_locals_of.ensures [
      | inl memory ↦ inl memory
      | inr is ↦ inr (air_mismatch R eq (map traced_of instances) index (traced_of item.result) there c.loop-instance.invariant g.F.Field.text c.in_err-check_locals_of.field-0.0 is)
    ])

pub loop-instance-preserved : goal.loop-instance-preserved
loop-instance-preserved g c =
    let R = g.F.PrimeCharacteristicRing.ring in
    let eq = g.F.PartialEq.eq in
    let instances = c.args.instances.now in
    let index = c.loop-instance.instance in
    let item = c.index-instances-instance in
    let there = traced_at instances index item.result c.loop-instance-test.true item.is in
    air_balances R eq (map traced_of instances) index (traced_of item.result) there c.loop-instance.invariant c.in_ok-check_locals_of.ensures

pub returns : goal.returns
returns g c =
    let R = g.F.PrimeCharacteristicRing.ring in
    let eq = g.F.PartialEq.eq in
    let instances = c.args.instances.now in
    airs_balance R eq (map traced_of instances) c.loop-instance.instance (omega (arith, c.loop-instance-test.false, length-map instances traced_of)) c.loop-instance.invariant
