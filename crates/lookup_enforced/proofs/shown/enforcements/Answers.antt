use Rattle.std.proofs.Common.{List, sym, take_all, subst}
use Rattle.std.specs.List.{AllZip}
use Rattle.list_laws.proofs.Zips.{AllZip-more}
use Rattle.lookup_model.specs.declared.types.Lookup.{Lookup}
use Rattle.lookup_enforced.specs.Enforced.{IsEnforcement}
use Rattle.lookup_enforced.specs.declared.rows.RowFacts.{RowFacts}
use Rattle.lookup_enforced.specs.internal.Shown.{IsAnyOf}
use Rattle.lookup_enforced.proofs.RowLaws.{shown_is_enforced}
use Rattle.lookup_enforced.proofs.shown.enforcements.Goals as goal

pub loop-lookup-preserved : goal.loop-lookup-preserved
loop-lookup-preserved g c =
    let R = g.F.PrimeCharacteristicRing.ring in
    let eq = g.F.PartialEq.eq in
    let enforced = shown_is_enforced R eq (IsAnyOf R c.as_slice.result.now) c.args.height c.args.constraints.now
    (λ w row hold. let P : List (RowFacts g.row.F.Denot) → Type 0 = λ rs. IsAnyOf R rs w in subst P (sym c.as_slice.ensures.value) (c.in_ok-rows.ensures w row hold))
    c.lookup-item.result c.in_ok-one.one c.in_ok-one.ensures in
    AllZip-more (IsEnforcement R eq c.args.height c.args.constraints.now)
    c.args.lookups.now c.loop-lookup.shown.items _ c.loop-lookup.lookup-index c.lookup-item.result c.lookup-item.result _
    c.loop-lookup-test.true c.lookup-item.is c.in_ok-push.ensures.items enforced c.loop-lookup.invariant

pub returns : goal.returns
returns g c =
    let R = g.F.PrimeCharacteristicRing.ring in
    let P : List (Lookup g.row.F.Denot) → Type 0 = λ ls. AllZip (IsEnforcement R g.F.PartialEq.eq c.args.height c.args.constraints.now) ls c.loop-lookup.shown.items in
    subst P (take_all c.loop-lookup.lookup-index c.args.lookups.now c.loop-lookup-test.false) c.loop-lookup.invariant
