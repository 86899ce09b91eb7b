use Rattle.std.proofs.Common.{List, sym, take_all, subst}
use Rattle.std.specs.List.{AllZip}
use Rattle.list_laws.proofs.Zips.{AllZip-more}
use Rattle.lookup_model.specs.declared.types.Lookup.{Lookup}
use Rattle.lookup_enforced.specs.Enforced.{IsMissing}
use Rattle.lookup_enforced.specs.declared.rows.RowFacts.{RowFacts}
use Rattle.lookup_enforced.specs.internal.Shown.{IsAnyOf}
use Rattle.lookup_enforced.proofs.RowLaws.{flags_fewer}
use Rattle.lookup_enforced.proofs.shown.missing_flags.Goals as goal

pub loop-lookup-preserved : goal.loop-lookup-preserved
loop-lookup-preserved g c =
    let R = g.F.PrimeCharacteristicRing.ring in
    let eq = g.F.PartialEq.eq in
    let lookup = c.lookup-item.result in
    let missing : IsMissing R eq c.args.height c.args.constraints.now lookup c.in_ok-one.one = record {
      enforces = λ none. flags_fewer R eq (IsAnyOf R c.as_slice.result.now) c.args.height c.args.constraints.now
          (λ w row hold. let P : List (RowFacts g.row.F.Denot) → Type 0 = λ rs. IsAnyOf R rs w in subst P (sym c.as_slice.ensures.value) (c.in_ok-rows.ensures w row hold))
          lookup.flags (c.in_ok-one.ensures.lawful none);
      plain = c.in_ok-one.ensures.plain;
    } in
    AllZip-more (IsMissing R eq c.args.height c.args.constraints.now)
    c.args.lookups.now c.loop-lookup.missing.items _ c.loop-lookup.lookup-index lookup lookup _
    c.loop-lookup-test.true c.lookup-item.is c.in_ok-push.ensures.items missing c.loop-lookup.invariant

pub returns : goal.returns
returns g c =
    let R = g.F.PrimeCharacteristicRing.ring in
    let P : List (Lookup g.row.F.Denot) → Type 0 = λ ls. AllZip (IsMissing R g.F.PartialEq.eq c.args.height c.args.constraints.now) ls c.loop-lookup.missing.items in
    subst P (take_all c.loop-lookup.lookup-index c.args.lookups.now c.loop-lookup-test.false) c.loop-lookup.invariant
