use Rattle.std.proofs.Common.{◌<◌, IsNone, Option, length, arith, refl, subst, sym}
use Rattle.std.proofs.lemmas.Slice.Zip.{AllZip-long}
use Rattle.list_laws.proofs.Each.{All-held}
use Rattle.list_laws.proofs.Items.{holds_next, item_there}
use Rattle.list_laws.proofs.Zips.{AllZip-both_at}
use Rattle.lookup_enforced.specs.Enforced.{EnforcesFlags, IsMissing}
use Rattle.lookup_enforced.specs.declared.enforcement.Missing.{Missing}
use Rattle.batch_enforced.proofs.AirLaws.{there_if_missing, without_flags}
use Rattle.batch_enforced.proofs.unshown.unshown_of_air.Goals as goal

pub index-requires : goal.index-requires
index-requires g c =
    omega (arith, AllZip-long _ c.args.lookups.now c.in_ok-missing.missing.items c.in_ok-missing.ensures, c.loop-index-test.true)

pub returns-in-Some : goal.returns-in-Some
returns-in-Some g c =
    let lookups = c.args.lookups.now in
    let missing = c.in_ok-missing.missing.items in
    let i = c.loop-index.index in
    let lookup = c.index-lookups-index.result in
    let within : i < length missing = omega (arith, AllZip-long _ lookups missing c.in_ok-missing.ensures, c.loop-index-test.true) in
    let is = AllZip-both_at (IsMissing g.F.PrimeCharacteristicRing.ring g.F.PartialEq.eq c.args.height c.args.constraints.now) lookups missing i lookup c.index.result.now c.in_ok-missing.ensures within c.index-lookups-index.is c.index.ensures in
    record {
      index = i;
      item = lookup;
      is_there = item_there lookups i lookup c.loop-index-test.true c.index-lookups-index.is;
      before = c.loop-index.invariant;
      fault = record {
        flags = there_if_missing lookup.flags c.index.result.now c.in-Some.missing is.plain c.in-Some.is;
        air_is = refl;
        lookup_is = refl;
        bus_is = c.in_ok-bus.ensures;
      };
    }

pub loop-index-preserved : goal.loop-index-preserved
loop-index-preserved g c =
    let R = g.F.PrimeCharacteristicRing.ring in
    let eq = g.F.PartialEq.eq in
    let lookups = c.args.lookups.now in
    let missing = c.in_ok-missing.missing.items in
    let i = c.loop-index.index in
    let lookup = c.index-lookups-index.result in
    let within : i < length missing = omega (arith, AllZip-long _ lookups missing c.in_ok-missing.ensures, c.loop-index-test.true) in
    let is = AllZip-both_at (IsMissing R eq c.args.height c.args.constraints.now) lookups missing i lookup c.index.result.now c.in_ok-missing.ensures within c.index-lookups-index.is c.index.ensures in
    let none : IsNone c.index.result.now = subst (λ (o : Option Missing). IsNone o) (sym c.in_default.is) refl in
    holds_next (EnforcesFlags R eq c.args.height c.args.constraints.now) lookups i lookup (item_there lookups i lookup c.loop-index-test.true c.index-lookups-index.is) (is.enforces none) c.loop-index.invariant

pub returns : goal.returns
returns g c = All-held (EnforcesFlags g.F.PrimeCharacteristicRing.ring g.F.PartialEq.eq c.args.height c.args.constraints.now) c.args.lookups.now c.loop-index.index c.loop-index-test.false c.loop-index.invariant

pub returns-then-not-have_flags : goal.returns-then-not-have_flags
returns-then-not-have_flags g c = λ k d lt. without_flags _ _ (c.if-not-have_flags.ensures refl k d lt)
