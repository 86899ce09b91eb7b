use Rattle.std.proofs.Common.{◌++◌, [], inr, map, string_bytes, subst, ap, ◌∙◌}
use Rattle.lookup_debug.specs.Contributions.{contributions_of, location_of, traced_of}
use Rattle.lookup_debug.specs.Groups.{local_label}
use Rattle.lookup_debug.specs.Mismatch.{tuple_locations}
use Rattle.lookup_debug.specs.internal.Nets.{amount_nets}
use Rattle.lookup_debug.proofs.MismatchLaws.{IsFound, mismatch_of}
use Rattle.lookup_debug.proofs.check.check_local.Goals as goal

pub returns-in_default : goal.returns-in_default
returns-in_default g c =
    let R = g.F.PrimeCharacteristicRing.ring in
    let eq = g.F.PartialEq.eq in
    let cs = contributions_of R eq c.args.instance c.args.index (traced_of c.args.traced.now) c.args.lookup.now in
    let same = c.in_ok-walk_lookup.ensures.1 [] (ap (amount_nets R eq) c.clear.ensures.empty) in
    subst (IsFound R eq g.F.Field.text cs) c.in_default.is (c.in_ok-found.ensures cs same)

pub returns : goal.returns
returns g c =
    let R = g.F.PrimeCharacteristicRing.ring in
    let eq = g.F.PartialEq.eq in
    let text = g.F.Field.text in
    let label = local_label c.args.instance c.args.index in
    let cs = contributions_of R eq c.args.instance c.args.index (traced_of c.args.traced.now) c.args.lookup.now in
    let same = c.in_ok-walk_lookup.ensures.1 [] (ap (amount_nets R eq) c.clear.ensures.empty) in
    let found = subst (IsFound R eq text cs) c.in-Some.is (c.in_ok-found.ensures cs same) in
    inr (mismatch_of R eq text (string_bytes c.in_ok-label.label) label cs c.in-Some.found.0.now c.in-Some.found.1 (map location_of c.into_locations.result.items) c.in_ok-mismatch.field-0
    c.in_ok-label.ensures found
    (ap (λ ls. map location_of ls.items) c.into_locations.ensures ∙ c.in_ok-walk_lookup-2.ensures.1 ∙ (λ i. map location_of (c.new-locations.ensures.empty i) ++ tuple_locations R eq (c.new-locations.ensures.tuple i) cs))
    c.in_ok-mismatch.ensures)
