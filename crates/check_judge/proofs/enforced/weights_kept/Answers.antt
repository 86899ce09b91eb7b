use Rattle.std.proofs.Common.{◌<◌, ◌∙◌, ap, arith, length, map, subst, sym}
use Rattle.std.proofs.lemmas.List.{take_all}
use Rattle.std.specs.List.{AllZip, zip}
use Rattle.list_laws.proofs.Zips.{AllZip-more, length_zip, zip_at}
use Rattle.check_judge.specs.Counts.{counts_for, queries_of}
use Rattle.check_judge.specs.Enforced.{IsWeightShown}
use Rattle.check_judge.proofs.EnforcedLaws.{weight_shown}
use Rattle.check_judge.proofs.enforced.weights_kept.Goals as goal

pub bounds-shown-index : goal.bounds-shown-index
bounds-shown-index g c = omega (arith, c.requires, c.loop-index-test.true)

pub loop-index-preserved : goal.loop-index-preserved
loop-index-preserved g c =
    let lookups = c.args.lookups.now in
    let shown = c.args.shown.now in
    let i = c.loop-index.index in
    let lookup = c.index-lookups-index.result in
    let e = c.index-shown-index.result in
    let counts = map (λ v. v.items) c.args.counts.now in
    let within : i < length (zip lookups shown) = omega (arith, length_zip lookups shown c.requires, c.loop-index-test.true) in
    AllZip-more (λ p kept. IsWeightShown g.F.PrimeCharacteristicRing.ring g.F.PartialEq.eq p.0 p.1 (queries_of (counts_for counts p.0.column)) kept) (zip lookups shown) c.loop-index.weights.items _ i (lookup, e) (lookup, e) c.keeps_weight.result within
    (zip_at lookups shown i lookup e (sym c.requires) c.loop-index-test.true c.index-lookups-index.is c.index-shown-index.is) c.in_ok-push.ensures.items
    (weight_shown g.F.PrimeCharacteristicRing.ring g.F.PartialEq.eq lookup e c.in_ok-queries.queries.items (queries_of (counts_for counts lookup.column)) c.keeps_weight.result c.as_slice.ensures.value (c.in_ok-queries.ensures ∙ ap queries_of c.counts_at.ensures) c.keeps_weight.ensures.answer c.keeps_weight.ensures.enforced) c.loop-index.invariant

pub returns : goal.returns
returns g c =
    let pairs = zip c.args.lookups.now c.args.shown.now in
    subst (λ ps. AllZip (λ p kept. IsWeightShown g.F.PrimeCharacteristicRing.ring g.F.PartialEq.eq p.0 p.1 (queries_of (counts_for (map (λ v. v.items) c.args.counts.now) p.0.column)) kept) ps c.loop-index.weights.items)
    (take_all c.loop-index.index pairs (omega (arith, length_zip c.args.lookups.now c.args.shown.now c.requires, c.loop-index-test.false))) c.loop-index.invariant
