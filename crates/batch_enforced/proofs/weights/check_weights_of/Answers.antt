use Rattle.std.proofs.Common.{◌≡◌, ◌<◌, Bool, List, Some, inr, length, arith, refl, slice_get, subst}
use Rattle.std.proofs.lemmas.List.{length-map}
use Rattle.std.proofs.lemmas.Slice.Zip.{AllZip-long, length-zip}
use Rattle.std.specs.List.{zip}
use Rattle.list_laws.proofs.Images.{mapped_at}
use Rattle.list_laws.proofs.Items.{holds_next}
use Rattle.list_laws.proofs.Zips.{AllZip-both_at, pair_at}
use Rattle.lookup_enforced.specs.Enforced.{EnforcesWeight, IsEnforcement}
use Rattle.batch_enforced.specs.Weights.{query_lists}
use Rattle.batch_enforced.proofs.WeightLaws.{zip_held}
use Rattle.batch_enforced.proofs.weights.check_weights_of.Goals as goal

pub index-enforcement-requires : goal.index-enforcement-requires
index-enforcement-requires g c =
    omega (arith, AllZip-long _ c.args.lookups.now c.in_ok-shown.shown.items c.in_ok-shown.ensures, c.loop-index-test.true)

pub returns-then-not-keeps_weight : goal.returns-then-not-keeps_weight
returns-then-not-keeps_weight g c =
    let lookups = c.args.lookups.now in
    let queries = c.args.queries.now in
    let i = c.loop-index.index in
    let lookup = c.index-lookups-index.result in
    let own = c.index-queries-index.result in
    let many : length (query_lists queries) ≡ length lookups = omega (arith, c.if-queries-lookups.false, length-map queries (λ l. l.items)) in
    inr (inr (
      many,
      (
        _,
        record {
          index = i;
          item = (lookup, own.items);
          is_there = pair_at lookups (query_lists queries) i lookup own.items c.loop-index-test.true (omega (arith, c.loop-index-test.true, many)) c.index-lookups-index.is
              (mapped_at (λ l. l.items) queries i own (omega (arith, c.loop-index-test.true, c.if-queries-lookups.false)) c.index-queries-index.is);
          before = c.loop-index.invariant;
          fault = record { air_is = refl; lookup_is = refl; bus_is = c.in_ok-bus.ensures };
        },
        refl,
      ),
    ))

pub loop-index-preserved : goal.loop-index-preserved
loop-index-preserved g c =
    let R = g.F.PrimeCharacteristicRing.ring in
    let eq = g.F.PartialEq.eq in
    let height = c.args.height in
    let constraints = c.args.constraints.now in
    let lookups = c.args.lookups.now in
    let queries = c.args.queries.now in
    let shown = c.in_ok-shown.shown.items in
    let i = c.loop-index.index in
    let lookup = c.index-lookups-index.result in
    let own = c.index-queries-index.result in
    let many : length (query_lists queries) ≡ length lookups = omega (arith, c.if-queries-lookups.false, length-map queries (λ l. l.items)) in
    let there : slice_get (zip lookups (query_lists queries)) i ≡ Some (lookup, own.items) =
    pair_at lookups (query_lists queries) i lookup own.items c.loop-index-test.true (omega (arith, c.loop-index-test.true, many)) c.index-lookups-index.is
    (mapped_at (λ l. l.items) queries i own (omega (arith, c.loop-index-test.true, c.if-queries-lookups.false)) c.index-queries-index.is) in
    let within : i < length shown = omega (arith, AllZip-long _ lookups shown c.in_ok-shown.ensures, c.loop-index-test.true) in
    let is = AllZip-both_at (IsEnforcement R eq height constraints) lookups shown i lookup c.index-enforcement.result.now c.in_ok-shown.ensures within c.index-lookups-index.is c.index-enforcement.ensures in
    let P : List Bool → Type 0 = EnforcesWeight R eq height constraints lookup in
    holds_next (λ t. EnforcesWeight R eq height constraints t.0 t.1) (zip lookups (query_lists queries)) i (lookup, own.items) there
    (subst P c.as_slice.ensures.value (c.keeps_weight.ensures.enforced c.if-not-keeps_weight.false height constraints is)) c.loop-index.invariant

pub returns : goal.returns
returns g c =
    let lookups = c.args.lookups.now in
    let queries = c.args.queries.now in
    zip_held (EnforcesWeight g.F.PrimeCharacteristicRing.ring g.F.PartialEq.eq c.args.height c.args.constraints.now) lookups (query_lists queries) c.loop-index.index
    (omega (arith, c.if-queries-lookups.false, length-map queries (λ l. l.items))) c.loop-index.invariant c.loop-index-test.false
