use Rattle.std.proofs.Common.{◌≡◌, ℕ, ◌+◌, ◌-◌, ◌*◌, ◌^◌, ◌<◌, List, length, map, min, take, get_or, ap, ◌∙◌, arith}
use Rattle.std.proofs.lemmas.List.{get_or_default, length-map, take_all}
use Rattle.std.proofs.lemmas.List.Sums.{sum_by_push}
use Rattle.std.proofs.lemmas.Slice.Zip.{length-zip}
use Rattle.std.specs.List.{sum_by, zip}
use Rattle.list_laws.proofs.Images.{mapped_at}
use Rattle.list_laws.proofs.Items.{take_item}
use Rattle.list_laws.proofs.Zips.{zip_at}
use Rattle.lookup_model.specs.declared.types.Lookup.{Lookup}
use Rattle.lookup.specs.Guards.{weighted_height}
use Rattle.lookup.specs.Lookups.{lookups_of}
use Rattle.lookup.proofs.guards.saturated_height_sum.Goals as goal

-- the sum of weighted heights, cut off at a greatest number, with one AIR more
sum_more : {F A : Type 0} (view : A → List (Lookup F)) (airs : List A) (heights : List ℕ) → length heights ≡ length airs → (most i : ℕ) (air : A) (d weight sum next : ℕ) → i < length airs → air ≡ get_or airs i air → weight ≡ sum_by (λ lookup. lookup.count_weight) (view air)
    → sum ≡ min (sum_by weighted_height (take i (zip (map view airs) heights))) most → next ≡ min (sum + min (weight * get_or heights i d) most) most → next ≡ min (sum_by weighted_height (take (i + 1) (zip (map view airs) heights))) most
sum_more view airs heights as_many most i air d weight sum next lt is weight_is so_far next_is =
    let pairs = zip (map view airs) heights in
    let tall = get_or heights i d in
    let below : i < length (map view airs) = omega (arith, length-map airs view, lt) in
    let here = zip_at (map view airs) heights i (view air) tall (omega (arith, length-map airs view, as_many)) below (mapped_at view airs i air lt is) (get_or_default heights i d tall (omega (arith, as_many, lt))) in
    let longer = take_item pairs i (view air, tall) (omega (arith, length-zip (map view airs) heights, below, as_many, lt)) here in
    omega (arith, next_is, so_far, ap (sum_by weighted_height) longer ∙ sum_by_push weighted_height (take i pairs) (view air, tall), ap (λ w. w * tall) weight_is)

pub loop-air-preserved : goal.loop-air-preserved
loop-air-preserved g c =
    sum_more lookups_of c.args.airs.now c.args.heights.now c.requires (2 ^ 128 - 1) c.loop-air.air c.index-airs-air.result 0 c.total_count_weight-weight.result c.loop-air.sum c.saturating_add-sum.result c.loop-air-test.true c.index-airs-air.is c.total_count_weight-weight.ensures c.loop-air.invariant
    (c.saturating_add-sum.ensures ∙ ap (λ t. min (c.loop-air.sum + t) (2 ^ 128 - 1)) c.saturating_mul.ensures)

pub returns : goal.returns
returns g c =
    let airs = map lookups_of c.args.airs.now in
    let heights = c.args.heights.now in
    c.loop-air.invariant ∙ ap (λ t. min (sum_by weighted_height t) (2 ^ 128 - 1)) (take_all c.loop-air.air (zip airs heights) (omega (arith, length-zip airs heights, length-map c.args.airs.now lookups_of, c.requires, c.loop-air-test.false)))
