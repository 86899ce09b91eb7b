use Rattle.std.proofs.Common.{◌≡◌, ◌+◌, ◌*◌, ℕ, get_or, refl, ap, ◌∙◌, arith}
use Rattle.std.proofs.lemmas.List.{take_all}
use Rattle.std.proofs.lemmas.List.Sums.{sum_by-take-le}
use Rattle.std.proofs.lemmas.Slice.Zip.{length-zip}
use Rattle.std.specs.List.{sum_by, zip}
use Rattle.lookup.specs.Lookups.{lookups_of}
use Rattle.lookup_model.specs.Batches.Linear.{most_of_row}
use Rattle.batch.proofs.HeightCounts.{most_more, most_of_air}
use Rattle.batch.proofs.heights.most_messages.Goals as goal

pub returns-in_default : goal.returns-in_default
returns-in_default g c =
    let airs = c.args.airs.now in
    let heights = c.args.heights.now in
    let i = c.loop-air.air in
    let h = get_or heights i 0 in
    let air = c.index-airs-air.result in
    let product : h * c.most_on_row-of_row.result ≡ h * most_of_row (lookups_of air) = ap (λ (n : ℕ). h * n) (c.most_on_row-of_row.ensures ∙ ap most_of_row c.as_slice.ensures.lookups) in
    omega (arith, c.in_default.ensures, product, c.loop-air.invariant, most_more airs heights i air h c.requires c.loop-air-test.true c.index-airs-air.is refl, sum_by-take-le most_of_air (zip airs heights) (i + 1))

pub loop-air-preserved : goal.loop-air-preserved
loop-air-preserved g c =
    let heights = c.args.heights.now in
    let i = c.loop-air.air in
    let h = get_or heights i 0 in
    let air = c.index-airs-air.result in
    let product : h * c.most_on_row-of_row.result ≡ h * most_of_row (lookups_of air) = ap (λ (n : ℕ). h * n) (c.most_on_row-of_row.ensures ∙ ap most_of_row c.as_slice.ensures.lookups) in
    let sum : c.in-Some.sum ≡ c.loop-air.most + h * c.most_on_row-of_row.result = c.in-Some.ensures in
    omega (arith, sum, product, c.loop-air.invariant, most_more c.args.airs.now heights i air h c.requires c.loop-air-test.true c.index-airs-air.is refl)

pub returns : goal.returns
returns g c =
    let airs = c.args.airs.now in
    let heights = c.args.heights.now in
    c.loop-air.invariant ∙ ap (sum_by most_of_air) (take_all c.loop-air.air (zip airs heights) (omega (arith, c.loop-air-test.false, length-zip airs heights, c.requires)))
