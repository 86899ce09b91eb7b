use Rattle.std.proofs.Common.{◌++◌, ap, map, refl, ◌∙◌, arith}
use Rattle.std.proofs.lemmas.List.{take_all}
use Rattle.std.proofs.lemmas.Slice.Zip.{length-zip}
use Rattle.std.specs.List.{zip}
use Rattle.checker_batches.specs.internal.Identified.{identified_of}
use Rattle.checker_batches.proofs.IdLaws.{push_at}
use Rattle.checker_batches.proofs.ids.push_identified.Goals as goal

pub loop-index-preserved : goal.loop-index-preserved
loop-index-preserved g c =
    let i = c.args.instance.now in
    ap (map identified_of) c.in_ok-push.ensures.items ∙ push_at (map identified_of c.args.all.now.items) i.ids.now i.lookups.now c.loop-index.all.items c.loop-index.index _ 0 c.index-instance-index.result c.loop-index-test.true c.requires refl refl c.loop-index.invariant

pub returns : goal.returns
returns g c =
    let i = c.args.instance.now in
    c.loop-index.invariant ∙ ap (λ t. map identified_of c.args.all.now.items ++ t) (take_all c.loop-index.index (zip i.ids.now i.lookups.now) (omega (arith, length-zip i.ids.now i.lookups.now, c.requires, c.loop-index-test.false)))
