use Rattle.std.proofs.Common.{◌++◌, ℕ, List, refl, subst, sym, take, true≢false, ◌∙◌, arith}
use Rattle.std.proofs.lemmas.List.{take_all}
use Rattle.std.proofs.lemmas.Slice.Zip.{length-zip}
use Rattle.std.specs.List.{zip}
use Rattle.lookup_model.specs.declared.types.Lookup.{Lookup}
use Rattle.batch.proofs.SeenLaws.{lookup_seen}
use Rattle.batch.specs.internal.Seen.{AreSeen}
use Rattle.batch.proofs.assigned.see_air.Goals as goal

pub returns-then-not-branch : goal.returns-then-not-branch
returns-then-not-branch g c = λ all seen.
    let ids = c.args.ids.now in
    let lookups = c.args.lookups.now in
    let i = c.loop-index.index in
    let step = lookup_seen c.args.num_ids all ids lookups i c.index-lookups-index.result c.see_lookup.new.seen c.in_ok-see_lookup.field-0 c.requires c.loop-index-test.true c.index-lookups-index.is
    (c.in_ok-see_lookup.ensures (all ++ take i (zip ids lookups)) (c.loop-index.invariant all seen)) in
    (λ yes. absurd (true≢false (sym yes)), λ by_bus. absurd (true≢false (sym (step.1 by_bus) ∙ c.if-not-branch.true)))

pub loop-index-preserved : goal.loop-index-preserved
loop-index-preserved g c = λ all seen.
    let ids = c.args.ids.now in
    let lookups = c.args.lookups.now in
    let i = c.loop-index.index in
    let step = lookup_seen c.args.num_ids all ids lookups i c.index-lookups-index.result c.see_lookup.new.seen c.in_ok-see_lookup.field-0 c.requires c.loop-index-test.true c.index-lookups-index.is
    (c.in_ok-see_lookup.ensures (all ++ take i (zip ids lookups)) (c.loop-index.invariant all seen)) in
    step.0 c.if-not-branch.false

pub returns : goal.returns
returns g c = λ all seen.
    let zs = zip c.args.ids.now c.args.lookups.now in (
      λ yes. subst (λ (xs : List (ℕ × Lookup _)). AreSeen c.args.num_ids (all ++ xs) c.loop-index.seen) (take_all c.loop-index.index zs (omega (arith, c.loop-index-test.false, c.requires, length-zip c.args.ids.now c.args.lookups.now)))
          (c.loop-index.invariant all seen),
      λ by_bus. refl,
    )
