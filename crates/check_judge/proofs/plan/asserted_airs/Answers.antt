use Rattle.std.proofs.Common.{◌∙◌, ◌<◌, ap, arith, length, map, refl, sym}
use Rattle.std.proofs.lemmas.List.{take_all}
use Rattle.air_expressions.specs.Tree.{tree_of}
use Rattle.field.specs.Ring.{of_nat}
use Rattle.lookup.specs.Lookups.{lookups_of}
use Rattle.language.specs.Batches.{air_of}
use Rattle.language.specs.Items.{placed_of}
use Rattle.language_meaning.specs.Columns.{constraints_in}
use Rattle.language_meaning.specs.Lookups.{constraint_of}
use Rattle.language_meaning.specs.Shapes.{shape_of}
use Rattle.check_judge.specs.Counts.{counts_in}
use Rattle.check_judge.proofs.EnforcedLaws.{one_more}
use Rattle.check_judge.proofs.plan.asserted_airs.Goals as goal

pub loop-index-preserved : goal.loop-index-preserved
loop-index-preserved g c =
    let element = of_nat g.F.PrimeCharacteristicRing.ring in
    let i = c.loop-index.index in
    let before = c.loop-index.airs.items in
    let inv = c.loop-index.invariant in
    let more = c.in_ok-push.ensures.items in
    let within_named : i < length c.args.named.now = omega (arith, c.requires.named, c.loop-index-test.true) in
    let within_said : i < length c.args.said.now = omega (arith, c.requires.said, c.loop-index-test.true) in
    let within_sets : i < length c.args.sets.now = omega (arith, c.requires.sets, c.loop-index-test.true) in
    record {
      lookups = one_more (λ a. lookups_of a.lookups.now) lookups_of before _ _ c.args.sets.now i c.index-sets-index.result within_sets c.index-sets-index.is more refl inv.lookups;
      constraints = one_more (λ a. map tree_of a.constraints.items) (λ n. constraints_in element (map constraint_of n.constraints.items)) before _ _ c.args.named.now i c.index-named-index.result within_named c.index-named-index.is more
          (c.in_ok-constraints.ensures ∙ (ap (λ ns. constraints_in element (map constraint_of ns)) c.deref.ensures.value ∙ ap (λ n. constraints_in element (map constraint_of n.constraints.items)) (sym c.index-named-index.is))) inv.constraints;
      counts = one_more (λ a. map (λ v. v.items) a.counts.items) (λ a. counts_in (air_of a.now).items) before _ _ c.args.said.now i c.index-said-index.result within_said c.index-said-index.is more
          (c.in_ok-counts.ensures ∙ (ap (λ items. counts_in (map placed_of items)) c.deref-in-loop-index.ensures.value ∙ ap (λ a. counts_in (air_of a.now).items) (sym c.index-said-index.is))) inv.counts;
      heights = one_more (λ a. a.height) (λ s. (shape_of s).rows) before _ _ c.args.shapes.now i c.index-shapes-index.result c.loop-index-test.true c.index-shapes-index.is more (ap (λ s. (shape_of s).rows) (sym c.index-shapes-index.is)) inv.heights;
    }

pub returns-clause-lookups : goal.returns-clause-lookups
returns-clause-lookups g c = c.loop-index.invariant.lookups ∙ ap (map lookups_of) (take_all c.loop-index.index c.args.sets.now (omega (arith, c.requires.sets, c.loop-index-test.false)))

pub returns-clause-constraints : goal.returns-clause-constraints
returns-clause-constraints g c = c.loop-index.invariant.constraints ∙ ap (map (λ n. constraints_in (of_nat g.F.PrimeCharacteristicRing.ring) (map constraint_of n.constraints.items))) (take_all c.loop-index.index c.args.named.now (omega (arith, c.requires.named, c.loop-index-test.false)))

pub returns-clause-counts : goal.returns-clause-counts
returns-clause-counts g c = c.loop-index.invariant.counts ∙ ap (map (λ a. counts_in (air_of a.now).items)) (take_all c.loop-index.index c.args.said.now (omega (arith, c.requires.said, c.loop-index-test.false)))

pub returns-clause-heights : goal.returns-clause-heights
returns-clause-heights g c = c.loop-index.invariant.heights ∙ ap (map (λ s. (shape_of s).rows)) (take_all c.loop-index.index c.args.shapes.now (omega (arith, c.loop-index-test.false)))
