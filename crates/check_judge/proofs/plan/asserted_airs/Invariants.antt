use Rattle.std.proofs.Common.{◌≡◌, map, take}
use Rattle.air_expressions.specs.Tree.{tree_of}
use Rattle.field.specs.Ring.{of_nat}
use Rattle.lookup.specs.Lookups.{lookups_of}
use Rattle.language.specs.Batches.{air_of}
use Rattle.language_meaning.specs.Columns.{constraints_in}
use Rattle.language_meaning.specs.Lookups.{constraint_of}
use Rattle.language_meaning.specs.Shapes.{shape_of}
use Rattle.check_judge.specs.Counts.{counts_in}
use Rattle.check_judge.proofs.plan.asserted_airs.Given as goal

abbrev pub invariant-loop-index : goal.invariant-loop-index
invariant-loop-index g l = record {
  lookups : map (λ a. lookups_of a.lookups.now) l.airs.items ≡ map lookups_of (take l.index l.sets);
  constraints : map (λ a. map tree_of a.constraints.items) l.airs.items ≡ map (λ n. constraints_in (of_nat g.F.PrimeCharacteristicRing.ring) (map constraint_of n.constraints.items)) (take l.index l.named);
  counts : map (λ a. map (λ v. v.items) a.counts.items) l.airs.items ≡ map (λ a. counts_in (air_of a.now).items) (take l.index l.said);
  heights : map (λ a. a.height) l.airs.items ≡ map (λ s. (shape_of s).rows) (take l.index l.shapes);
}
