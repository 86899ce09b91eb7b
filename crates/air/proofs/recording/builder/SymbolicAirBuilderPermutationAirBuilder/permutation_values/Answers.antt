use Rattle.std.proofs.Common.{refl}
use Rattle.air.proofs.RecordedRows.{ext_row_degree, ext_row_means}
use Rattle.air_expressions.specs.declared.variable.ExtEntry.TheVariants.{PermutationValue}
use Rattle.air.proofs.recording.builder.SymbolicAirBuilderPermutationAirBuilder.permutation_values.Goals as goal

pub returns-clause-means : goal.returns-clause-means
returns-clause-means g c = ext_row_means g.EF.PrimeCharacteristicRing.ring _ PermutationValue _ _ _ c.permutation_values.ensures (λ w. refl) (λ w h. h.permutation_values)

pub returns-clause-degree : goal.returns-clause-degree
returns-clause-degree g c i t v e found same = ext_row_degree PermutationValue _ _ i t v _ c.permutation_values.ensures found same
