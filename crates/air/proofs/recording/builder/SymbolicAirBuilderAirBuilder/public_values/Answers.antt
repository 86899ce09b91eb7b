use Rattle.std.proofs.Common.{refl}
use Rattle.air.proofs.RecordedRows.{base_row_degree, base_row_means, base_row_within}
use Rattle.air_expressions.specs.declared.variable.BaseEntry.TheVariants.{Public}
use Rattle.air.proofs.recording.builder.SymbolicAirBuilderAirBuilder.public_values.Goals as goal

pub returns-clause-means : goal.returns-clause-means
returns-clause-means g c = base_row_means g.F.PrimeCharacteristicRing.ring _ Public _ _ _ c.public_values.ensures (λ w. refl) (λ w h. h.public_values)

pub returns-clause-degree : goal.returns-clause-degree
returns-clause-degree g c i t v e found same =
    base_row_degree Public _ _ i t v _ c.public_values.ensures found same

pub returns-clause-within : goal.returns-clause-within
returns-clause-within g c i v e found same =
    base_row_within c.args.self.now.variables Public _ _ i v _ c.public_values.ensures (λ k h. h) found same
