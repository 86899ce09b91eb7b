use Rattle.std.proofs.Common.{lit≤, refl}
use Rattle.air.proofs.RecordedRows.{base_row_means, base_row_within}
use Rattle.air_expressions.specs.declared.variable.BaseEntry.TheVariants.{Preprocessed}
use Rattle.air.proofs.recording.builder.SymbolicAirBuilderAirBuilder.preprocessed.Goals as goal

pub returns-clause-current : goal.returns-clause-current
returns-clause-current g c =
    base_row_means g.F.PrimeCharacteristicRing.ring _ (Preprocessed 0) _ _ _ c.preprocessed.ensures.current_row (λ w. refl) (λ w h. h.preprocessed)

pub returns-clause-next : goal.returns-clause-next
returns-clause-next g c =
    base_row_means g.F.PrimeCharacteristicRing.ring _ (Preprocessed 1) _ _ _ c.preprocessed.ensures.next_row (λ w. refl) (λ w h. h.preprocessed_next)

pub returns-clause-current_within : goal.returns-clause-current_within
returns-clause-current_within g c i v e found same =
    base_row_within c.args.self.now.variables (Preprocessed 0) _ _ i v _ c.preprocessed.ensures.current_row (λ k h. (lit≤ tt, h)) found same

pub returns-clause-next_within : goal.returns-clause-next_within
returns-clause-next_within g c i v e found same =
    base_row_within c.args.self.now.variables (Preprocessed 1) _ _ i v _ c.preprocessed.ensures.next_row (λ k h. (lit≤ tt, h)) found same
