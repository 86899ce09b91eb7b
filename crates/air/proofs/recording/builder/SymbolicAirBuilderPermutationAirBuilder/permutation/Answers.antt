use Rattle.std.proofs.Common.{refl}
use Rattle.air.proofs.RecordedRows.{ext_row_means}
use Rattle.air_expressions.specs.declared.variable.ExtEntry.TheVariants.{Permutation}
use Rattle.air.proofs.recording.builder.SymbolicAirBuilderPermutationAirBuilder.permutation.Goals as goal

pub returns-clause-current : goal.returns-clause-current
returns-clause-current g c = rw c.in_ok-copy_rows.ensures
    (ext_row_means g.EF.PrimeCharacteristicRing.ring _ (Permutation 0) _ _ _ c.permutation.ensures.current_row (λ w. refl) (λ w h. h.permutation))

pub returns-clause-next : goal.returns-clause-next
returns-clause-next g c = rw c.in_ok-copy_rows.ensures
    (ext_row_means g.EF.PrimeCharacteristicRing.ring _ (Permutation 1) _ _ _ c.permutation.ensures.next_row (λ w. refl) (λ w h. h.permutation_next))
