use Rattle.std.proofs.Common.{lit≤, refl}
use Rattle.air.proofs.RecordedRows.{base_row_means, base_row_within}
use Rattle.air_expressions.specs.declared.variable.BaseEntry.TheVariants.{Main}
use Rattle.air.proofs.recording.builder.SymbolicAirBuilderAirBuilder.main.Goals as goal

pub returns-clause-current : goal.returns-clause-current
returns-clause-current g c = rw c.in_ok-copy_rows.ensures
    (base_row_means g.F.PrimeCharacteristicRing.ring _ (Main 0) _ _ _ c.main.ensures.current_row (λ w. refl) (λ w h. h.main))

pub returns-clause-next : goal.returns-clause-next
returns-clause-next g c = rw c.in_ok-copy_rows.ensures
    (base_row_means g.F.PrimeCharacteristicRing.ring _ (Main 1) _ _ _ c.main.ensures.next_row (λ w. refl) (λ w h. h.main_next))

pub returns-clause-current_within : goal.returns-clause-current_within
returns-clause-current_within g c = rw c.in_ok-copy_rows.ensures
    (λ i v e found same. base_row_within c.args.self.now.variables (Main 0) _ _ i v _ c.main.ensures.current_row (λ k h. (lit≤ tt, h)) found same)

pub returns-clause-next_within : goal.returns-clause-next_within
returns-clause-next_within g c = rw c.in_ok-copy_rows.ensures
    (λ i v e found same. base_row_within c.args.self.now.variables (Main 1) _ _ i v _ c.main.ensures.next_row (λ k h. (lit≤ tt, h)) found same)
