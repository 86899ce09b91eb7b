-- What solutions of equations can sum to, as the walk over a batch keeps it.
use Rattle.std.specs.Prelude.{◌≡◌, ◌≢◌, ◌↔◌, ◌++◌, List, Result, MatchResult}
use Rattle.field.specs.Ring.{Ring}
use Rattle.lookup_model.specs.declared.error.LookupError.{LookupError}
use Rattle.lookup_model.specs.declared.error.LookupError.TheVariants.{Memory}
use Rattle.lookup_model.specs.internal.Equations.{CanSumTo, Equation}
use Rattle.checker_batches.specs.declared.sums.Sums.{Sums}
use Rattle.checker_batches.specs.declared.sums.Sums.TheVariants.{Nothing, One, Everything}

-- The sums of these equations: none, the quotient of these elements alone, or all elements.
abbrev pub AreSums : {K : Type 0} → Ring K → List (Equation K) → Sums K → Type 0
AreSums {K} S equations Nothing = (total : K) → ¬ CanSumTo S equations total
AreSums {K} S equations (One numerator denominator) =
    (denominator ≢ S.zero) × ((total : K) → CanSumTo S equations total ↔ (S.mul denominator total ≡ numerator))
AreSums {K} S equations Everything = (total : K) → CanSumTo S equations total

-- The sums of some equations become those of these further ones with them; or memory runs out.
abbrev pub AddsEquations : {K : Type 0} → Ring K → List (Equation K) → Sums K → Result (Sums K) LookupError → Type 0
AddsEquations {K} S further before answer = MatchResult answer
    (λ after. (equations : List (Equation K)) → AreSums S equations before → AreSums S (equations ++ further) after)
    (λ e. e ≡ Memory)
