-- The variables that are kept for a layout.
use Rattle.air.specs.internal.Variables.{IsVariableMatrix, IsVariableRow}
use Rattle.air_expressions.specs.declared.variable.BaseEntry.TheVariants.{Main, Preprocessed, Public}
use Rattle.air_expressions.specs.declared.variable.ExtEntry.TheVariants.{Challenge, Permutation, PermutationValue}
use Rattle.air.specs.declared.recording.variables.LayoutVariables.TheInside.{Inside}

-- the variables are those of the layout, each at its index
pub record IsStored {F EF : Type 0} (s : Inside F EF) : Type 0 where
  pub main : IsVariableMatrix (λ v. v.entry) (λ v. v.index) (Main 0) (Main 1) s.layout.main_width s.main
  pub preprocessed : IsVariableMatrix (λ v. v.entry) (λ v. v.index) (Preprocessed 0) (Preprocessed 1) s.layout.preprocessed_width s.preprocessed
  pub public_values : IsVariableRow (λ v. v.entry) (λ v. v.index) Public s.layout.num_public_values s.public_values.items
  pub permutation : IsVariableMatrix (λ v. v.entry) (λ v. v.index) (Permutation 0) (Permutation 1) s.layout.permutation_width s.permutation
  pub challenges : IsVariableRow (λ v. v.entry) (λ v. v.index) Challenge s.layout.num_permutation_challenges s.challenges.items
  pub permutation_values : IsVariableRow (λ v. v.entry) (λ v. v.index) PermutationValue s.layout.num_permutation_values s.permutation_values.items
