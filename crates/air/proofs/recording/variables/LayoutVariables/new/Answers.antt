use Rattle.std.proofs.lemmas.Result.{IfOk-from_err}
use Rattle.air.proofs.recording.variables.LayoutVariables.new.Goals as goal

pub invariant_of-result : goal.invariant_of-result
invariant_of-result g c = record {
  main = c.in_ok-variable_rows.ensures;
  preprocessed = c.in_ok-variable_rows-2.ensures;
  public_values = c.in_ok-variables.ensures;
  permutation = c.in_ok-variable_rows-3.ensures;
  challenges = c.in_ok-variables-2.ensures;
  permutation_values = c.in_ok-variables-3.ensures;
}

pub returns-in_err-variable_rows : goal.returns-in_err-variable_rows
returns-in_err-variable_rows g c = IfOk-from_err _ _ c.from_residual.ensures.0

pub returns-in_err-variable_rows-2 : goal.returns-in_err-variable_rows-2
returns-in_err-variable_rows-2 g c = IfOk-from_err _ _ c.from_residual-in_err-variable_rows-2.ensures.0

pub returns-in_err-variables : goal.returns-in_err-variables
returns-in_err-variables g c = IfOk-from_err _ _ c.from_residual-in_err-variables.ensures.0

pub returns-in_err-variable_rows-3 : goal.returns-in_err-variable_rows-3
returns-in_err-variable_rows-3 g c = IfOk-from_err _ _ c.from_residual-in_err-variable_rows-3.ensures.0

pub returns-in_err-variables-2 : goal.returns-in_err-variables-2
returns-in_err-variables-2 g c = IfOk-from_err _ _ c.from_residual-in_err-variables-2.ensures.0

pub returns-in_err-variables-3 : goal.returns-in_err-variables-3
returns-in_err-variables-3 g c = IfOk-from_err _ _ c.from_residual-in_err-variables-3.ensures.0
