use Rattle.std.proofs.Common.{refl}
use Rattle.air_expressions.proofs.variable.SymbolicVariable.new.Goals as goal

pub returns-clause-entry : goal.returns-clause-entry
returns-clause-entry g c = refl

pub returns-clause-index : goal.returns-clause-index
returns-clause-index g c = refl
