-- The expressions of lookups as steps.
use Rattle.std.specs.Prelude.{IfSome}
use Rattle.std.specs.List.{AllZip}
use Rattle.std.specs.declared.alloc.Global.{Global}
use Rattle.std.specs.declared.vec.Vec.{Vec}
use Rattle.air_expressions.specs.declared.base_expression.SymbolicExpression.{SymbolicExpression}
use Rattle.lookup_columns.specs.Steps.{AreStepsOf}
use Rattle.lookup_columns.specs.declared.step.Step.{Step}
use Rattle.lookup_columns.specs.declared.lookup_steps.LookupSteps.{LookupSteps}
use Rattle.lookup_model.specs.declared.types.Lookup.{Lookup}

module _ {F : Type 0} where
  -- These are the steps of the elements of a tuple.
  abbrev pub AreTupleSteps : Vec (Vec (Step F) Global) Global → Vec (SymbolicExpression F) Global → Type 0
  AreTupleSteps steps tuple = AllZip AreStepsOf steps.items tuple.items

  -- These are the steps of a lookup: of its flags, if it has any, its tuples and its multiplicities.
  pub record AreLookupSteps (steps : LookupSteps F) (lookup : Lookup F) : Type 0 where
    pub flags : IfSome lookup.flags (λ flags. AllZip AreStepsOf steps.flags.items flags.items)
    pub elements : AllZip AreTupleSteps steps.elements.items lookup.elements.items
    pub multiplicities : AllZip AreStepsOf steps.multiplicities.items lookup.multiplicities.items
