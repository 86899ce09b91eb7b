-- What contracts see of the records of a symbolic evaluation: texts as bytes, vectors as lists.
use Rattle.std.specs.Prelude.{List, map}
use Rattle.std.specs.String.{string_bytes}
use Rattle.air_expressions.specs.declared.base_expression.SymbolicExpression.{SymbolicExpression}
use Rattle.lookup_record.specs.Interaction.{Tuple, GlobalInteraction, Branch, ExclusiveInteraction}
use Rattle.lookup_record.specs.Pushed.{tuple_of}
use Rattle.lookup_record.specs.declared.interaction.SymbolicExclusiveBranch.{SymbolicExclusiveBranch}
use Rattle.lookup_record.specs.declared.interaction.SymbolicExclusiveInteraction.{SymbolicExclusiveInteraction}
use Rattle.lookup_record.specs.declared.interaction.SymbolicInteraction.{SymbolicInteraction}
use Rattle.lookup_record.specs.declared.interaction.SymbolicLocalInteraction.{SymbolicLocalInteraction}

-- the message on a bus
abbrev pub global_of : {F : Type 0} → SymbolicInteraction F → GlobalInteraction (SymbolicExpression F)
global_of r = record {
  bus_name = string_bytes r.bus_name;
  fields = r.fields.items;
  count = r.count;
  weight = r.count_weight;
}

-- the tuples of a local lookup
abbrev pub local_of : {F : Type 0} → SymbolicLocalInteraction F → List (Tuple (SymbolicExpression F))
local_of r = map tuple_of r.tuples.items

-- the branch of a group
abbrev pub branch_of : {F : Type 0} → SymbolicExclusiveBranch F → Branch (SymbolicExpression F)
branch_of r =
    record { flag = r.flag; count = r.count; fields = r.fields.items; weight = r.count_weight }

-- the group
abbrev pub exclusive_of : {F : Type 0} → SymbolicExclusiveInteraction F → ExclusiveInteraction (SymbolicExpression F)
exclusive_of r =
    record { bus_name = string_bytes r.bus_name; branches = map branch_of r.branches.items }
