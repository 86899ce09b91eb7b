-- Facts about single variables and about layouts that do not change, for builders that record.
use Rattle.std.specs.Prelude.{◌≡◌, ℕ, ◌≤◌, ◌↔◌}
use Rattle.std.proofs.Common.{lit≤, subst, sym}
use Rattle.air_expressions.specs.Degree.{degree_of, entry_degree}
use Rattle.air_expressions.specs.ExtDegree.{ext_degree_of, ext_entry_degree}
use Rattle.air_expressions.specs.ExtTree.{ExtTree, variable}
use Rattle.air_expressions.specs.Tree.{Tree, leaf}
use Rattle.air_expressions.specs.declared.layout.AirLayout.{AirLayout}
use Rattle.air_expressions.specs.declared.base_expression.BaseLeaf.TheVariants.{Variable}
use Rattle.air_expressions.specs.declared.variable.BaseEntry.{BaseEntry}
use Rattle.air_expressions.specs.declared.variable.BaseEntry.TheVariants.{Preprocessed, Main, Public}
use Rattle.air_expressions.specs.declared.variable.ExtEntry.{ExtEntry}
use Rattle.air_expressions.specs.declared.variable.ExtEntry.TheVariants.{Permutation, Challenge, PermutationValue}
use Rattle.air_expressions.specs.declared.variable.SymbolicVariable.{SymbolicVariable}
use Rattle.air_expressions.specs.declared.variable.SymbolicVariableExt.{SymbolicVariableExt}

-- an entry has degree at most 1
pub entry_degree-le : (entry : BaseEntry) → entry_degree entry ≤ 1
entry_degree-le (Preprocessed offset) = lit≤ tt
entry_degree-le (Main offset) = lit≤ tt
entry_degree-le Public = lit≤ tt

-- an entry of the extension, too
pub ext_entry_degree-le : (entry : ExtEntry) → ext_entry_degree entry ≤ 1
ext_entry_degree-le (Permutation offset) = lit≤ tt
ext_entry_degree-le Challenge = lit≤ tt
ext_entry_degree-le PermutationValue = lit≤ tt

-- the tree of a variable has degree at most 1
pub variable_degree-le : {F : Type 0} (v : SymbolicVariable F) (e : Tree F) (t : ℕ) → e ≡ leaf (Variable v) → degree_of t e ≤ 1
variable_degree-le {F} v e t same =
    let P : Tree F → Type 0 = λ x. degree_of t x ≤ 1 in subst P (sym same) (entry_degree-le v.entry)

-- the tree of a variable of the extension, too
pub ext_variable_degree-le : {F EF : Type 0} (v : SymbolicVariableExt F EF) (e : ExtTree F EF) (t : ℕ) → e ≡ variable v → ext_degree_of t e ≤ 1
ext_variable_degree-le {F} {EF} v e t same =
    let P : ExtTree F EF → Type 0 = λ x. ext_degree_of t x ≤ 1 in subst P (sym same) (ext_entry_degree-le v.entry)

-- if two layouts are equal, what holds for one holds for the other
pub iff_along : (P : AirLayout → Type 0) (a b : AirLayout) → b ≡ a → P a ↔ P b
iff_along P a b same = (subst P (sym same), subst P same)
