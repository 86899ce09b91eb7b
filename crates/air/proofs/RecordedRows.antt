-- What the variables of a recording builder mean.
use Rattle.std.proofs.Common.{◌≡◌, ℕ, zero, suc, ◌+◌, ◌<◌, List, [], ◌∷◌, length, get_or, Some, slice_get, ap, ◌∙◌, sym, subst, arith}
use Rattle.std.proofs.lemmas.Option.{slice_get_within}
use Rattle.field.specs.Ring.{Ring}
use Rattle.air.proofs.VariableRows.{means_cells}
use Rattle.air_expressions.specs.Builder.{MeansRow}
use Rattle.air_expressions.specs.Degree.{degree_of, entry_degree}
use Rattle.air_expressions.specs.ExtDegree.{ext_degree_of, ext_entry_degree}
use Rattle.air_expressions.specs.ExtMeaning.{ext_cells_of, ext_variable_value}
use Rattle.air_expressions.specs.ExtTree.{ExtTree, variable}
use Rattle.air_expressions.specs.Layout.{EntryFits, Fits}
use Rattle.air_expressions.specs.Meaning.{cells_of, variable_value}
use Rattle.air_expressions.specs.Tree.{Tree, leaf}
use Rattle.air.specs.internal.Variables.{AreVariables, IsVariableRow}
use Rattle.air_expressions.specs.Window.{ExtWindow, Window}
use Rattle.air_expressions.specs.declared.base_expression.BaseLeaf.TheVariants.{Variable}
use Rattle.air_expressions.specs.declared.layout.AirLayout.{AirLayout}
use Rattle.air_expressions.specs.declared.variable.BaseEntry.{BaseEntry}
use Rattle.air_expressions.specs.declared.variable.ExtEntry.{ExtEntry}
use Rattle.air_expressions.specs.declared.variable.SymbolicVariable.{SymbolicVariable}
use Rattle.air_expressions.specs.declared.variable.SymbolicVariableExt.{SymbolicVariableExt}

-- a row of base variables means the cells that their entry is looked up in
pub base_row_means : {F : Type 0} (R : Ring F) (stands_for : Window F → Type 0) (entry : BaseEntry) (width : ℕ) (cells : Window F → List F) (vs : List (SymbolicVariable F)) → IsVariableRow (λ v. v.entry) (λ v. v.index) entry width vs → ((w : Window F) → cells_of w entry ≡ cells w) → ((w : Window F) → stands_for w → length (cells w) ≡ width) → MeansRow stands_for (λ v w. variable_value R w v) width cells vs
base_row_means R stands_for entry width cells vs row looked fits =
    means_cells stands_for (λ v w. variable_value R w v) (λ v. v.entry) (λ v. v.index) entry width cells R.zero vs row
    (λ v w same. ap (λ e. get_or (cells_of w e) v.index R.zero) same ∙ ap (λ xs. get_or xs v.index R.zero) (looked w))
    fits

-- so does a row of variables of the extension
pub ext_row_means : {F EF : Type 0} (S : Ring EF) (stands_for : ExtWindow F EF → Type 0) (entry : ExtEntry) (width : ℕ) (cells : ExtWindow F EF → List EF) (vs : List (SymbolicVariableExt F EF)) → IsVariableRow (λ v. v.entry) (λ v. v.index) entry width vs → ((w : ExtWindow F EF) → ext_cells_of w entry ≡ cells w) → ((w : ExtWindow F EF) → stands_for w → length (cells w) ≡ width) → MeansRow stands_for (λ v w. ext_variable_value S w v) width cells vs
ext_row_means S stands_for entry width cells vs row looked fits =
    means_cells stands_for (λ v w. ext_variable_value S w v) (λ v. v.entry) (λ v. v.index) entry width cells S.zero vs row
    (λ v w same. ap (λ e. get_or (ext_cells_of w e) v.index S.zero) same ∙ ap (λ xs. get_or xs v.index S.zero) (looked w))
    fits

-- each variable of a row has the row's entry
entry_at : {V E : Type 0} (entry_of : V → E) (index_of : V → ℕ) (entry : E) (k : ℕ) (vs : List V) (i : ℕ) (v : V) → AreVariables entry_of index_of entry k vs → slice_get vs i ≡ Some v → entry_of v ≡ entry
entry_at entry_of index_of entry k [] i v are found = cc
entry_at entry_of index_of entry k (u ∷ vs) zero v are found = let same : u ≡ v = cc in ap entry_of (sym same) ∙ are.0
entry_at entry_of index_of entry k (u ∷ vs) (suc i) v are found =
    entry_at entry_of index_of entry (k + 1) vs i v are.2 found

-- the trees of a row of base variables have the degree of its entry
pub base_row_degree : {F : Type 0} (entry : BaseEntry) (width : ℕ) (vs : List (SymbolicVariable F)) (i t : ℕ) (v : SymbolicVariable F) (e : Tree F) → IsVariableRow (λ u. u.entry) (λ u. u.index) entry width vs → slice_get vs i ≡ Some v → e ≡ leaf (Variable v) → degree_of t e ≡ entry_degree entry
base_row_degree entry width vs i t v e row found same =
    ap (degree_of t) same ∙ ap entry_degree (entry_at (λ u. u.entry) (λ u. u.index) entry 0 vs i v row.indices found)

-- so have those of a row of variables of the extension
pub ext_row_degree : {F EF : Type 0} (entry : ExtEntry) (width : ℕ) (vs : List (SymbolicVariableExt F EF)) (i t : ℕ) (v : SymbolicVariableExt F EF) (e : ExtTree F EF) → IsVariableRow (λ u. u.entry) (λ u. u.index) entry width vs → slice_get vs i ≡ Some v → e ≡ variable v → ext_degree_of t e ≡ ext_entry_degree entry
ext_row_degree entry width vs i t v e row found same =
    ap (ext_degree_of t) same ∙ ap ext_entry_degree (entry_at (λ u. u.entry) (λ u. u.index) entry 0 vs i v row.indices found)

-- the index of each variable of a row is where it stands there
index_at : {V E : Type 0} (entry_of : V → E) (index_of : V → ℕ) (entry : E) (k : ℕ) (vs : List V) (i : ℕ) (v : V) → AreVariables entry_of index_of entry k vs → slice_get vs i ≡ Some v → index_of v ≡ k + i
index_at entry_of index_of entry k [] i v are found = cc
index_at entry_of index_of entry k (u ∷ vs) zero v are found =
    let same : u ≡ v = cc in
    let first : index_of v ≡ k = ap index_of (sym same) ∙ are.1 in
    omega (arith, first)
index_at entry_of index_of entry k (u ∷ vs) (suc i) v are found =
    let later : index_of v ≡ k + 1 + i = index_at entry_of index_of entry (k + 1) vs i v are.2 found in
    omega (arith, later)

-- the trees of a row of base variables stay within a layout that has the row's indices
pub base_row_within : {F : Type 0} (layout : AirLayout) (entry : BaseEntry) (width : ℕ) (vs : List (SymbolicVariable F)) (i : ℕ) (v : SymbolicVariable F) (e : Tree F) → IsVariableRow (λ u. u.entry) (λ u. u.index) entry width vs → ((k : ℕ) → k < width → EntryFits layout entry k) → slice_get vs i ≡ Some v → e ≡ leaf (Variable v) → Fits layout e
base_row_within {F} layout entry width vs i v e row places found same =
    let within : i < width = omega (arith, row.len, slice_get_within vs i v found) in
    let index : v.index ≡ i = omega (arith, index_at (λ u. u.entry) (λ u. u.index) entry 0 vs i v row.indices found) in
    let P : Tree F → Type 0 = λ t. Fits layout t in
    let Q : BaseEntry → Type 0 = λ n. EntryFits layout n v.index in
    let R : ℕ → Type 0 = λ k. EntryFits layout entry k in
    subst P (sym same) (subst Q (sym (entry_at (λ u. u.entry) (λ u. u.index) entry 0 vs i v row.indices found)) (subst R (sym index) (places i within)))
