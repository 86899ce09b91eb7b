-- Well formed records and fitting expressions, one after another.
use Rattle.std.proofs.Common.{arith, subst, sym, ◌≡◌, ℕ, ◌+◌, ◌<◌, List, length, get_or, Some}
use Rattle.std.specs.List.{slice_get}
use Rattle.std.specs.declared.alloc.Global.{Global}
use Rattle.std.specs.declared.vec.Vec.{Vec}
use Rattle.list_laws.proofs.Each.{All-at}
use Rattle.list_laws.proofs.Items.{holds_at_next}
use Rattle.air_expressions.specs.declared.layout.AirLayout.{AirLayout}
use Rattle.air_expressions.specs.declared.base_expression.SymbolicExpression.{SymbolicExpression}
use Rattle.air_expressions.specs.Layout.{Fits}
use Rattle.air_expressions.specs.Tree.{tree_of}
use Rattle.lookup_model.specs.Records.{AllFit, AreRecordsBelow, HasEqualLengths, IsRecordAt, IsWithin}
use Rattle.lookup_model.specs.declared.types.Lookup.{Lookup}

-- one more well formed record
pub AreRecordsBelow-more : {F : Type 0} (lookups : List (Lookup F)) (i : ℕ) (lookup : Lookup F) → AreRecordsBelow i lookups → slice_get lookups i ≡ Some lookup → IsRecordAt i lookup → AreRecordsBelow (i + 1) lookups
AreRecordsBelow-more lookups i lookup below is_there is = holds_at_next IsRecordAt lookups i lookup is_there is below

-- an expression of a list that fits
pub Fits-at : {F : Type 0} (layout : AirLayout) (es : List (SymbolicExpression F)) (i : ℕ) (e : SymbolicExpression F) → AllFit layout es → i < length es → e ≡ get_or es i e → Fits layout (tree_of e)
unfolding AllFit
Fits-at layout es i e all lt is = All-at (λ x. Fits layout (tree_of x)) es i e all lt is

module _ {F : Type 0} (layout : AirLayout) (lookup : Lookup F) (within : IsWithin layout lookup) where
  -- the elements of a tuple of a lookup that is within a layout fit it
  pub tuple_fits : (i : ℕ) (tuple : Vec (SymbolicExpression F) Global) (es : List (SymbolicExpression F)) → i < length lookup.elements.items → tuple ≡ get_or lookup.elements.items i tuple → es ≡ tuple.items → AllFit layout es
  unfolding IsWithin
  tuple_fits i tuple es lt is same = subst (AllFit layout) (sym same) (All-at (λ t. AllFit layout t.items) lookup.elements.items i tuple within.0 lt is)

  -- and so does its multiplicity
  pub multiplicity_fits : HasEqualLengths lookup → (i : ℕ) (m : SymbolicExpression F) → i < length lookup.elements.items → m ≡ get_or lookup.multiplicities.items i m → Fits layout (tree_of m)
  unfolding IsWithin
  multiplicity_fits lengths i m lt is = Fits-at layout lookup.multiplicities.items i m within.1 (omega (arith, lt, lengths.multiplicities)) is
