-- That a reach is that of some lookups has one proof at most, as a ghost field asks.
use Rattle.std.specs.List.{AllZip}
use Rattle.std.specs.Prelude.{ℕ, List, [], ◌∷◌}
use Rattle.std.proofs.Props.{props}
use Rattle.air_expressions.specs.Layout.{EntryFits, Fits, LeafFits}
use Rattle.air_expressions.specs.Tree.{Tree, leaf, add, sub, mul, neg}
use Rattle.air_expressions.specs.declared.base_expression.BaseLeaf.{BaseLeaf}
use Rattle.air_expressions.specs.declared.base_expression.BaseLeaf.TheVariants.{Variable, IsFirstRow, IsLastRow, IsTransition, Constant}
use Rattle.air_expressions.specs.declared.layout.AirLayout.{AirLayout}
use Rattle.air_expressions.specs.declared.variable.BaseEntry.{BaseEntry}
use Rattle.air_expressions.specs.declared.variable.BaseEntry.TheVariants.{Preprocessed, Main, Public}
use Rattle.lookup.specs.Lookups.{lookups_of}
use Rattle.lookup.specs.declared.lookups.Lookups.{Lookups}
use Rattle.lookup_model.specs.Records.{AllFit, IsWithin}
use Rattle.lookup_model.specs.declared.types.Lookup.{Lookup}
use Rattle.batch.specs.declared.reach.Reach.{Reach}
use Rattle.batch.specs.Reaches.{IsReachOf}

entry_prop : (layout : AirLayout) (entry : BaseEntry) (index : ℕ) → IsProp (EntryFits layout entry index)
entry_prop layout (Preprocessed offset) index = hlevel props
entry_prop layout (Main offset) index = hlevel props
entry_prop layout Public index = hlevel props

leaf_prop : {F : Type 0} (layout : AirLayout) (l : BaseLeaf F) → IsProp (LeafFits layout l)
leaf_prop layout (Variable v) = entry_prop layout v.entry v.index
leaf_prop layout IsFirstRow = hlevel props
leaf_prop layout IsLastRow = hlevel props
leaf_prop layout IsTransition = hlevel props
leaf_prop layout (Constant c) = hlevel props

fits_prop : {F : Type 0} (layout : AirLayout) (t : Tree F) → IsProp (Fits layout t)
fits_prop layout (leaf l) = leaf_prop layout l
fits_prop layout (add a b) = let left = fits_prop layout a in let right = fits_prop layout b in hlevel (left, right)
fits_prop layout (sub a b) = let left = fits_prop layout a in let right = fits_prop layout b in hlevel (left, right)
fits_prop layout (mul a b) = let left = fits_prop layout a in let right = fits_prop layout b in hlevel (left, right)
fits_prop layout (neg a) = fits_prop layout a

within_prop : {F : Type 0} (layout : AirLayout) (lookup : Lookup F) → IsProp (IsWithin layout lookup)
unfolding IsWithin AllFit
within_prop layout lookup = hlevel (fits_prop, props)

reach_prop : {F : Type 0} (reach : Reach) (lookups : List (Lookup F)) → IsProp (IsReachOf reach lookups)
reach_prop reach lookups = hlevel (within_prop, props)

-- so it is of those of each AIR
pub reaches_prop : {F : Type 0} (reaches : List Reach) (airs : List (Lookups F)) → IsProp (AllZip (λ reach air. IsReachOf reach (lookups_of air)) reaches airs)
reaches_prop [] [] = hlevel props
reaches_prop [] (a ∷ airs) = hlevel props
reaches_prop (r ∷ reaches) [] = hlevel props
reaches_prop (r ∷ reaches) (a ∷ airs) = let here = reach_prop r (lookups_of a) in let later = reaches_prop reaches airs in hlevel (here, later)
