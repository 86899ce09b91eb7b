-- Lookups that fit a layout fit it beside any auxiliary trace, challenges and values.
use Rattle.std.proofs.Common.{ℕ, Option, None, Some, IfSome, List, get_or}
use Rattle.std.specs.declared.alloc.Global.{Global}
use Rattle.std.specs.declared.vec.Vec.{Vec}
use Rattle.air_expressions.specs.declared.layout.AirLayout.{AirLayout}
use Rattle.air_expressions.specs.declared.base_expression.BaseLeaf.{BaseLeaf}
use Rattle.air_expressions.specs.declared.base_expression.BaseLeaf.TheVariants.{Variable, IsFirstRow, IsLastRow, IsTransition, Constant}
use Rattle.air_expressions.specs.declared.base_expression.SymbolicExpression.{SymbolicExpression}
use Rattle.air_expressions.specs.declared.variable.BaseEntry.{BaseEntry}
use Rattle.air_expressions.specs.declared.variable.BaseEntry.TheVariants.{Preprocessed, Main, Public}
use Rattle.air_expressions.specs.Layout.{EntryFits, LeafFits, Fits}
use Rattle.air_expressions.specs.Tree.{Tree, tree_of, leaf, add, sub, mul, neg}
use Rattle.lookup_model.specs.Records.{AllFit, IsWithin, LookupsFit}
use Rattle.lookup_model.specs.declared.types.Lookup.{Lookup}

-- the layout with an auxiliary trace of this width, and these numbers of challenges and values
abbrev pub with_auxiliary : AirLayout → ℕ → ℕ → ℕ → AirLayout
with_auxiliary layout width challenges values = record layout {
  permutation_width = width;
  num_permutation_challenges = challenges;
  num_permutation_values = values;
}

module _ (layout : AirLayout) (width challenges values : ℕ) where
  abbrev longer : AirLayout
  longer = with_auxiliary layout width challenges values

  entry_fits : (entry : BaseEntry) (index : ℕ) → EntryFits layout entry index → EntryFits longer entry index
  entry_fits (Preprocessed offset) index h = h
  entry_fits (Main offset) index h = h
  entry_fits Public index h = h

  module _ {F : Type 0} where
    leaf_fits : (l : BaseLeaf F) → LeafFits layout l → LeafFits longer l
    leaf_fits (Variable v) h = entry_fits v.entry v.index h
    leaf_fits IsFirstRow h = h
    leaf_fits IsLastRow h = h
    leaf_fits IsTransition h = h
    leaf_fits (Constant c) h = h

    tree_fits : (t : Tree F) → Fits layout t → Fits longer t
    tree_fits (leaf l) h = leaf_fits l h
    tree_fits (add a b) h = (tree_fits a h.0, tree_fits b h.1)
    tree_fits (sub a b) h = (tree_fits a h.0, tree_fits b h.1)
    tree_fits (mul a b) h = (tree_fits a h.0, tree_fits b h.1)
    tree_fits (neg a) h = tree_fits a h

    all_fit : (es : List (SymbolicExpression F)) → AllFit layout es → AllFit longer es
    unfolding AllFit
    all_fit es h = λ k d lt. tree_fits (tree_of (get_or es k d)) (h k d lt)

    flags_fit : (flags : Option (Vec (SymbolicExpression F) Global)) → IfSome flags (λ fs. AllFit layout fs.items) → IfSome flags (λ fs. AllFit longer fs.items)
    flags_fit None h = h
    flags_fit (Some fs) h = all_fit fs.items h

    within : (lookup : Lookup F) → IsWithin layout lookup → IsWithin longer lookup
    unfolding IsWithin
    within lookup h = (λ k d lt. all_fit (get_or lookup.elements.items k d).items (h.0 k d lt), all_fit lookup.multiplicities.items h.1, flags_fit lookup.flags h.2)

    -- lookups that fit still do
    pub LookupsFit-with_auxiliary : (lookups : List (Lookup F)) → LookupsFit layout lookups → LookupsFit longer lookups
    LookupsFit-with_auxiliary lookups h = record { records = h.records; within = λ k d lt. within (get_or lookups k d) (h.within k d lt) }
