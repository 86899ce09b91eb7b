use Rattle.std.proofs.Common.{◌⊎◌, All, IfSome, IsSomeAnd, List, MatchOption, Option, Some, None, inl, inr, subst, sym}
use Rattle.std.specs.declared.alloc.Global.{Global}
use Rattle.std.specs.declared.vec.Vec.{Vec}
use Rattle.air_expressions.specs.declared.base_expression.SymbolicExpression.{SymbolicExpression}
use Rattle.air_expressions.specs.declared.layout.AirLayout.{AirLayout}
use Rattle.lookup_debug.specs.Fits.{IsFirstOutsideLookup, IsFirstOutsideOf, IsFirstOutsideTuples}
use Rattle.lookup_debug.specs.declared.fit.Cell.{Cell}
use Rattle.lookup_model.specs.Records.{AllFit, IsWithin}
use Rattle.lookup_model.specs.declared.types.Lookup.{Lookup}
use Rattle.lookup_debug.proofs.fit.outside_lookup.Goals as goal

-- what is found of the flags is found of a lookup, where its tuples and multiplicities are within a layout
module _ {F : Type 0} (layout : AirLayout) (lookup : Lookup F) (tuples : All (λ tuple. AllFit layout tuple.items) lookup.elements.items) (multiplicities : AllFit layout lookup.multiplicities.items) where
  with_flags : (answer : Option Cell) → MatchOption answer (IfSome lookup.flags (λ flags. AllFit layout flags.items)) (λ cell. IsSomeAnd lookup.flags (λ flags. IsFirstOutsideOf layout cell flags.items))
      → MatchOption answer (IsWithin layout lookup) (λ cell. IsFirstOutsideLookup layout cell lookup)
  unfolding IsWithin
  with_flags None flags = (tuples, multiplicities, flags)
  with_flags (Some cell) found = inr (tuples, inr (multiplicities, found))

pub returns-in-Some : goal.returns-in-Some
returns-in-Some g c = inl (subst (λ (ts : List (Vec (SymbolicExpression _) Global)). IsFirstOutsideTuples c.args.layout.now c.in-Some.cell ts) c.deref.ensures.value c.in-Some.ensures)

pub returns-in-Some-outside_of : goal.returns-in-Some-outside_of
returns-in-Some-outside_of g c = inr (
  subst (λ (ts : List (Vec (SymbolicExpression _) Global)). All (λ tuple. AllFit c.args.layout.now tuple.items) ts) c.deref.ensures.value c.in_default.ensures,
  inl (subst (λ (es : List (SymbolicExpression _)). IsFirstOutsideOf c.args.layout.now c.in-Some-outside_of.cell es) c.deref-2.ensures.value c.in-Some-outside_of.ensures),
)

pub returns-in-Some-flags : goal.returns-in-Some-flags
returns-in-Some-flags g c =
    let layout = c.args.layout.now in
    let answer = c.outside_of-in-Some-flags.result in
    with_flags layout c.args.lookup.now
    (subst (λ (ts : List (Vec (SymbolicExpression _) Global)). All (λ tuple. AllFit layout tuple.items) ts) c.deref.ensures.value c.in_default.ensures)
    (subst (λ (es : List (SymbolicExpression _)). AllFit layout es) c.deref-2.ensures.value c.in_default-outside_of.ensures)
    answer
    (subst (λ (flags : Option (Vec (SymbolicExpression _) Global)). MatchOption answer (IfSome flags (λ list. AllFit layout list.items)) (λ cell. IsSomeAnd flags (λ list. IsFirstOutsideOf layout cell list.items))) (sym c.in-Some-flags.is)
    (subst (λ (es : List (SymbolicExpression _)). MatchOption answer (AllFit layout es) (λ cell. IsFirstOutsideOf layout cell es)) c.deref-in-Some-flags.ensures.value c.outside_of-in-Some-flags.ensures))

pub returns-in-None : goal.returns-in-None
returns-in-None g c =
    let layout = c.args.layout.now in
    with_flags layout c.args.lookup.now
    (subst (λ (ts : List (Vec (SymbolicExpression _) Global)). All (λ tuple. AllFit layout tuple.items) ts) c.deref.ensures.value c.in_default.ensures)
    (subst (λ (es : List (SymbolicExpression _)). AllFit layout es) c.deref-2.ensures.value c.in_default-outside_of.ensures)
    None
    (subst (λ (flags : Option (Vec (SymbolicExpression _) Global)). IfSome flags (λ list. AllFit layout list.items)) (sym c.in-None.is) tt)
