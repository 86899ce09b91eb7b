-- The branches of a lookup, one after another.
use Rattle.std.proofs.Common.{◌≡◌, ℕ, ◌+◌, ◌<◌, [], ◌∷◌, ◌++◌, length, take, get_or}
use Rattle.std.specs.declared.alloc.Global.{Global}
use Rattle.std.specs.declared.vec.Vec.{Vec}
use Rattle.list_laws.proofs.Zips.{length-zipped, zipped_more}
use Rattle.field.specs.Ring.{Ring}
use Rattle.air_expressions.specs.Window.{Window}
use Rattle.air_expressions.specs.declared.base_expression.SymbolicExpression.{SymbolicExpression}
use Rattle.lookup_model.specs.LookupDegree.{branch_degrees, lookup_branch_degrees}
use Rattle.lookup_model.specs.Records.{HasEqualLengths}
use Rattle.lookup_model.specs.Sent.{branch_at, branches_at}
use Rattle.lookup_model.specs.declared.types.Lookup.{Lookup}

module _ {F : Type 0} (lookup : Lookup F) (lengths : HasEqualLengths lookup) where
  -- the degrees of one more branch
  pub degrees_more : (t i : ℕ) (tuple : Vec (SymbolicExpression F) Global) (multiplicity : SymbolicExpression F) → i < length lookup.elements.items → tuple ≡ get_or lookup.elements.items i tuple → multiplicity ≡ get_or lookup.multiplicities.items i multiplicity
      → take (i + 1) (lookup_branch_degrees t lookup) ≡ take i (lookup_branch_degrees t lookup) ++ branch_degrees t tuple.items multiplicity ∷ []
  degrees_more t i tuple multiplicity lt tuple_is multiplicity_is =
      zipped_more (λ b. branch_degrees t b.0.items b.1) lookup.elements.items lookup.multiplicities.items lengths.multiplicities i tuple multiplicity lt tuple_is multiplicity_is

  -- there are as many degrees as tuples
  pub length-degrees : (t : ℕ) → length (lookup_branch_degrees t lookup) ≡ length lookup.elements.items
  length-degrees t =
      length-zipped (λ b. branch_degrees t b.0.items b.1) lookup.elements.items lookup.multiplicities.items lengths.multiplicities

module _ {F : Type 0} (R : Ring F) (w : Window F) (id : ℕ) (lookup : Lookup F) (lengths : HasEqualLengths lookup) where
  -- there are as many branches as tuples
  pub length-branches_at : length (branches_at R w id lookup) ≡ length lookup.elements.items
  length-branches_at =
      length-zipped (λ b. branch_at R w id b.0.items b.1) lookup.elements.items lookup.multiplicities.items lengths.multiplicities

  -- one more branch
  pub branches_more : (i : ℕ) (tuple : Vec (SymbolicExpression F) Global) (multiplicity : SymbolicExpression F) → i < length lookup.elements.items → tuple ≡ get_or lookup.elements.items i tuple → multiplicity ≡ get_or lookup.multiplicities.items i multiplicity
      → take (i + 1) (branches_at R w id lookup) ≡ take i (branches_at R w id lookup) ++ branch_at R w id tuple.items multiplicity ∷ []
  branches_more i tuple multiplicity lt tuple_is multiplicity_is =
      zipped_more (λ b. branch_at R w id b.0.items b.1) lookup.elements.items lookup.multiplicities.items lengths.multiplicities i tuple multiplicity lt tuple_is multiplicity_is
