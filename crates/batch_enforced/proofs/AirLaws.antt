-- The AIRs of a plan beside their constraints, one after another.
use Rattle.std.proofs.Common.{◌≡◌, ◌<◌, ◌&&◌, ℕ, Bool, false, true, IsNone, IsTrue, None, Some, Option, List, get_or, length, not, refl, slice_get, sym, arith}
use Rattle.std.proofs.lemmas.List.{get_or_default, length-map}
use Rattle.std.proofs.lemmas.Slice.Zip.{length-zip}
use Rattle.std.specs.List.{zip}
use Rattle.std.specs.Option.{IfSome, is_some}
use Rattle.std.specs.declared.alloc.Global.{Global}
use Rattle.std.specs.declared.vec.Vec.{Vec}
use Rattle.list_laws.proofs.Images.{mapped_at}
use Rattle.list_laws.proofs.Zips.{pair_at, zip_at}
use Rattle.air_expressions.specs.declared.base_expression.SymbolicExpression.{SymbolicExpression}
use Rattle.batch_enforced.specs.EnforcedPlans.{constrained_airs, constraints_of}
use Rattle.lookup.specs.declared.lookups.Lookups.{Lookups}

module _ {F : Type 0} (constraints : List (Vec (SymbolicExpression F) Global)) (airs : List (Lookups F)) (heights : List ℕ)
    (high : length heights ≡ length airs) (many : length constraints ≡ length airs) where
  -- there is one entry for each AIR
  pub length_airs : length (constrained_airs (constraints_of constraints) airs heights) ≡ length airs
  length_airs = omega (arith, high, many, length-map constraints (λ list. list.items), length-zip (constraints_of constraints) (zip airs heights), length-zip airs heights)

  -- that of an AIR
  pub air_there : (i : ℕ) (list : Vec (SymbolicExpression F) Global) (air : Lookups F) → i < length airs → list ≡ get_or constraints i list → air ≡ get_or airs i air
      → slice_get (constrained_airs (constraints_of constraints) airs heights) i ≡ Some (list.items, (air, get_or heights i 0))
  air_there i list air lt list_is air_is =
      let height = get_or heights i 0 in
      let within : i < length heights = omega (arith, lt, high) in
      pair_at (constraints_of constraints) (zip airs heights) i list.items (air, height) (omega (arith, lt, many, length-map constraints (λ l. l.items))) (omega (arith, lt, high, length-zip airs heights))
      (mapped_at (λ l. l.items) constraints i list (omega (arith, lt, many)) list_is)
      (zip_at airs heights i air height (sym high) lt air_is (get_or_default heights i 0 height within))

-- there are flags, if something is missing of them
pub there_if_missing : {A B : Type 0} (o : Option A) (m : Option B) (b : B) → (IsNone o → IsNone m) → m ≡ Some b → is_some o ≡ true
there_if_missing None m b plain is = absurd (cc (plain refl, is))
there_if_missing (Some a) m b plain is = refl

-- nothing is asked of a lookup without flags
pub without_flags : {X : Type 0} (P : X → Type 0) (o : Option X) → IsNone o → IfSome o P
without_flags P None none = tt
without_flags P (Some x) none = absurd (cc none)
