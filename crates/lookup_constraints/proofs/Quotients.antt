-- Quotients of lookups, branch after branch.
use Rattle.std.proofs.Common.{◌≡◌, ◌≤◌, ◌<◌, ◌+◌, ℕ, List, Option, Some, None, max, length, get_or, map, take, ap, sym, ◌∙◌, arith, subst}
use Rattle.std.proofs.lemmas.List.{take_all}
use Rattle.std.specs.Option.{option_map}
use Rattle.std.specs.declared.alloc.Global.{Global}
use Rattle.std.specs.declared.vec.Vec.{Vec}
use Rattle.field.specs.Extension.{Extension}
use Rattle.field.specs.Ring.{IsCommutativeRing}
use Rattle.air_expressions.specs.Window.{ExtWindow, Window}
use Rattle.air_expressions.specs.declared.base_expression.SymbolicExpression.{SymbolicExpression}
use Rattle.air_expressions.specs.declared.view.BuilderView.{Ghosts as BuilderView}
use Rattle.lookup_constraints.specs.Quotients.{IsLookupQuotient, IsQuotientUnder}
use Rattle.lookup_constraints.specs.declared.quotient.Quotient.{Quotient}
use Rattle.lookup_constraints.specs.internal.Meanings.{Meaning, MeansOn, denominator_meaning, lifted_meaning, meaning_of}
use Rattle.lookup_constraints.specs.internal.Quotients.{IsQuotient, additive_meaning, additive_of, plus_fraction, quotient_meaning}
use Rattle.lookup_constraints.specs.internal.Selections.{exclusive_meaning}
use Rattle.lookup_constraints.proofs.Meanings.{On}
use Rattle.lookup_model.specs.Constraints.{additive_denominator, additive_numerator}
use Rattle.lookup_model.specs.Denominators.{column_denominator}
use Rattle.lookup_model.specs.LookupDegree.{BranchDegrees, additive_denominator_degree, additive_numerator_degree, branch_degrees, expression_degree, lookup_branch_degrees}
use Rattle.lookup_model.specs.Message.{Message}
use Rattle.lookup_model.specs.Records.{HasEqualLengths}
use Rattle.lookup_model.specs.Sent.{branch_at, branches_at, values}
use Rattle.lookup_model.specs.declared.types.Lookup.{Lookup}
use Rattle.lookup_model.proofs.Branches.{branches_more, degrees_more, length-branches_at, length-degrees}
use Rattle.lookup_model.proofs.TakenOut.{degrees_push, product_degree-push, product_of-push, sum_of-push}

-- V / U of the first branches of a lookup
abbrev pub additive_up_to : {F K : Type 0} → Extension F K → Lookup F → ℕ → Quotient (Meaning (ExtWindow F K) K)
additive_up_to E lookup i =
    additive_of E lookup.column (λ w. take i (branches_at E.base w lookup.column lookup)) (λ t. take i (lookup_branch_degrees t lookup))

module _ {F K X : Type 0} (E : Extension F K) (laws : IsCommutativeRing E.ring) (value : X → ExtWindow F K → K) (degree : X → ℕ → ℕ) (stands : ExtWindow F K → Type 0) (lookup : Lookup F) (lengths : HasEqualLengths lookup) where
  -- the quotient of one more branch
  pub additive_more : (i : ℕ) (tuple : Vec (SymbolicExpression F) Global) (multiplicity : SymbolicExpression F) → i < length lookup.elements.items → tuple ≡ get_or lookup.elements.items i tuple → multiplicity ≡ get_or lookup.multiplicities.items i multiplicity
      → (q r : Quotient X) → IsQuotient (On value degree stands) (additive_up_to E lookup i) q
      → IsQuotient (On value degree stands) (plus_fraction E.ring (quotient_meaning (meaning_of value degree) q) (lifted_meaning E multiplicity) (denominator_meaning E lookup.column tuple.items)) r
      → IsQuotient (On value degree stands) (additive_up_to E lookup (i + 1)) r
  additive_more i tuple multiplicity lt tuple_is multiplicity_is q r so_far added =
      let p = λ (m : Message F). E.embed m.multiplicity in
      let d = λ (w : ExtWindow F K) (m : Message F). column_denominator E w.challenges lookup.column m.key.tuple in
      let branches = λ (w : ExtWindow F K). take i (branches_at E.base w.base lookup.column lookup) in
      let m = λ (w : ExtWindow F K). branch_at E.base w.base lookup.column tuple.items multiplicity in
      let more = λ (w : ExtWindow F K). branches_more E.base w.base lookup.column lookup lengths i tuple multiplicity lt tuple_is multiplicity_is in
      let bs = λ (t : ℕ). take i (lookup_branch_degrees t lookup) in
      let b = λ (t : ℕ). branch_degrees t tuple.items multiplicity in
      let more_degrees = λ (t : ℕ). degrees_more lookup lengths t i tuple multiplicity lt tuple_is multiplicity_is in record {
        numerator = record {
          means = λ w s.
              added.numerator.means w s
              ∙ (λ k. E.ring.add (E.ring.mul (so_far.numerator.means w s k) (d w (m w))) (E.ring.mul (p (m w)) (so_far.denominator.means w s k)))
              ∙ sym (sum_of-push laws p (d w) (branches w) (m w))
              ∙ ap (additive_numerator E (column_denominator E w.challenges lookup.column)) (sym (more w));
          within = λ t.
              subst (λ (ds : List BranchDegrees). degree r.numerator t ≤ max (additive_denominator_degree ds) (additive_numerator_degree ds)) (sym (more_degrees t))
              (degrees_push (λ x. x.multiplicity) (λ x. x.tuple) (bs t) (b t) _ _ (degree r.numerator t) (so_far.numerator.within t) (so_far.denominator.within t) (added.numerator.within t));
        };
        denominator = record {
          means = λ w s.
              added.denominator.means w s
              ∙ (λ k. E.ring.mul (so_far.denominator.means w s k) (d w (m w)))
              ∙ sym (product_of-push laws p (d w) (branches w) (m w))
              ∙ ap (additive_denominator E (column_denominator E w.challenges lookup.column)) (sym (more w));
          within = λ t.
              subst (λ (ds : List BranchDegrees). degree r.denominator t ≤ additive_denominator_degree ds) (sym (more_degrees t))
              (omega (arith, added.denominator.within t, so_far.denominator.within t, product_degree-push (λ (x : BranchDegrees). x.multiplicity) (λ (x : BranchDegrees). x.tuple) (bs t) (b t)));
        };
      }

  -- the quotient of all branches
  pub additive_all : (i : ℕ) → length lookup.elements.items ≤ i → (q : Quotient X) → IsQuotient (On value degree stands) (additive_up_to E lookup i) q → IsQuotient (On value degree stands) (additive_meaning E lookup) q
  additive_all i covers q so_far =
      let all = λ (w : Window F). take_all i (branches_at E.base w lookup.column lookup) (omega (arith, covers, length-branches_at E.base w lookup.column lookup lengths)) in
      let all_degrees = λ (t : ℕ). take_all i (lookup_branch_degrees t lookup) (omega (arith, covers, length-degrees lookup lengths t)) in
      coe 0 1 (k. IsQuotient (On value degree stands) (additive_of E lookup.column (λ w. all w k) (λ t. all_degrees t k)) q) so_far

module _ {B F K X : Type 0} (view : BuilderView B F K X) (E : Extension F K) (builder : B) (lookup : Lookup F) (q : Quotient X) where
  -- the quotient of the fraction where these are the flags
  abbrev IsUnder : Option (Vec (SymbolicExpression F) Global) → Type 0
  IsUnder flags = IsQuotientUnder view E builder lookup (λ w. option_map (λ fs. values E.base w fs.items) flags) (λ t. option_map (λ fs. map (expression_degree t) fs.items) flags) q

  -- V / U is the quotient of the fraction without flags
  pub quotient_without_flags : lookup.flags ≡ None → IsQuotient (MeansOn view builder) (additive_meaning E lookup) q → IsLookupQuotient view E builder lookup q
  quotient_without_flags none is =
      subst IsUnder (sym none) (record { numerator = is.numerator.means; denominator = is.denominator.means; degree = λ t. omega (arith, is.numerator.within t, is.denominator.within t) })

  -- N / D is that with flags
  pub quotient_with_flags : (flags : Vec (SymbolicExpression F) Global) → lookup.flags ≡ Some flags → (slice : List (SymbolicExpression F)) → slice ≡ flags.items → IsQuotient (MeansOn view builder) (exclusive_meaning E lookup slice) q → IsLookupQuotient view E builder lookup q
  quotient_with_flags flags some slice same is =
      let whole = subst (λ (es : List (SymbolicExpression F)). IsQuotient (MeansOn view builder) (exclusive_meaning E lookup es) q) same is in
      subst IsUnder (sym some) (record { numerator = whole.numerator.means; denominator = whole.denominator.means; degree = λ t. omega (arith, whole.numerator.within t, whole.denominator.within t) })
