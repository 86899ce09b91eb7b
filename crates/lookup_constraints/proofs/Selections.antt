-- The sums over the branches of an exclusive lookup, branch after branch.
use Rattle.std.proofs.Common.{◌≡◌, ◌≤◌, ◌<◌, ◌+◌, ℕ, zero, suc, List, [], ◌∷◌, ◌++◌, max, length, get_or, map, take, refl, ap, sym, ◌∙◌, arith, subst}
use Rattle.std.proofs.lemmas.List.{length-map, map_push, take_more}
use Rattle.std.specs.List.{zip}
use Rattle.std.specs.declared.alloc.Global.{Global}
use Rattle.std.specs.declared.vec.Vec.{Vec}
use Rattle.list_laws.proofs.Images.{mapped_at}
use Rattle.list_laws.proofs.Zips.{zipped_at, zipped_more}
use Rattle.field.specs.Extension.{Extension}
use Rattle.field.specs.Ring.{Ring, IsCommutativeRing}
use Rattle.field.specs.Sums.{sum_in}
use Rattle.air_expressions.specs.Window.{ExtWindow}
use Rattle.air_expressions.specs.declared.base_expression.SymbolicExpression.{SymbolicExpression}
use Rattle.lookup_constraints.specs.declared.exclusive.Selection.{Selection}
use Rattle.lookup_constraints.specs.internal.Meanings.{denominator_meaning, lifted_meaning, meaning_of}
use Rattle.lookup_constraints.specs.internal.Selections.{IsSelection, branch_sums, plus_branch, selection_meaning}
use Rattle.lookup_constraints.proofs.Meanings.{On}
use Rattle.lookup_model.specs.Denominators.{column_denominator}
use Rattle.lookup_model.specs.LookupDegree.{BranchDegrees, branch_degrees, expression_degree, greatest, lookup_branch_degrees}
use Rattle.lookup_model.specs.Message.{Message}
use Rattle.lookup_model.specs.Records.{HasEqualLengths}
use Rattle.lookup_model.specs.Sent.{branch_at, branches_at, value}
use Rattle.lookup_model.specs.declared.types.Lookup.{Lookup}
use Rattle.lookup_model.proofs.Branches.{length-branches_at, length-degrees}
use Rattle.lookup_model.proofs.DegreeBounds.{greatest_of_front, greatest_of_last}
use Rattle.lookup_model.proofs.SumLaws.{sum_in-push}

module _ {A B C D : Type 0} (f : A → C) (h : C × B → D) where
  -- pairs with the first items are the first pairs
  first_pairs : (xs : List A) (ys : List B) (i : ℕ) → map h (zip (map f (take i xs)) ys) ≡ take i (map h (zip (map f xs) ys))
  first_pairs xs ys zero = refl
  first_pairs [] ys (suc i) = refl
  first_pairs (x ∷ xs) [] (suc i) = refl
  first_pairs (x ∷ xs) (y ∷ ys) (suc i) = ap (λ ds. h (f x, y) ∷ ds) (first_pairs xs ys i)

  -- one more pair
  pairs_more : (xs : List A) (ys : List B) → length ys ≡ length xs → (i : ℕ) (x : A) (y : B) → i < length xs → x ≡ get_or xs i x → y ≡ get_or ys i y → map h (zip (map f (take (i + 1) xs)) ys) ≡ map h (zip (map f (take i xs)) ys) ++ h (f x, y) ∷ []
  pairs_more xs ys same i x y lt x_is y_is =
      first_pairs xs ys (i + 1)
      ∙ zipped_more h (map f xs) ys (same ∙ sym (length-map xs f)) i (f x) y (omega (arith, length-map xs f)) (mapped_at f xs i x lt x_is) y_is
      ∙ ap (λ ds. ds ++ h (f x, y) ∷ []) (sym (first_pairs xs ys i))

-- a sum with one more item
sum_more : {K : Type 0} {S : Ring K} → IsCommutativeRing S → (longer shorter : List K) (x sum next : K) → longer ≡ shorter ++ x ∷ [] → sum ≡ sum_in S shorter → next ≡ S.add sum x → next ≡ sum_in S longer
sum_more {S = S} laws longer shorter x sum next longer_is so_far next_is =
    next_is ∙ ap (λ s. S.add s x) so_far ∙ sym (sum_in-push laws shorter x) ∙ ap (sum_in S) (sym longer_is)

-- a greatest number with one more number
greatest_with : (longer shorter : List ℕ) (n sum next : ℕ) → longer ≡ shorter ++ n ∷ [] → sum ≤ greatest shorter → next ≤ max sum n → next ≤ greatest longer
greatest_with longer shorter n sum next longer_is so_far next_is =
    subst (λ (ns : List ℕ). next ≤ greatest ns) (sym longer_is) (omega (arith, so_far, next_is, greatest_of_last shorter n, greatest_of_front shorter n))

module _ {F K X : Type 0} (E : Extension F K) (laws : IsCommutativeRing E.ring) (value_of : X → ExtWindow F K → K) (degree : X → ℕ → ℕ) (stands : ExtWindow F K → Type 0) (lookup : Lookup F) (lengths : HasEqualLengths lookup) (flags : List (SymbolicExpression F)) (flag_number : length flags ≡ length lookup.elements.items) where
  -- the sums of one more branch
  pub branch_sums_more : (i : ℕ) (flag : SymbolicExpression F) (tuple : Vec (SymbolicExpression F) Global) (multiplicity : SymbolicExpression F) → i < length flags → flag ≡ get_or flags i flag → tuple ≡ get_or lookup.elements.items i tuple → multiplicity ≡ get_or lookup.multiplicities.items i multiplicity
      → (s r : Selection X) → IsSelection (On value_of degree stands) (branch_sums E lookup (take i flags)) s
      → IsSelection (On value_of degree stands) (plus_branch E.ring (selection_meaning (meaning_of value_of degree) s) (lifted_meaning E flag) (lifted_meaning E multiplicity) (denominator_meaning E lookup.column tuple.items)) r
      → IsSelection (On value_of degree stands) (branch_sums E lookup (take (i + 1) flags)) r
  branch_sums_more i flag tuple multiplicity lt flag_is tuple_is multiplicity_is s r so_far added =
      let look = λ (w : ExtWindow F K). value E.base w.base in
      let branches = λ (w : ExtWindow F K). branches_at E.base w.base lookup.column lookup in
      let m = λ (w : ExtWindow F K). branch_at E.base w.base lookup.column tuple.items multiplicity in
      let tuples_lt : i < length lookup.elements.items = omega (arith, lt, flag_number) in
      let branch_is = λ (w : ExtWindow F K). zipped_at (λ b. branch_at E.base w.base lookup.column b.0.items b.1) lookup.elements.items lookup.multiplicities.items lengths.multiplicities i tuple multiplicity tuples_lt tuple_is multiplicity_is in
      let pairs = λ (w : ExtWindow F K) (h : F × Message F → K). pairs_more (look w) h flags (branches w) (length-branches_at E.base w.base lookup.column lookup lengths ∙ sym flag_number) i flag (m w) lt flag_is (branch_is w) in
      let set = λ (w : ExtWindow F K). ap (map E.embed) (ap (map (look w)) (take_more flags i flag lt ∙ ap (λ t. take i flags ++ t ∷ []) (sym flag_is)) ∙ map_push (look w) (take i flags) flag) ∙ map_push E.embed (map (look w) (take i flags)) (look w flag) in
      let b = λ (t : ℕ). branch_degrees t tuple.items multiplicity in
      let degree_is = λ (t : ℕ). zipped_at (λ x. branch_degrees t x.0.items x.1) lookup.elements.items lookup.multiplicities.items lengths.multiplicities i tuple multiplicity tuples_lt tuple_is multiplicity_is in
      let degrees = λ (t : ℕ) (h : ℕ × BranchDegrees → ℕ). pairs_more (expression_degree t) h flags (lookup_branch_degrees t lookup) (length-degrees lookup lengths t ∙ sym flag_number) i flag (b t) lt flag_is (degree_is t) in record {
        numerator = record {
          means = λ w at. sum_more laws _ _ _ _ _ (pairs w (λ p. E.ring.mul (E.embed p.0) (E.embed p.1.multiplicity))) (so_far.numerator.means w at) (added.numerator.means w at);
          within = λ t. greatest_with _ _ _ _ _ (degrees t (λ x. x.0 + x.1.multiplicity)) (so_far.numerator.within t) (added.numerator.within t);
        };
        denominator = record {
          means = λ w at. sum_more laws _ _ _ _ _ (pairs w (λ p. E.ring.mul (E.embed p.0) (column_denominator E w.challenges lookup.column p.1.key.tuple))) (so_far.denominator.means w at) (added.denominator.means w at);
          within = λ t. greatest_with _ _ _ _ _ (degrees t (λ x. max (x.0 + x.1.tuple) x.0)) (so_far.denominator.within t) (omega (arith, added.denominator.within t));
        };
        flags = record {
          means = λ w at. sum_more laws _ _ _ _ _ (set w) (so_far.flags.means w at) (added.flags.means w at);
          within = λ t. greatest_with _ _ _ _ _ (degrees t (λ x. max (x.0 + x.1.tuple) x.0)) (so_far.flags.within t) (omega (arith, added.flags.within t));
        };
      }
