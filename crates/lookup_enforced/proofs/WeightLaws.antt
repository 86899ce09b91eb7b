-- Roles of tuples whose multiplicities are within bounds, and the weight that they keep.
use Rattle.std.proofs.Common.{◌≡◌, ◌≤◌, ℕ, suc, Bool, true, false, IsTrue, cond, ◌&&◌, Option, None, Some, List, [], ◌∷◌, All, length, map, refl, ap, arith}
use Rattle.std.proofs.lemmas.List.Sums.{sum_by-cons}
use Rattle.std.specs.List.{AllByRecursion, AllZip, filter, sum_by, zip}
use Rattle.std.specs.Option.{IfSome, is_some, option_map}
use Rattle.std.specs.declared.alloc.Global.{Global}
use Rattle.std.specs.declared.vec.Vec.{Vec}
use Rattle.list_laws.proofs.Zips.{AllZip-filter, AllZip-images, AllZip-weaker, AllZip-zip}
use Rattle.air_constraints.specs.Hold.{Hold, IsRowOf}
use Rattle.air_expressions.specs.Window.{Window}
use Rattle.air_expressions.specs.declared.base_expression.SymbolicExpression.{SymbolicExpression}
use Rattle.field.specs.Ring.{Ring, of_int}
use Rattle.lookup.specs.Weights.{HasRole, Role, size_of_role}
use Rattle.air_constraints.specs.Bounds.{IsWithin}
use Rattle.lookup_enforced.specs.Enforced.{EnforcesWeight, HoldsOnRows, IsEnforcement, IsWithinBound, sent_items}
use Rattle.lookup_enforced.specs.Weights.{AreWithin, HasBound, StaysWithinWeight, query_bound}
use Rattle.lookup_enforced.specs.declared.enforcement.Enforcement.{Enforcement}
use Rattle.lookup_model.proofs.Lookups.Selections.{chosen_few}
use Rattle.lookup_model.specs.Fault.{IsLawfulSelection}
use Rattle.lookup_model.specs.Message.{Message}
use Rattle.lookup_model.specs.Sent.{branch_at, branches_at, chosen_branches, flags_at, sent, value, values}
use Rattle.lookup_model.specs.declared.types.Lookup.{Lookup}

module _ {F : Type 0} (R : Ring F) where
  -- an element is the number of a query
  abbrev IsNumberOf : F → Role → Type 0
  IsNumberOf a role = IfSome role (λ z. a ≡ of_int R z)

  -- no role is greater than its bound
  abbrev AreSmall : List Role → List (Option ℕ × Bool) → Type 0
  AreSmall roles bounds = AllZip (λ role b. size_of_role role ≤ query_bound b) roles bounds

  module _ {A : Type 0} (at : A → F) where
    -- roles of items: queries are told, their numbers are those of the items, and none is greater than its bound
    record Roles (items : List A) (bounds : List (Option ℕ)) (queries : List Bool) : Type 0 where
      pub roles : List Role
      pub told : map is_some roles ≡ queries
      pub numbers : AllZip (λ item role. IsNumberOf (at item) role) items roles
      pub small : AreSmall roles (zip bounds queries)

    roles_of : (items : List A) (bounds : List (Option ℕ)) (queries : List Bool) → length queries ≡ length bounds
        → AllZip (λ item b. IfSome b (λ n. IsWithin R n (at item))) items bounds → All HasBound (zip bounds queries) → Roles items bounds queries
    roles_of [] [] [] same within bounded = record { roles = []; told = refl; numbers = tt; small = tt }
    roles_of (x ∷ xs) (b ∷ bs) (false ∷ qs) same within bounded =
        let rest = roles_of xs bs qs (omega (arith, same)) within.1 (λ k d lt. bounded (suc k) d (omega (arith, lt))) in
        record { roles = None ∷ rest.roles; told = ap (λ t. false ∷ t) rest.told; numbers = (tt, rest.numbers); small = (omega arith, rest.small) }
    roles_of (x ∷ xs) (Some n ∷ bs) (true ∷ qs) same within bounded =
        let rest = roles_of xs bs qs (omega (arith, same)) within.1 (λ k d lt. bounded (suc k) d (omega (arith, lt))) in
        record { roles = Some within.0.number ∷ rest.roles; told = ap (λ t. true ∷ t) rest.told; numbers = (within.0.is, rest.numbers); small = (within.0.most, rest.small) }
    roles_of (x ∷ xs) (None ∷ bs) (true ∷ qs) same within bounded = absurd (let none = bounded 0 (None, true) (omega arith) in cc)
    roles_of items bounds queries same within bounded = absurd (omega (arith, same))

-- roles that are small add up to no more than their bounds
small_sum : (roles : List Role) (bounds : List (Option ℕ × Bool)) → AllZip (λ role b. size_of_role role ≤ query_bound b) roles bounds → sum_by size_of_role roles ≤ sum_by query_bound bounds
small_sum [] [] small = omega arith
small_sum (r ∷ rs) (b ∷ bs) small =
    omega (arith, small.0, small_sum rs bs small.1, sum_by-cons size_of_role r rs, sum_by-cons query_bound b bs)
small_sum roles bounds small = absurd small

-- each is within a weight, if its bound is
small_each : (weight : ℕ) (roles : List Role) (bounds : List (Option ℕ × Bool)) → AllZip (λ role b. size_of_role role ≤ query_bound b) roles bounds → All (λ b. HasBound b × (query_bound b ≤ weight)) bounds
    → AllByRecursion (λ role. size_of_role role ≤ weight) roles
small_each weight [] [] small all = tt
small_each weight (r ∷ rs) (b ∷ bs) small all =
    (omega (arith, small.0, (all 0 b (omega arith)).1), small_each weight rs bs small.1 (λ k d lt. all (suc k) d (omega (arith, lt))))
small_each weight roles bounds small all = absurd small

-- at most one that is within a weight adds up to no more
few_sum : (weight : ℕ) (roles : List Role) → AllByRecursion (λ role. size_of_role role ≤ weight) roles → length roles ≤ 1 → sum_by size_of_role roles ≤ weight
few_sum weight [] small few = omega arith
few_sum weight (r ∷ []) small few = omega (arith, small.0, sum_by-cons size_of_role r [])
few_sum weight (r ∷ s ∷ rs) small few = absurd (omega (arith, few))

-- each query has a bound
have_bounds : (each : Bool) (bounds : List (Option ℕ × Bool)) (weight : ℕ) → AreWithin each bounds weight → All HasBound bounds
have_bounds true bounds weight within = λ k d lt. (within k d lt).0
have_bounds false bounds weight within = within.0

module _ {F : Type 0} (R : Ring F) (eq : F → F → Bool) where
  -- what is chosen of two lists goes together as they do
  chosen_both : {A B : Type 0} (P : A → B → Type 0) (flags : List F) (xs : List A) (ys : List B) → AllZip P xs ys → AllZip P (chosen_branches R eq flags xs) (chosen_branches R eq flags ys)
  chosen_both {A} {B} P flags xs ys both =
      let left = filter (λ (b : F × A). eq b.0 R.one) (zip flags xs) in
      let right = filter (λ (b : F × B). eq b.0 R.one) (zip flags ys) in
      let Same : F × A → F × B → Type 0 = λ p q. (p.0 ≡ q.0) × P p.1 q.1 in
      let kept = AllZip-filter Same (λ b. eq b.0 R.one) (λ b. eq b.0 R.one) (λ p q e. ap (λ f. eq f R.one) e.0) (zip flags xs) (zip flags ys) (AllZip-zip P flags xs ys both) in
      AllZip-images P (λ b. b.1) (λ b. b.1) left right (AllZip-weaker Same (λ p q. P p.1 q.1) (λ p q e. e.1) left right kept)

  -- the roles whose flags are set, with these
  abbrev set_roles : List F → List Role → List (F × Role)
  set_roles flags roles = filter (λ b. eq b.0 R.one) (zip flags roles)

  -- what is chosen adds up to no more
  chosen_sum : (flags : List F) (roles : List Role) → sum_by size_of_role (chosen_branches R eq flags roles) ≤ sum_by size_of_role roles
  chosen_sum [] roles = omega arith
  chosen_sum (f ∷ fs) [] = omega arith
  chosen_sum (f ∷ fs) (r ∷ rs) = by_test (eq f R.one) (chosen_sum fs rs)
    where
      by_test : (t : Bool) → sum_by size_of_role (map (λ b. b.1) (set_roles fs rs)) ≤ sum_by size_of_role rs → sum_by size_of_role (map (λ (b : F × Role). b.1) (cond t ((f, r) ∷ set_roles fs rs) (set_roles fs rs))) ≤ sum_by size_of_role (r ∷ rs)
      by_test true le = omega (arith, le, sum_by-cons size_of_role r rs, sum_by-cons size_of_role r (map (λ (b : F × Role). b.1) (set_roles fs rs)))
      by_test false le = omega (arith, le, sum_by-cons size_of_role r rs)

  -- what holds of each holds of each that is chosen
  chosen_each : (P : Role → Type 0) (flags : List F) (roles : List Role) → AllByRecursion P roles → AllByRecursion P (chosen_branches R eq flags roles)
  chosen_each P [] roles all = tt
  chosen_each P (f ∷ fs) [] all = tt
  chosen_each P (f ∷ fs) (r ∷ rs) all = by_test (eq f R.one) (chosen_each P fs rs all.1)
    where
      by_test : (t : Bool) → AllByRecursion P (map (λ b. b.1) (set_roles fs rs)) → AllByRecursion P (map (λ (b : F × Role). b.1) (cond t ((f, r) ∷ set_roles fs rs) (set_roles fs rs)))
      by_test true later = (all.0, later)
      by_test false later = later

  -- the messages that are sent have the roles that are
  sent_divided : (flags : Option (List F)) (branches : List (Message F)) (roles : List Role) → AllZip (HasRole R) branches roles → AllZip (HasRole R) (sent R eq flags branches).messages (sent_items R eq flags roles)
  sent_divided None branches roles divided = divided
  sent_divided (Some flags) branches roles divided = chosen_both (HasRole R) flags branches roles divided

  module _ (w : Window F) where
    -- the branches have the roles of the multiplicities
    branches_divided : (id : ℕ) (elements : List (Vec (SymbolicExpression F) Global)) (multiplicities : List (SymbolicExpression F)) (roles : List Role) → length multiplicities ≡ length elements
        → AllZip (λ m role. IsNumberOf R (value R w m) role) multiplicities roles → AllZip (HasRole R) (map (λ b. branch_at R w id b.0.items b.1) (zip elements multiplicities)) roles
    branches_divided id [] [] [] same are = tt
    branches_divided id (e ∷ es) (m ∷ ms) (r ∷ rs) same are = (are.0, branches_divided id es ms rs (omega (arith, same)) are.1)
    branches_divided id [] [] (r ∷ rs) same are = absurd are
    branches_divided id [] (m ∷ ms) roles same are = absurd (omega (arith, same))
    branches_divided id (e ∷ es) [] roles same are = absurd (omega (arith, same))
    branches_divided id (e ∷ es) (m ∷ ms) [] same are = absurd are

    -- the roles that are sent are within the weight
    sent_within : (flags : Option (Vec (SymbolicExpression F) Global)) (shown : Bool) (roles : List Role) (bounds : List (Option ℕ × Bool)) (weight : ℕ)
        → AllZip (λ role b. size_of_role role ≤ query_bound b) roles bounds → AreWithin (is_some flags && shown) bounds weight
        → (IsTrue shown → IfSome flags (λ fs. IsLawfulSelection R eq (values R w fs.items)))
        → sum_by size_of_role (sent_items R eq (option_map (λ fs. values R w fs.items) flags) roles) ≤ weight
    sent_within None shown roles bounds weight small within lawful = omega (arith, small_sum roles bounds small, within.1)
    sent_within (Some flags) true roles bounds weight small within lawful =
        let fs = values R w flags.items in
        let each = chosen_each (λ role. size_of_role role ≤ weight) fs roles (small_each weight roles bounds small within) in
        few_sum weight (chosen_branches R eq fs roles) each (omega (arith, chosen_few R eq 0 fs roles, (lawful refl).1))
    sent_within (Some flags) false roles bounds weight small within lawful =
        omega (arith, chosen_sum (values R w flags.items) roles, small_sum roles bounds small, within.1)

  module _ (height : ℕ) (constraints : List (SymbolicExpression F)) (w : Window F) (row : IsRowOf height w) (hold : Hold R w constraints) where
    within_at : (m : SymbolicExpression F) (b : Option ℕ) → IfSome b (IsWithinBound R height constraints m) → IfSome b (λ n. IsWithin R n (value R w m))
    within_at m None within = tt
    within_at m (Some n) within = within w row hold

    lawful_at : (flags : Option (Vec (SymbolicExpression F) Global)) → IfSome flags (λ fs. HoldsOnRows R height constraints (λ v. IsLawfulSelection R eq (values R v fs.items)))
        → IfSome flags (λ fs. IsLawfulSelection R eq (values R w fs.items))
    lawful_at None lawful = tt
    lawful_at (Some fs) lawful = lawful w row hold

  -- bounds that stay within the weight enforce it
  pub kept : (lookup : Lookup F) (e : Enforcement) (queries : List Bool) → StaysWithinWeight lookup e queries
      → (height : ℕ) (constraints : List (SymbolicExpression F)) → IsEnforcement R eq height constraints lookup e → EnforcesWeight R eq height constraints lookup queries
  kept lookup e queries stays height constraints shown = λ w row hold.
      let each = is_some lookup.flags && e.flags in
      let bounds = zip e.bounds.items queries in
      let within = AllZip-weaker (λ m b. IfSome b (IsWithinBound R height constraints m)) (λ m b. IfSome b (λ n. IsWithin R n (value R w m))) (within_at height constraints w row hold) lookup.multiplicities.items e.bounds.items shown.bounds in
      let found = roles_of R (value R w) lookup.multiplicities.items e.bounds.items queries stays.bounds_are within (have_bounds each bounds lookup.count_weight stays.within) in (
        found.roles,
        found.told,
        λ id. record {
          divided = sent_divided (flags_at R w lookup) (branches_at R w id lookup) found.roles (branches_divided w id lookup.elements.items lookup.multiplicities.items found.roles stays.lengths.multiplicities found.numbers);
          within = sent_within w lookup.flags e.flags found.roles bounds lookup.count_weight found.small stays.within (λ t. lawful_at height constraints w row hold lookup.flags (shown.flags t));
        },
      )
