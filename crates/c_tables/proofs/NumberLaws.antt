-- Numbers that are read one after another.
use Rattle.std.proofs.Common.{◌≡◌, ◌⊎◌, ◌<◌, ◌≤◌, ◌+◌, ◌∙◌, ℕ, List, Some, inl, inr, arith, get_or, length, max, slice_index, subst, sym}
use Rattle.std.proofs.lemmas.Bool.{cases_lt}
use Rattle.std.proofs.lemmas.Option.{slice_get-get_or}
use Rattle.std.specs.List.{slice_get}
use Rattle.c_tables.specs.Numbers.{AreNumberGroupsBelow, AreNumbersBelow, IsFirstLargeNumberGroup, IsNumberGroup}
use Rattle.c_tables.specs.internal.Numbers.{AreNumbersUpTo}

-- the greatest number so far, with one number more
pub greatest_next : (numbers : List ℕ) (i g : ℕ) → AreNumbersUpTo g i numbers → AreNumbersUpTo (max g (slice_index numbers i)) (i + 1) numbers
greatest_next numbers i g so_far k below = by_place (cases_lt k i)
  where
    by_place : (k < i) ⊎ (i ≤ k) → slice_index numbers k ≤ max g (slice_index numbers i)
    by_place (inl earlier) = omega (arith, so_far k earlier)
    by_place (inr late) =
        let same : k ≡ i = omega (arith, late, below) in
        subst (λ (n : ℕ). slice_index numbers n ≤ max g (slice_index numbers i)) (sym same) (omega arith)

module _ (p : ℕ) where
  -- one number more
  pub numbers_next : (numbers : List ℕ) (i : ℕ) → slice_index numbers i < p → AreNumbersBelow p i numbers → AreNumbersBelow p (i + 1) numbers
  numbers_next numbers i here so_far k below = by_place (cases_lt k i)
    where
      by_place : (k < i) ⊎ (i ≤ k) → slice_index numbers k < p
      by_place (inl earlier) = so_far k earlier
      by_place (inr late) =
          let same : k ≡ i = omega (arith, late, below) in
          subst (λ (n : ℕ). slice_index numbers n < p) (sym same) here

  -- one group more
  pub groups_next : (groups : List (List ℕ)) (i : ℕ) (group : List ℕ) → slice_get groups i ≡ Some group → IsNumberGroup p group → AreNumberGroupsBelow p i groups → AreNumberGroupsBelow p (i + 1) groups
  groups_next groups i group is_there here so_far k other below there = by_place (cases_lt k i)
    where
      by_place : (k < i) ⊎ (i ≤ k) → IsNumberGroup p other
      by_place (inl earlier) = so_far k other earlier there
      by_place (inr late) =
          subst (IsNumberGroup p) (cc (sym is_there ∙ (subst (λ (n : ℕ). slice_get groups n ≡ Some other) (omega (arith, late, below)) there))) here

  -- A group that is none is the first one, if those before it are.
  pub first_large_group : (groups : List (List ℕ)) (i : ℕ) (d : List ℕ) → i < length groups → ¬ IsNumberGroup p (get_or groups i d) → AreNumberGroupsBelow p i groups → IsFirstLargeNumberGroup p groups i
  first_large_group groups i d there large before = record {
    group = get_or groups i d;
    is_there = slice_get-get_or groups i d there;
    large = large;
    before = before;
  }
