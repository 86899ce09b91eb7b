-- The first item of a list with a fault: as a loop finds it, and in lists that are put together.
use Rattle.std.proofs.Common.{◌≡◌, ◌∙◌, ◌∷◌, ◌++◌, ◌<◌, ◌+◌, zero, suc, [], ℕ, All, List, Some, arith, drop, get_or, length, refl, sym, subst, take}
use Rattle.std.proofs.lemmas.List.{append_assoc, get_or-take, length-take}
use Rattle.std.proofs.lemmas.Option.{get_or_from_slice_get, slice_get-get_or, slice_get_within}
use Rattle.std.specs.List.{AllByRecursion, slice_get}
use Rattle.list_laws.proofs.Items.{slice_get-front, some_is, split_at}
use Rattle.air_expressions.specs.Faults.{HasFirstFault, SplitsAtFault}

-- an item has a fault, and those before it are good
pub first_fault : {X : Type 0} (IsGood : X → Type 0) (IsFault : ℕ → X → Type 0) (xs : List X) (i : ℕ) (d : X) → i < length xs → All IsGood (take i xs) → IsFault i (get_or xs i d) → HasFirstFault IsGood IsFault xs
first_fault IsGood IsFault xs i d there good fault = record {
  index = i;
  item = get_or xs i d;
  is_there = slice_get-get_or xs i d there;
  before = λ k other lt is.
      let within : k < length (take i xs) = omega (arith, length-take i xs, slice_get_within xs k other is) in
      subst IsGood (get_or-take i xs k other lt ∙ get_or_from_slice_get xs k other other is) (good k other within);
  fault = fault;
}

-- the same of a list that is split there
pub split_fault : {X : Type 0} (AreGood : List X → Type 0) (IsFault : List X → X → Type 0) (xs : List X) (i : ℕ) (x : X) → i < length xs → x ≡ get_or xs i x → AreGood (take i xs) → IsFault (take i xs) x → SplitsAtFault AreGood IsFault xs
split_fault AreGood IsFault xs i x lt is good fault = record {
  before = take i xs;
  item = x;
  after = drop (i + 1) xs;
  split = split_at xs i x lt is ∙ append_assoc (take i xs) (x ∷ []) (drop (i + 1) xs);
  good = good;
  fault = fault;
}

module _ {X : Type 0} (IsGood : X → Type 0) (IsFault : X → Type 0) where
  -- of a list of one item
  pub fault_here : (x : X) → IsFault x → HasFirstFault IsGood (λ _. IsFault) (x ∷ [])
  fault_here x fault = record { index = 0; item = x; is_there = refl; before = λ i other lt. absurd (omega (arith, lt)); fault = fault }

  -- it is the first whatever comes behind
  pub fault_sooner : (xs ys : List X) → HasFirstFault IsGood (λ _. IsFault) xs → HasFirstFault IsGood (λ _. IsFault) (xs ++ ys)
  fault_sooner xs ys first =
      let within = slice_get_within xs first.index first.item first.is_there in
      record {
        index = first.index;
        item = first.item;
        is_there = slice_get-front xs ys first.index within ∙ first.is_there;
        before = λ i other lt there. first.before i other lt (sym (slice_get-front xs ys i (omega (arith, lt, within))) ∙ there);
        fault = first.fault;
      }

  -- and behind items that are good
  pub fault_later : (xs ys : List X) → AllByRecursion IsGood xs → HasFirstFault IsGood (λ _. IsFault) ys → HasFirstFault IsGood (λ _. IsFault) (xs ++ ys)
  fault_later [] ys good first = first
  fault_later (x ∷ xs) ys good first =
      let rest = fault_later xs ys good.1 first in
      record { index = suc rest.index; item = rest.item; is_there = rest.is_there; before = at rest; fault = rest.fault }
    where
      at : (rest : HasFirstFault IsGood (λ _. IsFault) (xs ++ ys)) (i : ℕ) (other : X) → i < suc rest.index → slice_get (x ∷ xs ++ ys) i ≡ Some other → IsGood other
      at rest zero other lt there = subst IsGood (some_is x other there) good.0
      at rest (suc i) other lt there = rest.before i other (omega (arith, lt)) there
