-- How many pairs of a grid of challenges are accepted.
use Rattle.std.specs.Prelude.{◌≡◌, ◌+◌, ◌-◌, ◌*◌, ◌<◌, ◌≤◌, ◌⊎◌, ℕ, List, [], ◌∷◌, length, map}
use Rattle.std.specs.List.{AllByRecursion, flat_map}
use Rattle.field.specs.Distinct.{IsAmong, IsDistinct}
use Rattle.field.specs.Extension.{Extension}
use Rattle.lookup_model.specs.Batches.Counts.{IsAccepting, bad_beta_bound, message_count, unbalanced_count}
use Rattle.lookup_model.specs.Batches.Instances.{Instance}

-- exactly n of the items have the property
abbrev pub IsNumberOf : {A : Type 0} → (A → Type 0) → List A → ℕ → Type 0
IsNumberOf P [] n = n ≡ 0
IsNumberOf P (x ∷ xs) n = ((m : ℕ) × (n ≡ m + 1) × P x × IsNumberOf P xs m) ⊎ ((¬ P x) × IsNumberOf P xs n)

-- each alpha with each beta, beta by beta
abbrev pub grid : {A B : Type 0} → List A → List B → List (A × B)
grid alphas betas = flat_map (λ beta. map (λ alpha. (alpha, beta)) alphas) betas

module _ {F K : Type 0} (E : Extension F K) (instances : List (Instance F)) (W : ℕ) where
  -- at this alpha and beta some witness, whoever makes it, is accepted
  abbrev pub AcceptsPair : K × K → Type 0
  AcceptsPair pair = IsAccepting E instances W pair.1 pair.0

  -- The joint bound of a grid: a bad beta can have all alphas accepting, and every other one has at
  -- most n + k - 1 of them.
  abbrev pub joint_bound : ℕ → ℕ → ℕ
  joint_bound alphas betas = bad_beta_bound E instances W * alphas + (message_count E instances + unbalanced_count E instances - 1) * betas

  -- If k is above zero, at most that many pairs of distinct alphas and betas are accepted.
  abbrev pub FewAcceptedPairs : Type 0
  FewAcceptedPairs =
      0 < unbalanced_count E instances → (alphas betas : List K) → IsDistinct alphas → IsDistinct betas
      → (n : ℕ) → IsNumberOf AcceptsPair (grid alphas betas) n → n ≤ joint_bound (length alphas) (length betas)

  -- an accepted pair of a grid
  abbrev pub IsAcceptedOf : List K → List K → K × K → Type 0
  IsAcceptedOf alphas betas pair = IsAmong pair.0 alphas × IsAmong pair.1 betas × AcceptsPair pair

  -- The same of lists of pairs: if k is above zero, every distinct list of accepted pairs of the grid of
  -- distinct alphas and betas has at most that many items.
  abbrev pub IsJointlySound : Type 0
  IsJointlySound =
      0 < unbalanced_count E instances → (alphas betas : List K) → IsDistinct alphas → IsDistinct betas
      → (pairs : List (K × K)) → IsDistinct pairs → AllByRecursion (IsAcceptedOf alphas betas) pairs → length pairs ≤ joint_bound (length alphas) (length betas)
