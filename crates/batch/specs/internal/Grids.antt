-- The count of a grid over a batch, and its bound from the counts of the batch.
use Rattle.std.specs.Prelude.{◌≡◌, ◌⊎◌, ◌+◌, ◌*◌, ◌^◌, ◌≤◌, ℕ, List, Option, None, Some, Result, MatchResult}
use Rattle.field.specs.Extension.{Extension}
use Rattle.lookup_model.specs.Batches.Instances.{Instance}
use Rattle.lookup_model.specs.Batches.Messages.{AreFlagsLawful}
use Rattle.batch.specs.Grids.{HaveNoRepeat, IsGridCount, IsGridRefusal}
use Rattle.batch.specs.declared.error.BatchError.{BatchError}
use Rattle.batch.specs.declared.error.BatchError.TheVariants.{CountOverflow, Memory}
use Rattle.batch.specs.declared.grid.GridCount.{GridCount}

module _ {F K : Type 0} (E : Extension F K) (instances : List (Instance F)) (W : ℕ) (alphas betas : List K) where
  -- the count of the grid, over challenges without a repeat and lawful flags; or the refusal; or memory
  -- runs out
  abbrev pub CountsGrid : Result GridCount BatchError → Type 0
  CountsGrid answer = MatchResult answer
      (λ count. HaveNoRepeat alphas betas × AreFlagsLawful E.base E.base_eq instances × IsGridCount E instances W alphas betas count)
      (λ e. (e ≡ Memory) ⊎ IsGridRefusal E instances W alphas betas e)

-- the bound of a grid of a alphas and b betas from the counts of its batch: none where no message is
-- unbalanced, and else a sum of two products, or the refusal where that does not fit
abbrev pub IsBoundOf : ℕ → Option ℕ → ℕ → ℕ → Result (Option ℕ) BatchError → Type 0
IsBoundOf bad_betas None a b answer = MatchResult answer (λ bound. bound ≡ None) (λ e. ⊥)
IsBoundOf bad_betas (Some most) a b answer = MatchResult answer
    (λ bound. bound ≡ Some (bad_betas * a + most * b))
    (λ e. (e ≡ CountOverflow) × (2 ^ 128 ≤ bad_betas * a + most * b))
