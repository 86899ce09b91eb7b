-- The set flags of a row, while its flags are processed.
use Rattle.std.specs.Prelude.{◌≡◌, ◌<◌, ℕ, Bool, true, false, List, [], ◌∷◌, Result, MatchResult, length}
use Rattle.field.specs.Ring.{Ring}
use Rattle.lookup_model.specs.Fault.{are_boolean, set_indices}
use Rattle.lookup_model.specs.declared.error.LookupError.{LookupError}
use Rattle.lookup_model.specs.declared.error.LookupError.TheVariants.{FlagNotBoolean}
use Rattle.lookup_model.specs.declared.flags.SetFlags.{SetFlags}
use Rattle.lookup_model.specs.declared.flags.SetFlags.TheVariants.{Nothing, One, Several}

-- no index, one index, or more than one
abbrev pub AreIndices : SetFlags → List ℕ → Type 0
AreIndices Nothing indices = indices ≡ []
AreIndices (One index) indices = indices ≡ index ∷ []
AreIndices Several indices = 1 < length indices

-- Each flag is zero or one, and these are the indices of the set ones.
pub record AreSetFlags {F : Type 0} (R : Ring F) (eq : F → F → Bool) (flags : List F) (set : SetFlags) : Type 0 where
  pub boolean : are_boolean R eq flags ≡ true
  pub indices : AreIndices set (set_indices R eq 0 flags)

-- The set flags among these, in a column on a row. Otherwise one is neither zero nor one.
abbrev pub AnswersFlags : {F : Type 0} → Ring F → (F → F → Bool) → ℕ → ℕ → List F → Result SetFlags LookupError → Type 0
AnswersFlags R eq row column flags result =
    MatchResult result
    (AreSetFlags R eq flags)
    (λ e. (e ≡ FlagNotBoolean row column) × (are_boolean R eq flags ≡ false))
