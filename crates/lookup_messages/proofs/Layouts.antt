-- What fits a layout fits it with any number of challenges.
use Rattle.std.proofs.Common.{ℕ, List}
use Rattle.air_expressions.specs.declared.layout.AirLayout.{AirLayout}
use Rattle.lookup_model.proofs.Layouts.{LookupsFit-with_auxiliary}
use Rattle.lookup_model.specs.Records.{LookupsFit}
use Rattle.lookup_model.specs.declared.types.Lookup.{Lookup}

-- the layout with another number of challenges
abbrev pub with_challenges : AirLayout → ℕ → AirLayout
with_challenges layout n = record layout { num_permutation_challenges = n }

module _ (layout : AirLayout) (n : ℕ) where
  module _ {F : Type 0} where
    -- lookups that fit still do
    pub LookupsFit-with_challenges : (lookups : List (Lookup F)) → LookupsFit layout lookups → LookupsFit (with_challenges layout n) lookups
    LookupsFit-with_challenges lookups fit =
        LookupsFit-with_auxiliary layout layout.permutation_width n layout.num_permutation_values lookups fit
