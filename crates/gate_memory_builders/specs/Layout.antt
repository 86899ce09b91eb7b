-- The layout for which the builders are made.
use Rattle.air_expressions.specs.declared.layout.AirLayout.{AirLayout}

-- The widths of an AIR of three columns, with room for four lookups.
abbrev pub swept_layout : AirLayout
swept_layout = record { preprocessed_width = 0; main_width = 3; num_public_values = 0; permutation_width = 5; num_permutation_challenges = 8; num_permutation_values = 1 }
