-- The one window that a trace builder stands for.
use Rattle.std.specs.Prelude.{◌+◌, ◌==◌, ℕ, List, not, length, []}
use Rattle.air_expressions.specs.Window.{ExtWindow, Window}
use Rattle.air_expressions.specs.declared.layout.AirLayout.{AirLayout}
use Rattle.lookup_messages.specs.declared.trace_builder.LookupTraceBuilder.{LookupTraceBuilder}

module _ {F EF : Type 0} where
  -- the rows, the public values and the selectors of the builder's row
  abbrev pub builder_window : LookupTraceBuilder F EF → Window F
  builder_window b = record {
    main = b.main.current.now;
    main_next = b.main.next.now;
    preprocessed = b.preprocessed.current.now;
    preprocessed_next = b.preprocessed.next.now;
    public_values = b.public_values.now;
    is_first = b.row == 0;
    is_last = b.row + 1 == b.height;
    is_transition = not (b.row + 1 == b.height);
  }

  -- the widths of the builder, whose permutation window is empty
  abbrev pub builder_layout : LookupTraceBuilder F EF → AirLayout
  builder_layout b = record {
    preprocessed_width = length b.preprocessed.current.now;
    main_width = length b.main.current.now;
    num_public_values = length b.public_values.now;
    permutation_width = 0;
    num_permutation_challenges = length b.permutation_challenges.now;
    num_permutation_values = 0;
  }

  -- the same, with the challenges but nothing of an auxiliary trace
  abbrev pub ext_builder_window : LookupTraceBuilder F EF → ExtWindow F EF
  ext_builder_window b = record {
    base = builder_window b;
    permutation = [];
    permutation_next = [];
    challenges = b.permutation_challenges.now;
    permutation_values = [];
  }

  -- the row that the builder stands for
  abbrev pub builder_row : LookupTraceBuilder F EF → ℕ
  builder_row b = b.row

  -- its challenges
  abbrev pub builder_challenges : LookupTraceBuilder F EF → List EF
  builder_challenges b = b.permutation_challenges.now
