-- Kinds of rows.
use Rattle.std.specs.Prelude.{◌≡◌, not}
use Rattle.air_expressions.specs.Window.{Window}
use Rattle.air_constraints.specs.declared.kind.RowKind.{RowKind}

-- a window of a row of this kind
pub record IsOfKind {F : Type 0} (kind : RowKind) (w : Window F) : Type 0 where
  pub first : w.is_first ≡ kind.is_first
  pub last : w.is_last ≡ kind.is_last
  pub transition : w.is_transition ≡ not kind.is_last
