-- The cells that the values of one row mean.
use Rattle.std.proofs.Common.{◌≡◌, List, ℕ, ap, sym, length, ◌∙◌}
use Rattle.std.proofs.lemmas.List.{map-id}
use Rattle.air_expressions.specs.Builder.{MeansRow}

-- where only one window is stood for, the values of a row in it mean themselves
pub means_itself : {W A : Type 0} (window : W) (width : ℕ) (cells : W → List A) (values : List A) → length values ≡ width → values ≡ cells window → MeansRow (λ w. w ≡ window) (λ v _. v) width cells values
means_itself window width cells values len same = record {
  len = len;
  reads = λ w e. map-id values ∙ same ∙ ap cells (sym e);
}
