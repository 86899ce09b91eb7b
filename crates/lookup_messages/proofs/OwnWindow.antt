-- What a builder of values hands out means itself at the builder's own window.
use Rattle.std.proofs.Common.{◌≡◌, ℕ, List, length, sym, ap, ◌∙◌}
use Rattle.std.proofs.lemmas.List.{map-id}
use Rattle.air_expressions.specs.Builder.{MeansRow}

-- the values in a place of the one window that is stood for
pub means_itself : {W A : Type 0} (own : W) (cells : W → List A) (width : ℕ) → length (cells own) ≡ width → MeansRow (λ w. w ≡ own) (λ (v : A) _. v) width cells (cells own)
means_itself own cells width len = record { len = len; reads = λ w e. map-id (cells own) ∙ ap cells (sym e) }
