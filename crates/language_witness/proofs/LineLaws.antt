-- The lines that are printed so far.
use Rattle.std.proofs.Common.{◌≡◌, ◌++◌, ◌+◌, ◌<◌, ℕ, List, [], ◌∷◌, Option, codes, get_or, length, take, sym, ap, arith, append_assoc, ◌∙◌}
use Rattle.std.proofs.lemmas.Grind.{flat_map-append}
use Rattle.std.specs.List.{enumerate_from, flat_map, range_with_len, zip}
use Rattle.std.proofs.lemmas.List.{append-nil, length-take-le, take_more}
use Rattle.list_laws.proofs.Zips.{zip_at, length_zip}
use Rattle.list_laws.proofs.Parts.{flat_more}
use Rattle.matrix.specs.Matrix.{Matrix}
use Rattle.lookup_model.specs.declared.types.LookupTerminal.{LookupTerminal}
use Rattle.list_laws.proofs.Items.{enumerate_from-append}
use Rattle.language_witness.specs.Lines.{air_lines, witness_lines}

-- a text to which the line of the next row is appended has one row's line more
pub appended_line : (line : ℕ → List ℕ) (n : ℕ) (old before air after : List ℕ) → before ≡ old ++ (codes "air " ++ (air ++ (codes "\n" ++ flat_map line (range_with_len 0 n)))) → after ≡ before ++ line n
    → after ≡ old ++ (codes "air " ++ (air ++ (codes "\n" ++ flat_map line (range_with_len 0 (n + 1)))))
appended_line line n old before air after is appended =
    rw (flat_more line n) (appended ∙ ap (λ t. t ++ line n) is
    ∙ (append_assoc old _ (line n)
    ∙ ap (λ t. old ++ t) (append_assoc (codes "air ") _ (line n) ∙ ap (λ t. codes "air " ++ t) (append_assoc air _ (line n) ∙ ap (λ t. air ++ t) (append_assoc (codes "\n") _ (line n))))))

module _ {K : Type 0} (text : K → List ℕ) where
  -- the lines of one more AIR
  pub more_airs : (aux : List (Matrix K)) (terminals : List (Option (LookupTerminal K))) (air : ℕ) (trace : Matrix K) (terminal : Option (LookupTerminal K)) (old before after : List ℕ)
      → length aux ≡ length terminals → air < length aux → trace ≡ get_or aux air trace → terminal ≡ get_or terminals air terminal
      → before ≡ old ++ witness_lines text (take air (zip aux terminals)) → after ≡ before ++ air_lines text air trace terminal
      → after ≡ old ++ witness_lines text (take (air + 1) (zip aux terminals))
  more_airs aux terminals air trace terminal old before after same lt trace_is terminal_is so_far more =
      let long = length_zip aux terminals (sym same) in
      let longer : take (air + 1) (zip aux terminals) ≡ take air (zip aux terminals) ++ (trace, terminal) ∷ [] =
      take_more (zip aux terminals) air (trace, terminal) (omega (arith, long, lt)) ∙ ap (λ p. take air (zip aux terminals) ++ p ∷ []) (sym (zip_at aux terminals air trace terminal same lt trace_is terminal_is)) in
      let placed : 0 + length (take air (zip aux terminals)) ≡ air = omega (arith, length-take-le air (zip aux terminals) (omega (arith, long, lt))) in
      let one : witness_lines text (take (air + 1) (zip aux terminals)) ≡ witness_lines text (take air (zip aux terminals)) ++ air_lines text air trace terminal =
      ap (witness_lines text) longer
      ∙ ap (flat_map (λ p. air_lines text p.0 p.1.0 p.1.1)) (enumerate_from-append 0 (take air (zip aux terminals)) ((trace, terminal) ∷ []))
      ∙ flat_map-append (λ p. air_lines text p.0 p.1.0 p.1.1) (enumerate_from 0 (take air (zip aux terminals))) ((0 + length (take air (zip aux terminals)), (trace, terminal)) ∷ [])
      ∙ ap (λ t. witness_lines text (take air (zip aux terminals)) ++ t) (append-nil (air_lines text (0 + length (take air (zip aux terminals))) trace terminal) ∙ ap (λ n. air_lines text n trace terminal) placed) in
      more ∙ ap (λ t. t ++ air_lines text air trace terminal) so_far ∙ append_assoc old (witness_lines text (take air (zip aux terminals))) (air_lines text air trace terminal) ∙ ap (λ t. old ++ t) (sym one)
