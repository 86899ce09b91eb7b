use Rattle.std.proofs.Common.{◌≡◌, ◌<◌, ◌==◌, [], ◌∷◌, ℕ, List, Some, ap, arith, length, map, refl, subst, sym, ◌∙◌}
use Rattle.std.specs.List.{slice_split}
use Rattle.field_monty.specs.Quartic.{coefficients_of}
use Rattle.field_words.specs.Words.{WritesNumbers, number_bound}
use Rattle.field_words.proofs.WordLaws.{four_again, written_again}
use Rattle.field_words.proofs.challenge.MontyQuarticChallengeMontyField31.from_word.Goals as goal

-- The modulus fits 64 bits.
bounded : (p : ℕ) → p < 4294967296 → number_bound p ≡ p
bounded p fits = omega (arith, fits)

pub returns-then-not-read_coefficients : goal.returns-then-not-read_coefficients
returns-then-not-read_coefficients g c =
    λ x writes.
    c.read_coefficients.ensures.refused c.if-not-read_coefficients.true (map (λ c'. c'.value) (coefficients_of x)) refl
    (subst (λ (bound : ℕ). WritesNumbers bound c.args.word.now (map (λ c'. c'.value) (coefficients_of x))) (sym (bounded g.row.P g.P.fits.fits)) writes)

pub returns : goal.returns
returns g c =
    let parts : List (List ℕ) = slice_split (λ byte. byte == 44) c.args.word.now in
    let numbers : List ℕ = c.read_coefficients.new.numbers in
    let long : length numbers ≡ 4 = c.read_coefficients.ensures.long in
    let writes : WritesNumbers g.row.P c.args.word.now numbers =
    subst (λ (bound : ℕ). WritesNumbers bound c.args.word.now numbers) (bounded g.row.P g.P.fits.fits) (c.read_coefficients.ensures.read c.if-not-read_coefficients.false) in
    let c0 = written_again g.row.P g.K.MontyParameters.positive parts numbers writes 0 (omega (arith, long)) c.from_u64.result c.from_u64.ensures in
    let c1 = written_again g.row.P g.K.MontyParameters.positive parts numbers writes 1 (omega (arith, long)) c.from_u64-2.result c.from_u64-2.ensures in
    let c2 = written_again g.row.P g.K.MontyParameters.positive parts numbers writes 2 (omega (arith, long)) c.from_u64-3.result c.from_u64-3.ensures in
    let c3 = written_again g.row.P g.K.MontyParameters.positive parts numbers writes 3 (omega (arith, long)) c.from_u64-4.result c.from_u64-4.ensures in
    writes ∙ ap (map Some) (four_again numbers long ∙ (λ i. sym c0 i ∷ sym c1 i ∷ sym c2 i ∷ sym c3 i ∷ []) ∙ ap (map (λ c'. c'.value)) (sym c.new.ensures))
