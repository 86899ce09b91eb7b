use Rattle.std.proofs.Common.{◌≡◌, ◌==◌, [], ◌∷◌, ℕ, List, Some, ap, arith, length, map, refl, sym, ◌∙◌}
use Rattle.std.specs.List.{slice_split}
use Rattle.field_goldilocks.specs.Goldilocks.{goldilocks_positive}
use Rattle.field_goldilocks.specs.Quadratic.{coefficients_of}
use Rattle.field_words.proofs.WordLaws.{two_again, written_again}
use Rattle.field_words.proofs.challenge.Goldilocks2ChallengeGoldilocks.from_word.Goals as goal

pub returns-then-not-read_coefficients : goal.returns-then-not-read_coefficients
returns-then-not-read_coefficients c = λ x writes. c.read_coefficients.ensures.refused c.if-not-read_coefficients.true (map (λ c'. c'.value) (coefficients_of x)) refl writes

pub returns : goal.returns
returns c =
    let parts : List (List ℕ) = slice_split (λ byte. byte == 44) c.args.word.now in
    let numbers : List ℕ = c.read_coefficients.new.numbers in
    let long : length numbers ≡ 2 = c.read_coefficients.ensures.long in
    let writes = c.read_coefficients.ensures.read c.if-not-read_coefficients.false in
    let first = written_again 18446744069414584321 goldilocks_positive parts numbers writes 0 (omega (arith, long)) c.from_u64.result c.from_u64.ensures in
    let second = written_again 18446744069414584321 goldilocks_positive parts numbers writes 1 (omega (arith, long)) c.from_u64-2.result c.from_u64-2.ensures in
    writes ∙ ap (map Some) (two_again numbers long ∙ (λ i. sym first i ∷ sym second i ∷ []) ∙ ap (map (λ c'. c'.value)) (sym c.new.ensures))
