use Rattle.std.proofs.Common.{◌≡◌, ◌==◌, List, ℕ, map, take, Some}
use Rattle.std.specs.List.{slice_split}
use Rattle.field_words.specs.Words.{number_of, number_bound}
use Rattle.field_words.proofs.PartLaws.{Gives}
use Rattle.field_words.proofs.challenge.read_coefficients.Given as goal

abbrev pub invariant-loop-place : goal.invariant-loop-place
invariant-loop-place l =
    (goal.iterator-loop-place).can_next l.parts
    × (goal.iterator-loop-place).is_finite l.parts
    × (came : List (List ℕ))
    × Gives (goal.iterator-loop-place).next_gives (λ part. part.now) l.parts came (slice_split (λ byte. byte == 44) l.word)
    × (map (number_of (number_bound l.bound)) came ≡ map Some (take l.place-index l.numbers))
