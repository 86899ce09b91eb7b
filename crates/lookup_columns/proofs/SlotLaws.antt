-- Two slots that are taken together.
use Rattle.std.proofs.Common.{◌≡◌, List, ◌∷◌, map, ap, ◌∙◌}
use Rattle.std.specs.List.{zip}
use Rattle.lookup_columns.specs.internal.Slots.{last_two_joined, last_of, slots_before_last}

-- the values of an operation on the last two slots, in place of both
pub joined_slots : {F : Type 0} (f : F → F → F) {values left right : List F} {others now old : List (List F)}
    → now ≡ old → left ≡ last_of (slots_before_last now) → right ≡ last_of now → others ≡ slots_before_last (slots_before_last now)
    → values ≡ map (λ p. f p.0 p.1) (zip left right) → values ∷ others ≡ last_two_joined f old
joined_slots f {values} {left} {right} {others} {now} {old} same first last left_over is =
    let g = map (λ p. f p.0 p.1) in
    ap (λ v. v ∷ others) (is ∙ ap (λ y. g (zip y right)) first ∙ ap (λ y. g (zip (last_of (slots_before_last now)) y)) last)
    ∙ ap (λ s. g (zip (last_of (slots_before_last now)) (last_of now)) ∷ s) left_over
    ∙ ap (last_two_joined f) same
