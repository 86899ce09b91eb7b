-- Columns of sums, differences, products and negatives.
use Rattle.std.specs.Prelude.{◌≡◌, List, map}
use Rattle.std.specs.List.{zip}
use Rattle.std.proofs.Common.{ap, ◌∙◌}
use Rattle.list_laws.proofs.Zips.{zip_of_maps}

-- the same, of lists that are these maps
pub map_of_two : {A B C X : Type 0} (f : A → B → C) (g : X → A) (h : X → B) (xs : List X) {ls : List A} {rs : List B} {v : List C}
    → ls ≡ map g xs → rs ≡ map h xs → v ≡ map (λ p. f p.0 p.1) (zip ls rs) → v ≡ map (λ x. f (g x) (h x)) xs
map_of_two f g h xs {ls} {rs} e d w = w ∙ ap (λ l. map (λ p. f p.0 p.1) (zip l rs)) e ∙ ap (λ l. map (λ p. f p.0 p.1) (zip (map g xs) l)) d ∙ zip_of_maps f g h xs
