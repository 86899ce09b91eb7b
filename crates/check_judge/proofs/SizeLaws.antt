-- What is found of AIRs, by their sizes.
use Rattle.std.proofs.Common.{List, [], ◌∷◌, map}
use Rattle.std.specs.List.{AllZip}

-- what holds of the images of items and of others holds of the list of images
pub images_zip : {A B C : Type 0} (R : B → C → Type 0) (f : A → B) (xs : List A) (ys : List C) → AllZip (λ x y. R (f x) y) xs ys → AllZip R (map f xs) ys
images_zip R f [] [] all = tt
images_zip R f [] (y ∷ ys) all = absurd all
images_zip R f (x ∷ xs) [] all = absurd all
images_zip R f (x ∷ xs) (y ∷ ys) all = (all.0, images_zip R f xs ys all.1)
