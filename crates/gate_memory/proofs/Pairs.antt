-- What holds of both items of a list.
use Rattle.std.specs.Prelude.{[], ◌∷◌, All}
use Rattle.std.proofs.lemmas.List.Elements.{All-cons, All-nil}

pub both : {X : Type 0} (P : X → Type 0) (x y : X) → P x → P y → All P (x ∷ y ∷ [])
both P x y here there = All-cons P x (y ∷ []) here (All-cons P y [] there (All-nil P))
