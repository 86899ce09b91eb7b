-- The last lines of a report.
use Rattle.std.proofs.Common.{◌≡◌, ◌∙◌, ◌++◌, ℕ, List, Result, Ok, Err, OnOk, ap}
use Rattle.std.proofs.lemmas.List.{append_assoc}

-- two lines follow what was there
pub lines_told : {E : Type 0} (answer : Result (Unit {0}) E) (front before after line last : List ℕ) → before ≡ front ++ line → OnOk answer (after ≡ before ++ last)
    → OnOk answer ((x : List ℕ) × (after ≡ x ++ (line ++ last)))
lines_told (Ok u) front before after line last told then = (front, then ∙ (ap (λ xs. xs ++ last) told ∙ append_assoc front line last))
lines_told (Err e) front before after line last told then = tt
