-- Horner's rule for combined tuples.
use Rattle.std.proofs.Common.{◌≡◌, ℕ, ◌+◌, ◌<◌, List, [], ◌∷◌, ◌++◌, length, map, take, get_or, ap, sym, ◌∙◌}
use Rattle.std.proofs.lemmas.List.{reverse-append, map_push, take_more}
use Rattle.field.specs.Polynomial.{combined, value_at}
use Rattle.field.specs.Ring.{Ring}

-- one more element, which then has the factor beta^0
pub combined-push : {K : Type 0} (S : Ring K) (tuple : List K) (x beta : K) → combined S (tuple ++ x ∷ []) beta ≡ S.add x (S.mul beta (combined S tuple beta))
combined-push S tuple x beta = ap (λ cs. value_at S cs beta) (reverse-append tuple (x ∷ []))

-- one more of the elements that f gives for a list
pub combined_more : {A K : Type 0} (S : Ring K) (f : A → K) (es : List A) (i : ℕ) (e : A) (beta sum next : K) → i < length es → e ≡ get_or es i e → sum ≡ combined S (map f (take i es)) beta → next ≡ S.add (f e) (S.mul beta sum) → next ≡ combined S (map f (take (i + 1) es)) beta
combined_more S f es i e beta sum next lt is so_far next_is =
    next_is
    ∙ ap (λ t. S.add (f e) (S.mul beta t)) so_far
    ∙ sym (combined-push S (map f (take i es)) (f e) beta)
    ∙ ap (λ tuple. combined S tuple beta) (sym (map_push f (take i es) e) ∙ ap (map f) (ap (λ t. take i es ++ t ∷ []) is ∙ sym (take_more es i e lt)))
