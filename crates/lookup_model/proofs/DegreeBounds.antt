-- The greatest degree of growing lists of degrees.
use Rattle.std.proofs.Common.{◌≡◌, ℕ, ◌+◌, ◌<◌, ◌≤◌, max, List, [], ◌∷◌, ◌++◌, length, map, take, get_or, ap, sym, ◌∙◌, subst, arith}
use Rattle.std.proofs.lemmas.List.{map_push, take_more}
use Rattle.lookup_model.specs.LookupDegree.{greatest}

-- the greatest of a list with one more
pub greatest-push : (ns : List ℕ) (n : ℕ) → greatest (ns ++ n ∷ []) ≡ max (greatest ns) n
greatest-push [] n = omega arith
greatest-push (m ∷ ns) n = omega (arith, greatest-push ns n)

-- the last item of a list is in it, and so are those before it
pub greatest_of_last : (ns : List ℕ) (n : ℕ) → n ≤ greatest (ns ++ n ∷ [])
greatest_of_last ns n = omega (arith, greatest-push ns n)

pub greatest_of_front : (ns : List ℕ) (n : ℕ) → greatest ns ≤ greatest (ns ++ n ∷ [])
greatest_of_front ns n = omega (arith, greatest-push ns n)

-- one more of the degrees that f gives for a list
pub greatest_more : {A : Type 0} (f : A → ℕ) (es : List A) (i : ℕ) (e : A) (next : ℕ) → i < length es → e ≡ get_or es i e → next ≤ max (f e) (greatest (map f (take i es))) → next ≤ greatest (map f (take (i + 1) es))
greatest_more f es i e next lt is below =
    let longer : map f (take (i + 1) es) ≡ map f (take i es) ++ f e ∷ [] =
    ap (map f) (take_more es i e lt ∙ ap (λ t. take i es ++ t ∷ []) (sym is)) ∙ map_push f (take i es) e in
    subst (λ (t : List ℕ). next ≤ greatest t) (sym longer) (omega (arith, below, greatest-push (map f (take i es)) (f e)))
