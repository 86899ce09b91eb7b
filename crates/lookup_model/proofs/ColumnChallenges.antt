-- The challenges of columns: how many there are, and which tables give the same.
use Rattle.std.proofs.Common.{◌≡◌, ℕ, suc, ◌+◌, ◌*◌, ◌<◌, ◌++◌, All, List, [], ◌∷◌, get_or, length, take, refl, sym, ap, ◌∙◌, arith}
use Rattle.std.proofs.lemmas.List.{append_assoc, flat_map_more, take_more}
use Rattle.lookup_model.specs.Challenges.{ChallengeTable, column_challenges}

-- two for each id
pub length-column_challenges : {K : Type 0} (table : ChallengeTable K) (ids : List ℕ) → length (column_challenges table ids) ≡ 2 * length ids
length-column_challenges table [] = omega arith
length-column_challenges table (id ∷ ids) = omega (arith, length-column_challenges table ids)

-- Tables with the same beta and, of these ids, the same prefixes give the same challenges.
pub same_challenges : {K : Type 0} (t u : ChallengeTable K) (ids : List ℕ) → t.beta ≡ u.beta → All (λ id. t.prefix id ≡ u.prefix id) ids → column_challenges t ids ≡ column_challenges u ids
same_challenges t u [] beta each = refl
same_challenges t u (id ∷ ids) beta each =
    λ i. each 0 id (omega arith) i ∷ beta i ∷ same_challenges t u ids beta (λ k d lt. each (suc k) d (omega (arith, lt))) i

-- one more id: its prefix, and then beta
pub one_more_id : {K : Type 0} (t : ChallengeTable K) (ids : List ℕ) (i : ℕ) → i < length ids → (challenges : List K) → challenges ≡ column_challenges t (take i ids) → (x : K) → x ≡ t.prefix (get_or ids i 0)
    → (challenges ++ x ∷ []) ++ t.beta ∷ [] ≡ column_challenges t (take (i + 1) ids)
one_more_id t ids i lt challenges are x is =
    append_assoc challenges (x ∷ []) (t.beta ∷ [])
    ∙ (λ k. are k ++ (is k ∷ t.beta ∷ []))
    ∙ flat_map_more (λ id. t.prefix id ∷ t.beta ∷ []) [] (take i ids) (get_or ids i 0)
    ∙ ap (column_challenges t) (sym (take_more ids i 0 lt))
