-- Chains of assertions, one expression at a time.
use Rattle.std.proofs.Common.{◌≡◌, List, [], ◌∷◌, ◌++◌, inl, inr, refl, subst, sym, ap, ◌∙◌}
use Rattle.std.specs.Prelude.{Result, Ok, Err, MatchResult, OnOk}
use Rattle.air_expressions.specs.Builder.{AcceptsAll, RefusesOne}
use Rattle.air_expressions.specs.declared.error.AirError.{AirError}

-- one more accepted expression makes the chain longer
pub accepts_more : {B X : Type 0} (accepts : B → X → B → Type 0) (xs : List X) (x : X) (b c d : B) → AcceptsAll accepts b xs c → accepts c x d → AcceptsAll accepts b (xs ++ x ∷ []) d
accepts_more accepts [] x b c d same last =
    let P : _ → Type 0 = λ s. accepts s x d in (d, subst P same last, refl)
accepts_more accepts (y ∷ ys) x b c d chain last = (chain.0, chain.1, accepts_more accepts ys x chain.0 c d chain.2 last)

-- what each accepted expression keeps is kept by a chain of them
pub accepts_all_keep : {B X L : Type 0} (accepts : B → X → B → Type 0) (layout : B → L) → ((b : B) (x : X) (c : B) → accepts b x c → layout c ≡ layout b) → (b : B) (xs : List X) (c : B) → AcceptsAll accepts b xs c → layout c ≡ layout b
accepts_all_keep accepts layout keeps b [] c same = ap layout same
accepts_all_keep accepts layout keeps b (x ∷ xs) c chain =
    accepts_all_keep accepts layout keeps chain.0 xs c chain.2 ∙ keeps b x chain.0 chain.1

-- what follows from acceptance holds where the answer is not a refusal
pub on_ok : (r : Result (Unit {0}) AirError) (P Q : Type 0) (R : AirError → Type 0) → MatchResult r (λ _. P) R → (P → Q) → OnOk r Q
on_ok (Ok x) P Q R accepted so = so accepted
on_ok (Err e) P Q R refused so = tt

-- a refusal after a chain of accepted expressions is the refusal of one of them all
pub refuses_after : {B X : Type 0} (accepts : B → X → B → Type 0) (refuses : B → X → AirError → B → Type 0) (all xs ys : List X) (x : X) (b c d : B) (e : AirError) → AcceptsAll accepts b xs c → refuses c x e d → all ≡ xs ++ x ∷ ys → RefusesOne accepts refuses b all e d
refuses_after {B} {X} accepts refuses all xs ys x b c d e chain last whole =
    let P : List X → Type 0 = λ l. RefusesOne accepts refuses b l e d in subst P (sym whole) (split xs b chain)
  where
    split : (xs : List X) (b : B) → AcceptsAll accepts b xs c → RefusesOne accepts refuses b (xs ++ x ∷ ys) e d
    split [] b same = let P : B → Type 0 = λ s. refuses s x e d in inl (subst P same last)
    split (y ∷ more) b chain = inr (chain.0, chain.1, split more chain.0 chain.2)
