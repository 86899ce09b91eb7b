-- Texts while they are made.
use Rattle.std.proofs.Common.{◌≡◌, ◌++◌, ◌+◌, ◌<◌, ℕ, List, [], ◌∷◌, get_or, length, map, take, sym, ap, append_assoc, ◌∙◌}
use Rattle.std.proofs.lemmas.Grind.{flat_map-append}
use Rattle.std.proofs.lemmas.List.{append-nil, map_more}
use Rattle.std.specs.List.{flat_map}

-- one more part, after what separates it from the others
pub one_more_part : {A B : Type 0} (text : B → List ℕ) (view : A → B) (separator : List ℕ) (xs : List A) (i : ℕ) (x d : A) (old before middle after : List ℕ) → i < length xs → x ≡ get_or xs i d
    → before ≡ old ++ flat_map (λ b. separator ++ text b) (map view (take i xs)) → middle ≡ before ++ separator → after ≡ middle ++ text (view x)
    → after ≡ old ++ flat_map (λ b. separator ++ text b) (map view (take (i + 1) xs))
one_more_part text view separator xs i x d old before middle after lt is so_far next last =
    let part : _ → List ℕ = λ b. separator ++ text b in
    let parts = flat_map part (map view (take i xs)) in
    let longer : flat_map part (map view (take (i + 1) xs)) ≡ parts ++ part (view x) =
    ap (flat_map part) (map_more view xs i d lt ∙ ap (λ y. map view (take i xs) ++ view y ∷ []) (sym is))
    ∙ flat_map-append part (map view (take i xs)) (view x ∷ []) ∙ ap (λ t. parts ++ t) (append-nil (part (view x))) in
    last ∙ ap (λ t. t ++ text (view x)) (next ∙ ap (λ t. t ++ separator) so_far)
    ∙ append_assoc (old ++ parts) separator (text (view x)) ∙ append_assoc old parts (part (view x)) ∙ ap (λ t. old ++ t) (sym longer)

-- eight parts, one after another
pub eight_parts : (a b c d e f g h l k m n o p q r s : List ℕ) → l ≡ [] → k ≡ l ++ a → m ≡ k ++ b → n ≡ m ++ c → o ≡ n ++ d → p ≡ o ++ e → q ≡ p ++ f → r ≡ q ++ g → s ≡ r ++ h
    → s ≡ a ++ (b ++ (c ++ (d ++ (e ++ (f ++ (g ++ h))))))
eight_parts a b c d e f g h l k m n o p q r s none first second third fourth fifth sixth seventh eighth =
    let k_is : k ≡ a = first ∙ ap (λ t. t ++ a) none in
    let whole : s ≡ ((((((a ++ b) ++ c) ++ d) ++ e) ++ f) ++ g) ++ h = cc in
    whole ∙ simp append_assoc
