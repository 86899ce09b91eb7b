-- What is said of each AIR, one by one.
use Rattle.std.proofs.Common.{◌≡◌, ◌++◌, ◌+◌, ◌<◌, ◌≤◌, ℕ, suc, List, [], ◌∷◌, ap, refl, sym, ◌∙◌, subst, subst₂, drop, get_or, length, map}
use Rattle.std.proofs.lemmas.List.{append-nil, append_assoc, drop-map, drop_all, drop_more}
use Rattle.language_meaning.specs.Shapes.{Shape}
use Rattle.language_meaning.specs.Tables.{TablesOf}
use Rattle.language_meaning.specs.Lookups.{Said}
use Rattle.language.specs.Batches.{Air, Section}
use Rattle.check_judge.specs.Said.{AreEach, SayOver, SaysOver}

-- the images of what is left of a list: that of its next item, and of what is left then
pub image_next : {A B : Type 0} (f : A → B) (xs : List A) (i : ℕ) (x : A) → i < length xs → get_or xs i x ≡ x → drop i (map f xs) ≡ f x ∷ drop (i + 1) (map f xs)
image_next f xs i x within e =
    drop-map f i xs
    ∙ ap (map f) (drop_more xs i x within)
    ∙ (ap (λ y. f y ∷ map f (drop (i + 1) xs)) e
    ∙ ap (λ ys. f x ∷ ys) (sym (drop-map f (i + 1) xs)))

-- what is left of AIRs that were found: the next one, and what is left then
pub next_air : {A B : Type 0} (f : A → B) (xs : List A) (ys : List B) (i : ℕ) (x : A) → i < length xs → get_or xs i x ≡ x → map f xs ≡ ys → drop i ys ≡ f x ∷ drop (i + 1) ys
next_air f xs ys i x within e same = subst (λ zs. drop i zs ≡ f x ∷ drop (i + 1) zs) same (image_next f xs i x within e)

-- what is put before the rest, with one item more
pub one_put_before : {A : Type 0} (so_far after rest : List A) (x : A) → after ≡ so_far ++ x ∷ [] → so_far ++ x ∷ rest ≡ after ++ rest
one_put_before so_far after rest x more = sym (append_assoc so_far (x ∷ []) rest) ∙ ap (λ xs. xs ++ rest) (sym more)

module _ (text : List ℕ) (sections : List Section) (whole : ℕ) where
  -- with what the AIRs that are left say, what is said so far is what all say
  abbrev pub GoOnSaying : List Air → List Shape → ℕ → ℕ → List Said → Type 0
  GoOnSaying airs ss i room so_far = (rest : List Said) → SayOver text sections room (drop i airs) (drop i ss) rest → SayOver text sections whole airs ss (so_far ++ rest)

  pub go_on_saying : (airs : List Air) (ss : List Shape) (i room : ℕ) (a : Air) (s : Shape) (so_far after : List Said) (x : Said)
      → drop i airs ≡ a ∷ drop (i + 1) airs → drop i ss ≡ s ∷ drop (i + 1) ss → after ≡ so_far ++ x ∷ []
      → SaysOver text sections a s.columns s.preprocessed room x → GoOnSaying airs ss i room so_far → GoOnSaying airs ss (i + 1) x.room after
  go_on_saying airs ss i room a s so_far after x first second more says before = λ rest left.
      subst (SayOver text sections whole airs ss) (one_put_before so_far after rest x more)
      (before (x ∷ rest) (subst₂ (λ bs us. SayOver text sections room bs us (x ∷ rest)) (sym first) (sym second) (says, left)))

  -- once no AIR is left, what is said so far is what all say
  pub all_say : (airs : List Air) (ss : List Shape) (i room : ℕ) (so_far : List Said) → length airs ≤ i → length ss ≤ i → GoOnSaying airs ss i room so_far → SayOver text sections whole airs ss so_far
  all_say airs ss i room so_far none no_more before =
      subst (SayOver text sections whole airs ss) (append-nil so_far)
      (before [] (subst₂ (λ bs us. SayOver text sections room bs us []) (sym (drop_all i airs none)) (sym (drop_all i ss no_more)) tt))

  -- all AIRs say something
  pub says_long : (room : ℕ) (airs : List Air) (ss : List Shape) (xs : List Said) → SayOver text sections room airs ss xs → length xs ≡ length ss
  says_long room [] [] [] says = refl
  says_long room [] [] (x ∷ xs) says = absurd says
  says_long room [] (s ∷ ss) xs says = absurd says
  says_long room (a ∷ airs) [] xs says = absurd says
  says_long room (a ∷ airs) (s ∷ ss) [] says = absurd says
  says_long room (a ∷ airs) (s ∷ ss) (x ∷ xs) says = ap suc (says_long x.room airs ss xs says.1)

  -- something is said of each AIR
  pub says_airs : (room : ℕ) (airs : List Air) (ss : List Shape) (xs : List Said) → SayOver text sections room airs ss xs → length airs ≡ length ss
  says_airs room [] [] [] says = refl
  says_airs room [] [] (x ∷ xs) says = absurd says
  says_airs room [] (s ∷ ss) xs says = absurd says
  says_airs room (a ∷ airs) [] xs says = absurd says
  says_airs room (a ∷ airs) (s ∷ ss) [] says = absurd says
  says_airs room (a ∷ airs) (s ∷ ss) (x ∷ xs) says = ap suc (says_airs x.room airs ss xs says.1)

module _ {X : Type 0} (Is : Air → TablesOf → ℕ → Said → X → Type 0) (whole : ℕ) where
  -- with those of the AIRs that are left, those so far are those of all
  abbrev pub GoesOn : List Air → List TablesOf → ℕ → ℕ → List X → Type 0
  GoesOn airs ts i room so_far = (rest : List X) → AreEach Is room (drop i airs) (drop i ts) rest → AreEach Is whole airs ts (so_far ++ rest)

  pub goes_on : (airs : List Air) (ts : List TablesOf) (i room left : ℕ) (a : Air) (t : TablesOf) (so_far after : List X) (x : X)
      → drop i airs ≡ a ∷ drop (i + 1) airs → drop i ts ≡ t ∷ drop (i + 1) ts → after ≡ so_far ++ x ∷ []
      → (said : Said) × (left ≡ said.room) × Is a t room said x → GoesOn airs ts i room so_far → GoesOn airs ts (i + 1) left after
  goes_on airs ts i room left a t so_far after x first second more said before = λ rest next.
      let later = subst (λ n. AreEach Is n (drop (i + 1) airs) (drop (i + 1) ts) rest) said.1 next in
      subst (AreEach Is whole airs ts) (one_put_before so_far after rest x more)
      (before (x ∷ rest) (subst₂ (λ bs us. AreEach Is room bs us (x ∷ rest)) (sym first) (sym second) (said.0, said.2, later)))

  -- once no AIR is left, those so far are those of all
  pub all_gone : (airs : List Air) (ts : List TablesOf) (i room : ℕ) (so_far : List X) → length airs ≤ i → length ts ≤ i → GoesOn airs ts i room so_far → AreEach Is whole airs ts so_far
  all_gone airs ts i room so_far none no_more before =
      subst (AreEach Is whole airs ts) (append-nil so_far)
      (before [] (subst₂ (λ bs us. AreEach Is room bs us []) (sym (drop_all i airs none)) (sym (drop_all i ts no_more)) tt))
