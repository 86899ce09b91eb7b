-- What an iterator has given and will give, as one list, and the parts that `split` gives.
use Rattle.std.proofs.Common.{◌≡◌, Bool, false, Bor, List, [], ◌∷◌, ◌++◌, Option, Some, None, refl, ap, sym, ◌∙◌}
use Rattle.std.specs.Fn.{CalledAt}
use Rattle.std.specs.List.{slice_split}
use Rattle.std.specs.Slice.Iter.{split_callee, split_done, split_rest, split_steps}
use Rattle.std.specs.declared.slice.Split.{Split}
use Rattle.std.proofs.lemmas.Iterator.{YieldsList}
use Rattle.std.proofs.lemmas.Iterator.Splits.{YieldsList-from_slice_split}
use Rattle.std.proofs.lemmas.List.{append-nil, append_assoc}
use denote.Param.Members.{Mut}

-- the items that came and those to come, as v shows them, are these
pub record Gives {S A B : Type 0} (steps : S → Option A → S → Type 0) (v : A → B) (iterator : S) (came all : List B) : Type 0 where
  pub rest : List B
  pub yields : YieldsList steps v iterator rest
  pub whole : came ++ rest ≡ all

module _ {S A B : Type 0} (steps : S → Option A → S → Type 0) (v : A → B) where
  -- at the start none came
  pub Gives-start : (s : S) (all : List B) → YieldsList steps v s all → Gives steps v s [] all
  Gives-start s all yields = record { rest = all; yields = yields; whole = refl }

  -- the item that comes is the first of those to come
  more : (rest : List B) (s t : S) (x : A) (came all : List B) → YieldsList steps v s rest → came ++ rest ≡ all → steps s (Some x) t → Gives steps v t (came ++ v x ∷ []) all
  more [] s t x came all yields whole step = absurd (yields.runs x t step)
  more (y ∷ rest) s t x came all yields whole step =
      let next = yields.runs.1 x t step in
      record {
        rest = rest;
        yields = record { runs = next.1 };
        whole = append_assoc came (v x ∷ []) rest ∙ ap (λ z. came ++ z ∷ rest) next.0 ∙ whole;
      }

  -- one more came
  pub Gives-more : (s t : S) (x : A) (came all : List B) → Gives steps v s came all → steps s (Some x) t → Gives steps v t (came ++ v x ∷ []) all
  Gives-more s t x came all given step = more given.rest s t x came all given.yields given.whole step

  -- where none comes, none was to come
  ended : (rest : List B) (s t : S) (came all : List B) → YieldsList steps v s rest → came ++ rest ≡ all → steps s None t → came ≡ all
  ended [] s t came all yields whole step = sym (append-nil came) ∙ whole
  ended (y ∷ rest) s t came all yields whole step = absurd (yields.runs.0 t step)

  -- at the end all came
  pub Gives-end : (s t : S) (came all : List B) → Gives steps v s came all → steps s None t → came ≡ all
  Gives-end s t came all given step = ended given.rest s t came all given.yields given.whole step

-- what a `for` takes of a call of `split` gives the parts; g is what the calls of the closure f give, and p the test that it computes
pub split-parts : {A F : Type 0} {s i : Split A F} (g : Mut F (Bor A × Unit {0}) Bool) (p : A → Bool) {f : F} (xs : List A) → i ≡ s → split_rest s ≡ xs → split_done s ≡ false → split_callee s ≡ f
    → ((x : A) (b : Bool) (q : F) → CalledAt g f x b q → (q ≡ f) × (b ≡ p x)) → YieldsList (split_steps g) (λ part. part.now) i (slice_split p xs)
split-parts g p xs same rest done callee tests =
    YieldsList-from_slice_split g p xs (ap split_rest same ∙ rest) (ap split_done same ∙ done) (ap split_callee same ∙ callee) tests
