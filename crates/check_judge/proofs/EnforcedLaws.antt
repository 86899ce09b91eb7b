-- What is shown of lookups, over lists that are known by other names.
use Rattle.std.proofs.Common.{◌≡◌, ◌∙◌, ◌↔◌, ◌++◌, ◌∷◌, [], ◌+◌, ◌<◌, ℕ, Bool, IsTrue, List, ap, get_or, length, map, subst, sym, take}
use Rattle.std.proofs.lemmas.List.{map_push}
use Rattle.std.specs.List.{AllZip}
use Rattle.std.proofs.lemmas.Simd.{map-map}
use Rattle.std.specs.Borrow.{Bor}
use Rattle.air_expressions.specs.Tree.{tree_of}
use Rattle.list_laws.proofs.Images.{images_more}
use Rattle.lookup.specs.Lookups.{lookups_of}
use Rattle.lookup.specs.declared.lookups.Lookups.{Lookups}
use Rattle.language.specs.Batches.{Air, air_of}
use Rattle.language.specs.declared.batch.AirText.{AirText}
use Rattle.language_meaning.specs.Columns.{constraints_in}
use Rattle.language_meaning.specs.Lookups.{Said, constraint_of, said_of}
use Rattle.language_meaning.specs.Shapes.{Shape, shape_of}
use Rattle.language_meaning.specs.declared.named_air.NamedAir.{NamedAir}
use Rattle.language_meaning.specs.declared.shapes.AirShape.{AirShape}
use Rattle.field.specs.Ring.{Ring}
use Rattle.air_expressions.specs.declared.base_expression.SymbolicExpression.{SymbolicExpression}
use Rattle.lookup_enforced.specs.Enforced.{EnforcesWeight, IsEnforcement}
use Rattle.lookup_enforced.specs.Weights.{StaysWithinWeight}
use Rattle.lookup_enforced.specs.declared.enforcement.Enforcement.{Enforcement}
use Rattle.lookup_model.specs.declared.types.Lookup.{Lookup}
use Rattle.check_judge.specs.Counts.{counts_in}
use Rattle.check_judge.specs.Enforced.{AreAsserted, Asserted, IsWeightShown}
use Rattle.check_judge.specs.Said.{AreLookupsOf}
use Rattle.check_judge.specs.internal.Asserted.{asserted_air_of}
use Rattle.check_judge.specs.declared.enforced.AssertedAir.{AssertedAir}

-- a weight is shown, over queries that are known by another name
pub weight_shown : {F : Type 0} (R : Ring F) (eq : F → F → Bool) (lookup : Lookup F) (shown : Enforcement) (items wanted : List Bool) {given : List Bool} (kept : Bool) → given ≡ items → items ≡ wanted
    → IsTrue kept ↔ StaysWithinWeight lookup shown given
    → (IsTrue kept → (height : ℕ) (constraints : List (SymbolicExpression F)) → IsEnforcement R eq height constraints lookup shown → EnforcesWeight R eq height constraints lookup given)
    → IsWeightShown R eq lookup shown wanted kept
weight_shown R eq lookup shown items wanted {given} kept same is answer enforced = subst (λ queries. IsWeightShown R eq lookup shown queries kept) (same ∙ is) (record { answer = answer; enforced = enforced })

-- one more item of a list, whose image is that of one more item of another
pub one_more : {A B C : Type 0} (h : A → C) (f : B → C) (old new : List A) (a : A) (xs : List B) (i : ℕ) (x : B) → i < length xs → x ≡ get_or xs i x → new ≡ old ++ a ∷ [] → h a ≡ f x
    → map h old ≡ map f (take i xs) → map h new ≡ map f (take (i + 1) xs)
one_more h f old new a xs i x within is more same before =
    ap (map h) more ∙ (map_push h old a ∙ ((λ k. before k ++ same k ∷ []) ∙ sym (images_more f xs i x within is)))

-- what holds of images holds of what they are images of
zip_images : {A B C : Type 0} (Is : A → C → Type 0) (f : B → C) (xs : List A) (ys : List B) → AllZip Is xs (map f ys) → AllZip (λ x y. Is x (f y)) xs ys
zip_images Is f [] [] all = tt
zip_images Is f [] (y ∷ ys) all = absurd all
zip_images Is f (x ∷ xs) [] all = absurd all
zip_images Is f (x ∷ xs) (y ∷ ys) all = (all.0, zip_images Is f xs ys all.1)

-- images of images, by what they are images of
both_images : {A B C X Y : Type 0} (f : A → B) (g : B → C) (h : X → Y) (k : Y → C) (xs : List A) (ys : List X) → map (λ x. g (f x)) xs ≡ map (λ y. k (h y)) ys → map g (map f xs) ≡ map k (map h ys)
both_images f g h k xs ys same = map-map g f xs ∙ (same ∙ sym (map-map k h ys))

-- the lookups of AIRs with their constraints are those that a text says
pub asserted : {F : Type 0} (element : ℕ → F) (text : List ℕ) (airs : List Air) (shapes : List AirShape) (named : List NamedAir) (said : List (Bor AirText)) (sets : List (Lookups F)) (found : List (AssertedAir F))
    → map (λ a. air_of a.now) said ≡ airs → AllZip (AreLookupsOf element text) (map said_of named) (map lookups_of sets)
    → map (λ (a : AssertedAir F). lookups_of a.lookups.now) found ≡ map lookups_of sets
    → map (λ (a : AssertedAir F). map tree_of a.constraints.items) found ≡ map (λ n. constraints_in element (map constraint_of n.constraints.items)) named
    → map (λ (a : AssertedAir F). map (λ v. v.items) a.counts.items) found ≡ map (λ a. counts_in (air_of a.now).items) said
    → map (λ (a : AssertedAir F). a.height) found ≡ map (λ s. (shape_of s).rows) shapes
    → AreAsserted element text airs (map shape_of shapes) (map said_of named) (map asserted_air_of found)
asserted {F} element text airs shapes named said sets found airs_are are lookups constraints counts heights = record {
  lookups = zip_images (AreLookupsOf element text) (λ (x : Asserted F). x.lookups) (map said_of named) (map asserted_air_of found)
      (subst (AllZip (AreLookupsOf element text) (map said_of named)) (sym (map-map (λ (x : Asserted F). x.lookups) asserted_air_of found ∙ lookups)) are);
  constraints = both_images asserted_air_of (λ (x : Asserted F). map tree_of x.constraints) said_of (λ (s : Said). constraints_in element s.constraints) found named constraints;
  counts = map-map (λ (x : Asserted F). x.counts) asserted_air_of found ∙ (counts ∙ (sym (map-map (λ (a : Air). counts_in a.items) (λ (a : Bor AirText). air_of a.now) said) ∙ ap (map (λ (a : Air). counts_in a.items)) airs_are));
  heights = both_images asserted_air_of (λ (x : Asserted F). x.height) shape_of (λ (s : Shape). s.rows) found shapes heights;
}
