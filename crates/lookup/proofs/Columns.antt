-- The columns that the cuts of all buses make.
use Rattle.std.proofs.Common.{◌≡◌, ◌+◌, ℕ, List, [], ◌∷◌, Result, map, refl, sym, ap, subst, ◌∙◌}
use Rattle.std.proofs.lemmas.List.Folds.{flat_map-map}
use Rattle.std.specs.List.{AllByRecursion, flat_map}
use Rattle.list_laws.proofs.Each.{all_images, all_joined, all_parts, all_weaker}
use Rattle.list_laws.proofs.Parts.{flat_map-flat_map, flat_same}
use Rattle.list_laws.proofs.Zips.{AllZip-right, AllZip-same_parts}
use Rattle.lookup_model.specs.Outline.{Outline}
use Rattle.lookup_model.specs.declared.error.LookupError.{LookupError}
use Rattle.lookup.specs.Buses.{on_bus}
use Rattle.lookup.specs.Cuts.{part_items}
use Rattle.lookup.specs.Packing.{AreFilled, IsFilling, joined_lookup, numbered_from}

module _ {E : Type 0} where
  -- a lookup without the number of its column
  abbrev pub unnumbered : Outline E → Outline E
  unnumbered o = record o { column = 0 }

  pub unnumbered_all : (n : ℕ) (os : List (Outline E)) → map unnumbered (numbered_from n os) ≡ map unnumbered os
  unnumbered_all n [] = refl
  unnumbered_all n (o ∷ os) = ap (λ t. unnumbered o ∷ t) (unnumbered_all (n + 1) os)

module _ {E : Type 0} (answers : Outline E → Result ℕ LookupError → Type 0) (most : ℕ) (os : List (Outline E)) (P : List ℕ → Outline E → Type 0) (members : (name : List ℕ) → AllByRecursion (P name) (on_bus name os)) where
  -- what holds of the lookups on a bus holds of the members of each part
  in_parts : (name : List ℕ) (cut : List (Outline E × List (Outline E))) → IsFilling answers most cut (on_bus name os) → AllByRecursion (λ part. AllByRecursion (P name) (part_items part)) cut
  in_parts name cut filling = all_parts (P name) part_items cut (subst (λ (t : List (Outline E)). AllByRecursion (P name) t) (sym filling.0) (members name))

  -- what follows of what each part makes holds of all columns
  pub columns_all : (Q : Outline E → Type 0) → ((name : List ℕ) (part : Outline E × List (Outline E)) → AllByRecursion (P name) (part_items part) → Q (joined_lookup part))
      → (names : List (List ℕ)) (cuts : List (List (Outline E × List (Outline E)))) → AreFilled answers most os names cuts → AllByRecursion Q (flat_map (λ cut. map joined_lookup cut) cuts)
  columns_all Q each names cuts filled =
      all_joined Q (λ cut. map joined_lookup cut) cuts
      (AllZip-right (λ name cut. IsFilling answers most cut (on_bus name os)) (λ cut. AllByRecursion Q (map joined_lookup cut))
      (λ name cut filling. all_images Q joined_lookup cut (all_weaker (λ part. AllByRecursion (P name) (part_items part)) (λ part. Q (joined_lookup part)) (each name) cut (in_parts name cut filling))) names cuts filled)

  -- where each part gives what its members give, all columns give what the lookups on the buses give
  pub columns_give : {M : Type 0} (f : Outline E → List M) → ((name : List ℕ) (part : Outline E × List (Outline E)) → AllByRecursion (P name) (part_items part) → f (joined_lookup part) ≡ flat_map f (part_items part))
      → (names : List (List ℕ)) (cuts : List (List (Outline E × List (Outline E)))) → AreFilled answers most os names cuts → flat_map f (flat_map (λ cut. map joined_lookup cut) cuts) ≡ flat_map (λ name. flat_map f (on_bus name os)) names
  columns_give f each names cuts filled =
      flat_map-flat_map f (λ cut. map joined_lookup cut) cuts
      ∙ sym (AllZip-same_parts (λ name cut. IsFilling answers most cut (on_bus name os)) (λ name. flat_map f (on_bus name os)) (λ cut. flat_map f (map joined_lookup cut)) (λ name cut filling. sym (of_cut name cut filling)) names cuts filled)
    where
      of_cut : (name : List ℕ) (cut : List (Outline E × List (Outline E))) → IsFilling answers most cut (on_bus name os) → flat_map f (map joined_lookup cut) ≡ flat_map f (on_bus name os)
      of_cut name cut filling =
          flat_map-map f joined_lookup cut
          ∙ flat_same (λ part. f (joined_lookup part)) (λ part. flat_map f (part_items part)) cut (all_weaker (λ part. AllByRecursion (P name) (part_items part)) (λ part. f (joined_lookup part) ≡ flat_map f (part_items part)) (each name) cut (in_parts name cut filling))
          ∙ sym (flat_map-flat_map f part_items cut) ∙ ap (flat_map f) filling.0
