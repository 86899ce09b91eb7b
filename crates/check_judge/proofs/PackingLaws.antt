-- The parts of a packing, and what is kept of their lookups.
use Rattle.std.proofs.Common.{◌≡◌, ◌<◌, ◌+◌, ℕ, Result, List, [], ◌∷◌, ◌++◌, length, map, not, refl, sym, ap, ◌∙◌}
use Rattle.std.proofs.lemmas.Grind.{flat_map-append}
use Rattle.std.proofs.lemmas.List.{append-nil, length-append, map-append}
use Rattle.std.proofs.lemmas.List.Sums.{sum_by-cons}
use Rattle.std.specs.List.{AllByRecursion, AllZip, flat_map, sum_by}
use Rattle.list_laws.proofs.Each.{all_both, all_images, all_joined, all_kept, each_of}
use Rattle.list_laws.proofs.Images.{map-map}
use Rattle.check_judge.proofs.CutLaws.{held}
use Rattle.lookup.specs.Cuts.{IsCut, part_items}
use Rattle.lookup_model.specs.Names.{is_named}
use Rattle.lookup_model.specs.Outline.{Outline}
use Rattle.lookup_model.specs.declared.error.LookupError.{LookupError}
use Rattle.lookup.specs.Buses.{bus_names, on_bus}
use Rattle.lookup.specs.Packing.{IsFilling, IsPacking, additive_lookups, is_additive, joined_lookup, numbered_from, passing}
use Rattle.check_judge.specs.Sharing.{numbers_of, shared_by}
use Rattle.check_judge.specs.internal.Sharing.{in_packing_order, tuples_of}
use Rattle.check_judge.specs.declared.sharing.LookupTuples.{LookupTuples}

-- a part of one member
abbrev alone : {A : Type 0} → A → A × List A
alone x = (x, [])

flat_alone : {A : Type 0} (xs : List A) → flat_map part_items (map alone xs) ≡ xs
flat_alone [] = refl
flat_alone (x ∷ xs) = ap (λ t. x ∷ t) (flat_alone xs)

-- the parts of the cuts of lists, put together, are these lists
flat_cuts : {N A : Type 0} (f : N → List A) (names : List N) (cuts : List (List (A × List A))) → AllZip (λ name cut. flat_map part_items cut ≡ f name) names cuts
    → flat_map part_items (flat_map (λ cut. cut) cuts) ≡ flat_map f names
flat_cuts f [] [] all = refl
flat_cuts f (n ∷ ns) (c ∷ cs) all = flat_map-append part_items c (flat_map (λ cut. cut) cs) ∙ (λ i. all.0 i ++ flat_cuts f ns cs all.1 i)
flat_cuts f ns cs all = absurd all

module _ {E : Type 0} where
  -- what is kept of the lookups of a part
  abbrev pub members_of : Outline E × List (Outline E) → LookupTuples × List LookupTuples
  members_of part = (tuples_of part.0, map tuples_of part.1)

  flat_members : (parts : List (Outline E × List (Outline E))) → flat_map part_items (map members_of parts) ≡ map tuples_of (flat_map part_items parts)
  flat_members [] = refl
  flat_members (p ∷ ps) = ap (λ t. part_items (members_of p) ++ t) (flat_members ps) ∙ sym (map-append tuples_of (part_items p) (flat_map part_items ps))

  -- how many tuples the members of a part have together
  tuples_joined : (os : List (Outline E)) → sum_by (λ member. member.tuples) (map tuples_of os) ≡ length (flat_map (λ o. o.elements) os)
  tuples_joined [] = refl
  tuples_joined (o ∷ os) =
      sum_by-cons (λ member. member.tuples) (tuples_of o) (map tuples_of os) ∙ ap (λ n. length o.elements + n) (tuples_joined os) ∙ sym (length-append o.elements (flat_map (λ p. p.elements) os))

  sizes_numbered : (n : ℕ) (os : List (Outline E)) → map (λ o. length o.elements) (numbered_from n os) ≡ map (λ o. length o.elements) os
  sizes_numbered n [] = refl
  sizes_numbered n (o ∷ os) = ap (λ t. length o.elements ∷ t) (sizes_numbered (n + 1) os)

  -- all parts of cuts, behind what passes through
  abbrev pub parts_of : List (Outline E) → List (List (Outline E × List (Outline E))) → List (Outline E × List (Outline E))
  parts_of before cuts = map alone (passing before) ++ flat_map (λ cut. cut) cuts

  module _ (answers : Outline E → Result ℕ LookupError → Type 0) (max_degree : ℕ) (before after : List (Outline E)) (p : IsPacking answers max_degree before after) where
    abbrev pub kept_parts : List (LookupTuples × List LookupTuples)
    kept_parts = map members_of (parts_of before p.cuts)

    only_cuts : (names : List (List ℕ)) (cuts : List (List (Outline E × List (Outline E)))) → AllZip (λ name cut. IsFilling answers max_degree cut (on_bus name (additive_lookups before))) names cuts → AllZip (λ name cut. flat_map part_items cut ≡ on_bus name (additive_lookups before)) names cuts
    only_cuts [] [] all = tt
    only_cuts (n ∷ ns) (c ∷ cs) all = (all.0.0, only_cuts ns cs all.1)
    only_cuts ns cs all = absurd all

    pub kept_cut : IsCut kept_parts (map tuples_of (in_packing_order before))
    kept_cut =
        flat_members (parts_of before p.cuts)
        ∙ ap (map tuples_of) (flat_map-append part_items (map alone (passing before)) (flat_map (λ cut. cut) p.cuts)
        ∙ (λ i. flat_alone (passing before) i ++ flat_cuts (λ name. on_bus name (additive_lookups before)) (bus_names (additive_lookups before)) p.cuts (only_cuts (bus_names (additive_lookups before)) p.cuts p.filled) i))

    held_joined : (parts : List (Outline E × List (Outline E))) → map (held (λ member. member.tuples)) (map members_of parts) ≡ map (λ o. length o.elements) (map joined_lookup parts)
    held_joined [] = refl
    held_joined (q ∷ qs) = λ i. tuples_joined (part_items q) i ∷ held_joined qs i

    map_alone : (os : List (Outline E)) → map (λ o. length o.elements) (map joined_lookup (map alone os)) ≡ map (λ o. length o.elements) os
    map_alone [] = refl
    map_alone (o ∷ os) = λ i. ap length (append-nil o.elements) i ∷ map_alone os i

    joined_cuts : (cuts : List (List (Outline E × List (Outline E)))) → map joined_lookup (flat_map (λ cut. cut) cuts) ≡ flat_map (λ cut. map joined_lookup cut) cuts
    joined_cuts [] = refl
    joined_cuts (c ∷ cs) = map-append joined_lookup c (flat_map (λ cut. cut) cs) ∙ ap (λ t. map joined_lookup c ++ t) (joined_cuts cs)

    -- what the parts hold is what the columns have
    pub kept_sizes : map (held (λ member. member.tuples)) kept_parts ≡ map (λ o. length o.elements) after
    kept_sizes =
        held_joined (parts_of before p.cuts)
        ∙ ap (map (λ o. length o.elements)) (map-append joined_lookup (map alone (passing before)) (flat_map (λ cut. cut) p.cuts))
        ∙ map-append (λ o. length o.elements) (map joined_lookup (map alone (passing before))) (map joined_lookup (flat_map (λ cut. cut) p.cuts))
        ∙ (λ i. map_alone (passing before) i ++ map (λ o. length o.elements) (joined_cuts p.cuts i))
        ∙ sym (map-append (λ o. length o.elements) (passing before) (flat_map (λ cut. map joined_lookup cut) p.cuts))
        ∙ sym (ap (map (λ o. length o.elements)) p.columns ∙ sizes_numbered 0 (passing before ++ flat_map (λ cut. map joined_lookup cut) p.cuts))

    numbers_kept : (parts : List (Outline E × List (Outline E))) → map (λ part. map (λ member. member.number) (part_items part)) (map members_of parts) ≡ map numbers_of parts
    numbers_kept [] = refl
    numbers_kept (q ∷ qs) = λ i. map-map (λ member. member.number) tuples_of (part_items q) i ∷ numbers_kept qs i

    numbers_cuts : (cuts : List (List (Outline E × List (Outline E)))) → map numbers_of (flat_map (λ cut. cut) cuts) ≡ flat_map (λ cut. map numbers_of cut) cuts
    numbers_cuts [] = refl
    numbers_cuts (c ∷ cs) = map-append numbers_of c (flat_map (λ cut. cut) cs) ∙ ap (λ t. map numbers_of c ++ t) (numbers_cuts cs)

    pub kept_numbers : map (λ part. map (λ member. member.number) (part_items part)) kept_parts ≡ shared_by before p.cuts
    kept_numbers =
        numbers_kept (parts_of before p.cuts) ∙ map-append numbers_of (map alone (passing before)) (flat_map (λ cut. cut) p.cuts)
        ∙ (λ i. map-map numbers_of alone (passing before) i ++ numbers_cuts p.cuts i)

  -- each lookup in the order of packing has a tuple, if each lookup has
  pub order_taken : (os : List (Outline E)) → AllByRecursion (λ o. 0 < length o.elements) os → AllByRecursion (λ member. 0 < member.tuples) (map tuples_of (in_packing_order os))
  order_taken os each =
      all_images (λ member. 0 < member.tuples) tuples_of (in_packing_order os)
      (all_both (λ o. 0 < length o.elements) (passing os) (flat_map (λ name. on_bus name (additive_lookups os)) (bus_names (additive_lookups os))) (all_kept (λ o. 0 < length o.elements) (λ o. not (is_additive o)) os each)
      (all_joined (λ o. 0 < length o.elements) (λ name. on_bus name (additive_lookups os)) (bus_names (additive_lookups os))
      (each_of (λ name. AllByRecursion (λ o. 0 < length o.elements) (on_bus name (additive_lookups os))) (λ name. all_kept (λ o. 0 < length o.elements) (λ o. is_named name o.bus) (additive_lookups os) (all_kept (λ o. 0 < length o.elements) is_additive os each)) (bus_names (additive_lookups os)))))
