-- As many ids as lookups, AIR by AIR.
use Rattle.std.proofs.Common.{◌≡◌, ◌<◌, ◌+◌, ◌++◌, ◌∷◌, ℕ, List, [], get_or, length, map, take, sym, ap, ◌∙◌, arith}
use Rattle.std.proofs.lemmas.List.{get_or-map, length-map}
use Rattle.std.specs.declared.alloc.Global.{Global}
use Rattle.std.specs.declared.vec.Vec.{Vec}
use Rattle.list_laws.proofs.Images.{mapped_at, same_length}
use Rattle.list_laws.proofs.Items.{take_item}
use Rattle.lookup.specs.Lookups.{lookups_of}
use Rattle.lookup.specs.declared.lookups.Lookups.{Lookups}
use Rattle.batch.specs.Lists.{lists_of}

module _ {F : Type 0} (ids : List (Vec ℕ Global)) (airs : List (Lookups F)) where
  -- the numbers of ids, and those of lookups
  abbrev pub id_counts : List ℕ
  id_counts = map length (lists_of ids)

  abbrev pub lookup_counts : List ℕ
  lookup_counts = map (λ air. length (lookups_of air)) airs

  -- where they are the same, there is a list for each AIR
  pub lists_for_airs : id_counts ≡ lookup_counts → length ids ≡ length airs
  lists_for_airs same = sym (length-map ids (λ l. l.items)) ∙ same_length length (λ air. length (lookups_of air)) (lists_of ids) airs same

  -- the list at an index and its AIR
  module _ (i : ℕ) (list : Vec ℕ Global) (air : Lookups F) (in_ids : i < length ids) (in_airs : i < length airs) (list_is : list ≡ get_or ids i list) (air_is : air ≡ get_or airs i air) where
    count_at : length list.items ≡ get_or id_counts i (length list.items)
    count_at = mapped_at length (lists_of ids) i list.items (omega (arith, in_ids, length-map ids (λ l. l.items))) (mapped_at (λ l. l.items) ids i list in_ids list_is)

    -- have one number then
    pub same_at : id_counts ≡ lookup_counts → length list.items ≡ length (lookups_of air)
    same_at same = count_at ∙ ap (λ ns. get_or ns i (length list.items)) same ∙ get_or-map (λ a. length (lookups_of a)) airs i air (length list.items) in_airs ∙ ap (λ a. length (lookups_of a)) (sym air_is)

    -- one AIR more
    pub counts_next : length list.items ≡ length (lookups_of air) → take i id_counts ≡ take i lookup_counts → take (i + 1) id_counts ≡ take (i + 1) lookup_counts
    counts_next same so_far =
        take_item id_counts i (length list.items) (omega (arith, in_ids, length-map ids (λ l. l.items), length-map (lists_of ids) length)) count_at
        ∙ (λ j. so_far j ++ same j ∷ [])
        ∙ sym (take_item lookup_counts i (length (lookups_of air)) (omega (arith, in_airs, length-map airs (λ a. length (lookups_of a)))) (mapped_at (λ a. length (lookups_of a)) airs i air in_airs air_is))
