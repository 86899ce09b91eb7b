-- Groups as the program lists them, one after another.
use Rattle.std.proofs.Common.{◌≡◌, ◌++◌, ◌+◌, ◌≤◌, ◌<◌, [], ◌∷◌, Bool, List, Some, ℕ, append_assoc, cond, get_or, length, map, slice_get, subst, sym, take, ap, ◌∙◌, arith}
use Rattle.std.proofs.lemmas.List.{append-nil, map-append, take_all}
use Rattle.std.proofs.lemmas.List.Elements.{All-push}
use Rattle.std.proofs.lemmas.List.FromFn.{length-enumerate_from}
use Rattle.std.proofs.lemmas.Option.{get_or_from_slice_get, slice_get_within}
use Rattle.std.specs.Borrow.{Bor}
use Rattle.std.specs.List.{All, enumerate_from, flat_map}
use Rattle.list_laws.proofs.Images.{images_more}
use Rattle.list_laws.proofs.Items.{numbered_there}
use Rattle.list_laws.proofs.Parts.{flat_next}
use Rattle.field.specs.Ring.{Ring}
use Rattle.lookup_model.specs.Outline.{bus_of}
use Rattle.lookup_model.specs.declared.types.Lookup.{Lookup}
use Rattle.lookup_debug.specs.Contributions.{Traced}
use Rattle.lookup_debug.specs.Groups.{Group, bus_group, is_missing, local_group, local_groups}
use Rattle.lookup_debug.specs.declared.named_group.GroupAt.{GroupAt}
use Rattle.lookup_debug.specs.internal.Checks.{local_groups_in}
use Rattle.lookup_debug.specs.internal.GroupList.{AddsGroups, IsWalkable, ListsGroups, group_of}
use Rattle.lookup_debug.proofs.GroupLaws.{air_groups-parts, first_air_groups, first_local_groups, group_at, local_groups-parts, lookup_at}

module _ {F : Type 0} (R : Ring F) (eq : F → F → Bool) where
  module _ (all : List (Traced F)) where
    -- no more groups
    pub adds-none : (list : List (GroupAt F)) → AddsGroups R eq all list list []
    adds-none list gs lists = subst (ListsGroups R eq all list) (sym (append-nil gs)) lists

    -- some, and then more
    pub adds-more : (a b c : List (GroupAt F)) (gs hs : List (Group F)) → AddsGroups R eq all a b gs → AddsGroups R eq all b c hs → AddsGroups R eq all a c (gs ++ hs)
    adds-more a b c gs hs first then before lists =
        subst (ListsGroups R eq all c) (append_assoc before gs hs) (then (before ++ gs) (first before lists))

    -- one more
    pub adds-one : (before after : List (GroupAt F)) (g : GroupAt F) → after ≡ before ++ g ∷ [] → IsWalkable g → AddsGroups R eq all before after (group_of R eq all g ∷ [])
    adds-one before after g is walkable gs lists = (
      ap (map (group_of R eq all)) is
          ∙ map-append (group_of R eq all) before (g ∷ [])
          ∙ ap (λ t. t ++ group_of R eq all g ∷ []) lists.0,
      subst (All IsWalkable) (sym is) (All-push IsWalkable before g lists.1 walkable),
    )

  -- the groups of the first lookups of an AIR, with one more lookup
  pub local_next : (i : ℕ × Traced F) (index : ℕ) (lookup : Lookup F) → slice_get i.1.lookups index ≡ Some lookup → (b : Bool) → is_missing (bus_of lookup.kind) ≡ b
      → first_local_groups R eq i (index + 1) ≡ first_local_groups R eq i index ++ cond b (local_group R eq (lookup_at R eq i (index, lookup)) ∷ []) []
  local_next i index lookup there b is =
      let all = enumerate_from 0 i.1.lookups in
      let numbered : slice_get all index ≡ Some (index, lookup) = numbered_there i.1.lookups index lookup there in
      flat_next (group_at R eq i) all index (index, lookup) (slice_get_within all index (index, lookup) numbered) (sym (get_or_from_slice_get all index (index, lookup) (index, lookup) numbered))
      ∙ ap (λ c. first_local_groups R eq i index ++ cond c (local_group R eq (lookup_at R eq i (index, lookup)) ∷ []) []) is

  -- and of all of them
  pub locals_all : (i : ℕ × Traced F) (n : ℕ) → length i.1.lookups ≤ n → first_local_groups R eq i n ≡ local_groups_in R eq i
  locals_all i n past =
      ap (flat_map (group_at R eq i)) (take_all n (enumerate_from 0 i.1.lookups) (omega (arith, past, length-enumerate_from 0 i.1.lookups))) ∙ sym (local_groups-parts R eq i)

  -- the local groups of the first AIRs, with one more AIR
  pub air_next : (instances : List (Traced F)) (index : ℕ) (traced : Traced F) → slice_get instances index ≡ Some traced
      → first_air_groups R eq instances (index + 1) ≡ first_air_groups R eq instances index ++ local_groups_in R eq (index, traced)
  air_next instances index traced there =
      let all = enumerate_from 0 instances in
      let numbered : slice_get all index ≡ Some (index, traced) = numbered_there instances index traced there in
      flat_next (local_groups_in R eq) all index (index, traced) (slice_get_within all index (index, traced) numbered) (sym (get_or_from_slice_get all index (index, traced) (index, traced) numbered))

  -- and of all of them
  pub airs_all : (instances : List (Traced F)) (n : ℕ) → length instances ≤ n → first_air_groups R eq instances n ≡ local_groups R eq instances
  airs_all instances n past =
      ap (flat_map (local_groups_in R eq)) (take_all n (enumerate_from 0 instances) (omega (arith, past, length-enumerate_from 0 instances))) ∙ sym (air_groups-parts R eq instances)

  -- the groups of the first buses, with one more bus
  pub bus_next : (all : List (Traced F)) (names : List (Bor (List ℕ))) (i : ℕ) (name : Bor (List ℕ)) → i < length names → name ≡ get_or names i name
      → map (bus_group R eq all) (map (λ n. n.now) (take (i + 1) names)) ≡ map (bus_group R eq all) (map (λ n. n.now) (take i names)) ++ bus_group R eq all name.now ∷ []
  bus_next all names i name lt is =
      ap (map (bus_group R eq all)) (images_more (λ (n : Bor (List ℕ)). n.now) names i name lt is)
      ∙ map-append (bus_group R eq all) (map (λ (n : Bor (List ℕ)). n.now) (take i names)) (name.now ∷ [])
