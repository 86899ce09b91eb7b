-- Groups that are checked one after another: those of local lookups, AIR by AIR, and those of buses.
use Rattle.std.proofs.Common.{◌++◌, ◌+◌, ℕ, Bool, List, [], ◌∷◌, Some, Result, Ok, Err, inl, inr, ◌≡◌, slice_get, take, drop, sym, subst, ◌<◌, ◌≤◌, true, false, cond, get_or, length, map, option_map, refl, ap, ◌∙◌, arith}
use Rattle.std.proofs.lemmas.Option.{get_or_from_slice_get, slice_get_within, slice_get-map, slice_get_read}
use Rattle.std.specs.Bool.{⊤}
use Rattle.std.specs.List.{AllByRecursion, flat_map, enumerate_from, filter}
use Rattle.std.proofs.lemmas.List.{map-append, take_all}
use Rattle.std.proofs.lemmas.List.Elements.{filter-append}
use Rattle.std.proofs.lemmas.List.Concat.{flat_map_single}
use Rattle.std.proofs.lemmas.List.FromFn.{length-enumerate_from}
use Rattle.list_laws.proofs.Each.{all_both, all_indexed, all_there}
use Rattle.list_laws.proofs.Items.{item_there, numbered_there}
use Rattle.list_laws.proofs.Parts.{flat_next, flat_split}
use Rattle.list_laws.proofs.Images.{map-map}
use Rattle.field.specs.Ring.{Ring}
use Rattle.air_expressions.proofs.FirstFaults.{fault_here, fault_later, fault_sooner}
use Rattle.lookup_model.specs.Outline.{bus_of}
use Rattle.lookup_model.specs.declared.types.Lookup.{Lookup}
use Rattle.lookup_debug.specs.Contributions.{Contribution, Traced, contributions_of, traced_of}
use Rattle.lookup_debug.specs.Groups.{Group, LookupAt, bus_group, bus_label, is_local, is_missing, local_group, local_groups, local_label, lookups_in}
use Rattle.lookup_debug.specs.Mismatch.{Balances, EachBalances, IsFirstMismatch, IsMismatchOf}
use Rattle.lookup_debug.specs.declared.fault.LookupFault.{LookupFault}
use Rattle.lookup_debug.specs.declared.instance.LookupDebugInstance.{LookupDebugInstance}
use Rattle.lookup_debug.specs.internal.Checks.{AnswersGroups, local_groups_in}

module _ {F : Type 0} (R : Ring F) (eq : F → F → Bool) where
  abbrev GroupBalances : Group F → Type 0
  GroupBalances g = Balances R eq g.contributions

  -- groups that balance, group by group and by their indices
  pub balance_at : (gs : List (Group F)) → AllByRecursion GroupBalances gs → EachBalances R eq gs
  balance_at gs all i group there = all_there GroupBalances gs i group all there

  all_balance : (gs : List (Group F)) → EachBalances R eq gs → AllByRecursion GroupBalances gs
  all_balance gs each = all_indexed GroupBalances gs (λ i g lt is. each i g (item_there gs i g lt is))

  balance-append : (gs hs : List (Group F)) → EachBalances R eq gs → EachBalances R eq hs → EachBalances R eq (gs ++ hs)
  balance-append gs hs left right = balance_at (gs ++ hs) (all_both GroupBalances gs hs (all_balance gs left) (all_balance hs right))

  module _ (text : F → List ℕ) where
    abbrev HasMismatch : LookupFault F → Group F → Type 0
    HasMismatch fault g = IsMismatchOf R eq text g.label g.contributions fault

    -- the mismatch of one group
    pub mismatch-here : (label : List ℕ) (cs : List (Contribution F)) (fault : LookupFault F) → IsMismatchOf R eq text label cs fault → IsFirstMismatch R eq text (record { label = label; contributions = cs } ∷ []) fault
    mismatch-here label cs fault is = fault_here GroupBalances (HasMismatch fault) (record { label = label; contributions = cs }) is

    -- it is the first whatever groups come after
    pub mismatch-sooner : (gs hs : List (Group F)) (fault : LookupFault F) → IsFirstMismatch R eq text gs fault → IsFirstMismatch R eq text (gs ++ hs) fault
    mismatch-sooner gs hs fault is = fault_sooner GroupBalances (HasMismatch fault) gs hs is

    -- and after groups that balance
    mismatch-later : (gs hs : List (Group F)) (fault : LookupFault F) → EachBalances R eq gs → IsFirstMismatch R eq text hs fault → IsFirstMismatch R eq text (gs ++ hs) fault
    mismatch-later gs hs fault each is = fault_later GroupBalances (HasMismatch fault) gs hs (all_balance gs each) is

    -- the answer of a check of groups after others that balance
    pub answers-after : (gs hs : List (Group F)) → EachBalances R eq gs → (result : Result ⊤ (LookupFault F)) → AnswersGroups R eq text hs result → AnswersGroups R eq text (gs ++ hs) result
    answers-after gs hs each (Ok done) rest = balance-append gs hs each rest
    answers-after gs hs each (Err fault) (inl memory) = inl memory
    answers-after gs hs each (Err fault) (inr is) = inr (mismatch-later gs hs fault each is)

  -- the groups of some items, item by item
  module _ {X : Type 0} (groups : X → List (Group F)) (xs : List X) (i : ℕ) (x : X) (there : slice_get xs i ≡ Some x) (before : EachBalances R eq (flat_map groups (take i xs))) where
    pub balance-more : EachBalances R eq (groups x) → EachBalances R eq (flat_map groups (take (i + 1) xs))
    balance-more here =
        subst (EachBalances R eq) (sym (flat_next groups xs i x (slice_get_within xs i x there) (sym (get_or_from_slice_get xs i x x there)))) (balance-append (flat_map groups (take i xs)) (groups x) before here)

    pub mismatch-at : (text : F → List ℕ) (fault : LookupFault F) → IsFirstMismatch R eq text (groups x) fault → IsFirstMismatch R eq text (flat_map groups xs) fault
    mismatch-at text fault here =
        let rest = flat_map groups (drop (i + 1) xs) in
        subst (λ gs. IsFirstMismatch R eq text gs fault) (sym (flat_split groups xs i x (slice_get_within xs i x there) (sym (get_or_from_slice_get xs i x x there))))
        (mismatch-later text (flat_map groups (take i xs)) (groups x ++ rest) fault before (mismatch-sooner text (groups x) rest fault here))

-- an AIR among those that a list of the program holds
pub traced_at : {F : Type 0} (instances : List (LookupDebugInstance F)) (i : ℕ) (instance : LookupDebugInstance F) → i < length instances → instance ≡ get_or instances i instance → slice_get (map traced_of instances) i ≡ Some (traced_of instance)
traced_at instances i instance lt is =
    slice_get-map traced_of instances i ∙ ap (option_map traced_of) (slice_get_read instances (length instances) i instance refl lt is)

-- images of items that pass a test, item by item
pub kept_images : {X Y Z : Type 0} (h : X → Y) (p : Y → Bool) (f : Y → Z) (xs : List X) → map f (filter p (map h xs)) ≡ flat_map (λ x. cond (p (h x)) (f (h x) ∷ []) []) xs
kept_images h p f [] = refl
kept_images h p f (x ∷ xs) = grind (arith, kept_images h p f xs)

-- those of the parts of some items, part by part
pub kept_parts : {X Y Z : Type 0} (h : X → List Y) (p : Y → Bool) (f : Y → Z) (xs : List X) → map f (filter p (flat_map h xs)) ≡ flat_map (λ x. map f (filter p (h x))) xs
kept_parts h p f [] = refl
kept_parts h p f (x ∷ xs) =
    ap (map f) (filter-append p (h x) (flat_map h xs))
    ∙ map-append f (filter p (h x)) (filter p (flat_map h xs))
    ∙ ap (λ t. map f (filter p (h x)) ++ t) (kept_parts h p f xs)

module _ {F : Type 0} (R : Ring F) (eq : F → F → Bool) where
  -- a lookup of an AIR at an index
  abbrev pub lookup_at : ℕ × Traced F → ℕ × Lookup F → LookupAt F
  lookup_at i l = record { instance = i.0; index = l.0; traced = i.1; lookup = l.1 }

  -- its group if it is local
  abbrev pub group_at : ℕ × Traced F → ℕ × Lookup F → List (Group F)
  group_at i l = cond (is_local (lookup_at i l)) (local_group R eq (lookup_at i l) ∷ []) []

  -- the groups of the first n lookups of an AIR that are local
  abbrev pub first_local_groups : ℕ × Traced F → ℕ → List (Group F)
  first_local_groups i n = flat_map (group_at i) (take n (enumerate_from 0 i.1.lookups))

  -- those of the first n AIRs
  abbrev pub first_air_groups : List (Traced F) → ℕ → List (Group F)
  first_air_groups instances n = flat_map (local_groups_in R eq) (take n (enumerate_from 0 instances))

  -- the local groups of an AIR, lookup by lookup
  pub local_groups-parts : (i : ℕ × Traced F) → local_groups_in R eq i ≡ flat_map (group_at i) (enumerate_from 0 i.1.lookups)
  local_groups-parts i = kept_images (lookup_at i) is_local (local_group R eq) (enumerate_from 0 i.1.lookups)

  -- and all of them, AIR by AIR
  pub air_groups-parts : (instances : List (Traced F)) → local_groups R eq instances ≡ flat_map (local_groups_in R eq) (enumerate_from 0 instances)
  air_groups-parts instances = kept_parts lookups_in is_local (local_group R eq) (enumerate_from 0 instances)

  -- a lookup of an AIR after some that balance
  module _ (i : ℕ × Traced F) (index : ℕ) (lookup : Lookup F) (there : slice_get i.1.lookups index ≡ Some lookup) (before : EachBalances R eq (first_local_groups i index)) where
    numbered : slice_get (enumerate_from 0 i.1.lookups) index ≡ Some (index, lookup)
    numbered = numbered_there i.1.lookups index lookup there

    -- what it contributes, and its group
    abbrev own : List (Contribution F)
    own = contributions_of R eq i.0 index i.1 lookup

    abbrev group : Group F
    group = local_group R eq (lookup_at i (index, lookup))

    pub local_mismatch : (text : F → List ℕ) (fault : LookupFault F) → is_missing (bus_of lookup.kind) ≡ true
        → IsMismatchOf R eq text (local_label i.0 index) own fault → IsFirstMismatch R eq text (local_groups_in R eq i) fault
    local_mismatch text fault local is =
        subst (λ gs. IsFirstMismatch R eq text gs fault) (sym (local_groups-parts i))
        (mismatch-at R eq (group_at i) (enumerate_from 0 i.1.lookups) index (index, lookup) numbered before text fault
        (subst (λ b. IsFirstMismatch R eq text (cond b (group ∷ []) []) fault) (sym local) (mismatch-here R eq text (local_label i.0 index) own fault is)))

    pub local_balances : is_missing (bus_of lookup.kind) ≡ true → Balances R eq own → EachBalances R eq (first_local_groups i (index + 1))
    local_balances local here =
        balance-more R eq (group_at i) (enumerate_from 0 i.1.lookups) index (index, lookup) numbered before
        (subst (λ b. EachBalances R eq (cond b (group ∷ []) [])) (sym local) (balance_at R eq (group ∷ []) (here, tt)))

    -- nothing is checked of one that is not local
    pub other_balances : is_missing (bus_of lookup.kind) ≡ false → EachBalances R eq (first_local_groups i (index + 1))
    other_balances other =
        balance-more R eq (group_at i) (enumerate_from 0 i.1.lookups) index (index, lookup) numbered before
        (subst (λ b. EachBalances R eq (cond b (group ∷ []) [])) (sym other) (balance_at R eq [] tt))

  -- all of them
  pub locals_balance : (i : ℕ × Traced F) (n : ℕ) → length i.1.lookups ≤ n → EachBalances R eq (first_local_groups i n) → EachBalances R eq (local_groups_in R eq i)
  locals_balance i n past before =
      let all = take_all n (enumerate_from 0 i.1.lookups) (omega (arith, past, length-enumerate_from 0 i.1.lookups)) in
      subst (EachBalances R eq) (ap (flat_map (group_at i)) all ∙ sym (local_groups-parts i)) before

  -- an AIR after some that balance
  module _ (instances : List (Traced F)) (index : ℕ) (traced : Traced F) (there : slice_get instances index ≡ Some traced) (before : EachBalances R eq (first_air_groups instances index)) where
    pub air_mismatch : (text : F → List ℕ) (fault : LookupFault F) → IsFirstMismatch R eq text (local_groups_in R eq (index, traced)) fault → IsFirstMismatch R eq text (local_groups R eq instances) fault
    air_mismatch text fault is =
        subst (λ gs. IsFirstMismatch R eq text gs fault) (sym (air_groups-parts instances))
        (mismatch-at R eq (local_groups_in R eq) (enumerate_from 0 instances) index (index, traced) (numbered_there instances index traced there) before text fault is)

    pub air_balances : EachBalances R eq (local_groups_in R eq (index, traced)) → EachBalances R eq (first_air_groups instances (index + 1))
    air_balances here = balance-more R eq (local_groups_in R eq) (enumerate_from 0 instances) index (index, traced) (numbered_there instances index traced there) before here

  -- all of them
  pub airs_balance : (instances : List (Traced F)) (n : ℕ) → length instances ≤ n → EachBalances R eq (first_air_groups instances n) → EachBalances R eq (local_groups R eq instances)
  airs_balance instances n past before =
      let all = take_all n (enumerate_from 0 instances) (omega (arith, past, length-enumerate_from 0 instances)) in
      subst (EachBalances R eq) (ap (flat_map (local_groups_in R eq)) all ∙ sym (air_groups-parts instances)) before

  -- buses by their names
  module _ {N : Type 0} (text_of : N → List ℕ) (all : List (Traced F)) (names : List N) where
    -- the group of a bus, alone
    abbrev bus_at : N → List (Group F)
    bus_at name = bus_group R eq all (text_of name) ∷ []

    -- the groups of the first n buses
    abbrev pub first_bus_groups : ℕ → List (Group F)
    first_bus_groups n = flat_map bus_at (take n names)

    bus_groups-parts : flat_map bus_at names ≡ map (bus_group R eq all) (map text_of names)
    bus_groups-parts = flat_map_single (λ name. bus_group R eq all (text_of name)) names ∙ sym (map-map (bus_group R eq all) text_of names)

    -- a bus after some that balance
    module _ (index : ℕ) (name : N) (there : slice_get names index ≡ Some name) (before : EachBalances R eq (first_bus_groups index)) where
      abbrev sent : List (Contribution F)
      sent = (bus_group R eq all (text_of name)).contributions

      pub bus_mismatch : (text : F → List ℕ) (fault : LookupFault F) → IsMismatchOf R eq text (bus_label (text_of name)) sent fault
          → IsFirstMismatch R eq text (map (bus_group R eq all) (map text_of names)) fault
      bus_mismatch text fault is =
          subst (λ gs. IsFirstMismatch R eq text gs fault) bus_groups-parts
          (mismatch-at R eq bus_at names index name there before text fault (mismatch-here R eq text (bus_label (text_of name)) sent fault is))

      pub bus_balances : Balances R eq sent → EachBalances R eq (first_bus_groups (index + 1))
      bus_balances here = balance-more R eq bus_at names index name there before (balance_at R eq (bus_at name) (here, tt))

    -- all of them
    pub buses_balance : (n : ℕ) → length names ≤ n → EachBalances R eq (first_bus_groups n) → EachBalances R eq (map (bus_group R eq all) (map text_of names))
    buses_balance n past before = subst (EachBalances R eq) (ap (flat_map bus_at) (take_all n names past) ∙ bus_groups-parts) before
