-- A plan of packed AIRs has the ids of the plan of the AIRs before, under a renaming; and its tuples are as wide.
use Rattle.std.proofs.Common.{◌≡◌, ◌⊎◌, ◌<◌, ◌≤◌, ◌++◌, ℕ, All, Bool, true, false, cond, not, inl, inr, None, Option, Some, List, [], ◌∷◌, length, map, get_or, refl, sym, ap, subst, ◌∙◌, arith}
use Rattle.std.proofs.lemmas.List.{get_or-map, get_or_default, length-map, map-append, same_lists}
use Rattle.std.proofs.lemmas.List.Elements.{All-from_recursion, Contains-get_or, filter-append, recursion_from_All}
use Rattle.std.proofs.lemmas.List.Folds.{flat_map-map}
use Rattle.std.proofs.lemmas.List.Sorted.{All-permutation, IsPermutation-append, IsPermutation-refl, IsPermutation-sym}
use Rattle.std.proofs.lemmas.Option.{slice_get-get_or}
use Rattle.std.proofs.lemmas.Slice.Zip.{get_or-zip, length-zip}
use Rattle.std.specs.List.{AllByRecursion, AllZip, filter, flat_map, zip}
use Rattle.std.specs.List.Sorted.{IsPermutation}
use Rattle.std.specs.Option.{is_some}
use Rattle.list_laws.proofs.Each.{all_images, all_of_map, all_parts, all_weaker, each_of}
use Rattle.list_laws.proofs.Images.{filter_images, map-map, map_same, same_length}
use Rattle.list_laws.proofs.Items.{same_front, same_back}
use Rattle.list_laws.proofs.Parts.{flat_same, map-flat_map}
use Rattle.list_laws.proofs.Zips.{AllZip-same_parts, AllZip-weaker, zip-map_left, zip_mapped}
use Rattle.field.specs.Ring.{Ring}
use Rattle.air_expressions.specs.Window.{Window}
use Rattle.lookup_model.specs.Batches.Instances.{Instance}
use Rattle.lookup_model.specs.Batches.Messages.{HasLawfulFlags, id_of}
use Rattle.lookup_model.specs.LookupDegree.{greatest}
use Rattle.lookup_model.specs.Outline.{bus_of, fields_of}
use Rattle.lookup_model.specs.Sent.{branches_at, flags_at, sent, sent_at}
use Rattle.lookup_model.specs.Trace.{sent_row_under}
use Rattle.lookup_model.specs.declared.types.Lookup.{Lookup}
use Rattle.lookup.proofs.JoinedMessages.{on_some_bus}
use Rattle.lookup.proofs.StepLaws.{no_flags_of}
use Rattle.lookup.specs.KeptByPacking.{HasIdOfBus, KeepsLawfulFlags, KeepsMessages, KeepsUnjoinedBuses, KeepsSent, KeepsWidths, unjoined_ids, row_messages, widths_of}
use Rattle.lookup.specs.Lookups.{lookups_of}
use Rattle.lookup.specs.Packing.{is_additive}
use Rattle.lookup.specs.declared.lookups.Lookups.{Lookups}
use Rattle.checker_batches.specs.Packed.{ArePacked}
use Rattle.checker_batches.specs.Renamed.{IsInjective, renamed_instance}
use Rattle.batch.proofs.Greatest.{each_below, least}
use Rattle.batch.proofs.PairedLookups.{HasBusId, after_has_id, before_has_id, bus_id, passes, passing_renamed, rename, rename_apart}
use Rattle.batch.proofs.SharedBuses.{Entry}
use Rattle.batch.specs.Order.{bus_of_numbered}
use Rattle.batch.specs.Packing.{ArePackedAirs}
use Rattle.batch.specs.PlanFacts.{AreAssigned, all_tuple_widths, lookups_with_ids}
use Rattle.batch.specs.Traces.{batch_over, instance_over}
use Rattle.batch.specs.declared.trace.BatchTrace.{BatchTrace}

module _ {F : Type 0} where
  -- an AIR with its ids has one for each lookup
  abbrev HasIds : List ℕ × Lookups F → Type 0
  HasIds p = length p.0 ≡ length (lookups_of p.1)

  abbrev entries : List ℕ × Lookups F → List (Entry F)
  entries p = zip p.0 (lookups_of p.1)

  -- a lookup under the id at its column
  abbrev under : List ℕ → Lookup F → Entry F
  under ids l = (id_of ids l, l)

  -- which is its own
  with_ids : (p : List ℕ × Lookups F) → HasIds p → entries p ≡ map (under p.0) (lookups_of p.1)
  with_ids (ids, air) many = same_lists (zip ids ls) (map (under ids) ls) (omega (arith, length-zip ids ls, length-map ls (under ids), many)) each
    where
      ls : List (Lookup F)
      ls = lookups_of air

      each : (k : ℕ) (d : Entry F) → k < length (zip ids ls) → get_or (zip ids ls) k d ≡ get_or (map (under ids) ls) k d
      each k d lt =
          let k_ids : k < length ids = omega (arith, lt, length-zip ids ls) in
          let k_ls : k < length ls = omega (arith, lt, length-zip ids ls) in
          get_or-zip ids ls k d k_ids k_ls
          ∙ (λ j. ((get_or_default ids k d.0 0 k_ids ∙ ap (λ c. get_or ids c 0) (sym ((air.records k (get_or ls k d.1) k_ls (slice_get-get_or ls k d.1 k_ls)).0))) j, get_or ls k d.1))
          ∙ sym (get_or-map (under ids) ls k d.1 d k_ls)

  -- what passes through packing
  abbrev passing : Lookup F → Bool
  passing l = not (is_additive (fields_of l))

  module _ {B : Type 0} (f : Entry F → B) where
    abbrev of_passing : List ℕ × Lookups F → List B
    of_passing p = map f (filter passes (entries p))

    passing_is : (p : List ℕ × Lookups F) → HasIds p → of_passing p ≡ map (λ l. f (under p.0 l)) (filter passing (lookups_of p.1))
    passing_is p many =
        ap (λ t. map f (filter passes t)) (with_ids p many)
        ∙ ap (map f) (filter_images (under p.0) passing passes (λ l. refl) (lookups_of p.1))
        ∙ map-map f (under p.0) (filter passing (lookups_of p.1))

    -- AIR by AIR
    passing_parts : (ps : List (List ℕ × Lookups F)) → map f (filter passes (flat_map entries ps)) ≡ flat_map of_passing ps
    passing_parts [] = refl
    passing_parts (p ∷ ps) =
        ap (map f) (filter-append passes (entries p) (flat_map entries ps)) ∙ map-append f (filter passes (entries p)) (filter passes (flat_map entries ps))
        ∙ ap (λ t. of_passing p ++ t) (passing_parts ps)

  -- the lookups of an AIR have the ids of their buses
  by_bus : (bus_id : List ℕ → ℕ) (p : List ℕ × Lookups F) → HasIds p → AllByRecursion (HasBusId bus_id) (entries p) → AllByRecursion (HasIdOfBus bus_id (id_of p.0)) (lookups_of p.1)
  by_bus bus_id p many all =
      all_weaker (λ l. HasBusId bus_id (under p.0 l)) (HasIdOfBus bus_id (id_of p.0)) (λ l has name on none. has name on) (lookups_of p.1)
      (all_of_map (HasBusId bus_id) (under p.0) (lookups_of p.1) (subst (AllByRecursion (HasBusId bus_id)) (with_ids p many) all))

  -- a plan under renamed ids
  module _ (rename : ℕ → ℕ) (ids : List (List ℕ)) (airs : List (Lookups F)) where
    abbrev renamed_ids : List (List ℕ)
    renamed_ids = map (map rename) ids

    abbrev renamed_entry : Entry F → Entry F
    renamed_entry a = (rename a.0, a.1)

    assigned_renamed : lookups_with_ids renamed_ids airs ≡ map renamed_entry (lookups_with_ids ids airs)
    assigned_renamed =
        ap (flat_map entries) (zip-map_left (map rename) ids airs)
        ∙ flat_map-map entries (λ p. (map rename p.0, p.1)) (zip ids airs)
        ∙ flat_same (λ p. zip (map rename p.0) (lookups_of p.1)) (λ p. map renamed_entry (entries p)) (zip ids airs) (each_of _ (λ p. zip-map_left rename p.0 (lookups_of p.1)) (zip ids airs))
        ∙ sym (map-flat_map renamed_entry entries (zip ids airs))

    batch_renamed : (traces : List (BatchTrace F)) → map (renamed_instance rename) (batch_over ids airs traces) ≡ batch_over renamed_ids airs traces
    batch_renamed traces =
        map-map (renamed_instance rename) (λ t. instance_over t.0 t.1) (zip (zip ids airs) traces)
        ∙ zip_mapped (λ p. (map rename p.0, p.1)) instance_over (zip ids airs) traces
        ∙ ap (λ ps. map (λ t. instance_over t.0 t.1) (zip ps traces)) (sym (zip-map_left (map rename) ids airs))

module _ {F : Type 0} (R : Ring F) (eq : F → F → Bool) where
  -- what a plan needs of lookups that are packed or as they were
  record Keeps (before after : List (Lookup F)) : Type 0 where
    pub messages : KeepsMessages R eq before after
    pub flags : KeepsLawfulFlags R eq before after
    pub other_buses_are : KeepsUnjoinedBuses before after
    pub widths : KeepsWidths before after

  -- the same lookups send the same under the same ids
  rows_same : (id other : Lookup F → ℕ) (bus_id : List ℕ → ℕ) (w : Window F) (ls : List (Lookup F)) → AllByRecursion (HasIdOfBus bus_id id) ls → AllByRecursion (HasIdOfBus bus_id other) ls
      → unjoined_ids id ls ≡ unjoined_ids other ls → row_messages R eq id w ls ≡ row_messages R eq other w ls
  rows_same id other bus_id w [] one two same = refl
  rows_same id other bus_id w (l ∷ ls) one two same =
      let rest = filter passing ls in
      let next : id l ≡ other l → map id rest ≡ map other rest → row_messages R eq id w (l ∷ ls) ≡ row_messages R eq other w (l ∷ ls) = λ is ids i. (sent_at R eq w (is i) l).messages ++ rows_same id other bus_id w ls one.1 two.1 ids i in
      (elim (is_additive (fields_of l)) as (λ b. is_additive (fields_of l) ≡ b → map id (cond (not b) (l ∷ rest) rest) ≡ map other (cond (not b) (l ∷ rest) rest) → row_messages R eq id w (l ∷ ls) ≡ row_messages R eq other w (l ∷ ls)) [
        | true ↦ λ joins ids.
            let (name, on, none) = on_some_bus (fields_of l) joins in
            let flags : l.flags ≡ None = no_flags_of (λ fs. fs.items) (is_some (bus_of l.kind)) l.flags joins in
            next (one.0 name on flags ∙ sym (two.0 name on flags)) ids
        | false ↦ λ passes ids. next (cc ids) (cc ids)
      ]) refl same

  flags_same : (id other : Lookup F → ℕ) (w : Window F) (ls : List (Lookup F)) → AllByRecursion (HasLawfulFlags R eq) (sent_row_under R eq id w ls) → AllByRecursion (HasLawfulFlags R eq) (sent_row_under R eq other w ls)
  flags_same id other w [] lawful = tt
  flags_same id other w (l ∷ ls) lawful =
      let at = λ (n : ℕ) (flags : Option (List F)). HasLawfulFlags R eq (sent R eq flags (branches_at R w n l)) in
      ((elim (flags_at R w l) as (λ flags. at (id l) flags → at (other l) flags) [ None ↦ λ h. tt | Some fs ↦ λ h. h ]) lawful.0, flags_same id other w ls lawful.1)

  kept_itself : (ls : List (Lookup F)) → Keeps ls ls
  kept_itself ls = record {
    messages = λ id other same w. subst (IsPermutation (row_messages R eq id w ls)) (rows_same id other same.bus_id w ls same.by_bus_before same.by_bus_after same.others) (IsPermutation-refl (row_messages R eq id w ls));
    flags = λ id other w lawful. flags_same id other w ls lawful;
    other_buses_are = refl;
    widths = IsPermutation-refl (widths_of ls);
  }

  -- AIRs with their ids before and after
  record AreKept (p q : List ℕ × Lookups F) : Type 0 where
    pub many : HasIds p
    pub many_after : HasIds q
    pub keep : Keeps (lookups_of p.1) (lookups_of q.1)

  abbrev AllKeep : List (Lookups F) → List (Lookups F) → Type 0
  AllKeep airs later = AllZip (λ b a. Keeps (lookups_of b) (lookups_of a)) airs later

  all_keep : (airs later : List (Lookups F)) → ArePackedAirs R eq airs later → AllKeep airs later
  all_keep airs later packed = AllZip-weaker _ (λ b a. Keeps (lookups_of b) (lookups_of a)) by_case airs later packed
    where
      by_case : (b a : Lookups F) → (lookups_of a ≡ lookups_of b) ⊎ KeepsSent R eq (lookups_of b) (lookups_of a) → Keeps (lookups_of b) (lookups_of a)
      by_case b a (inl same) = subst (Keeps (lookups_of b)) (sym same) (kept_itself (lookups_of b))
      by_case b a (inr kept) = record { messages = kept.messages; flags = kept.flags; other_buses_are = kept.other_buses_are; widths = kept.widths }

  all_kept : (airs later : List (Lookups F)) (ids more : List (List ℕ)) → map length ids ≡ map (λ air. length (lookups_of air)) airs → map length more ≡ map (λ air. length (lookups_of air)) later
      → AllKeep airs later → AllZip AreKept (zip ids airs) (zip more later)
  all_kept [] [] [] [] many many_after keep = tt
  all_kept (b ∷ bs) (a ∷ rest) (i ∷ is) (j ∷ js) many many_after keep = (record { many = cc many; many_after = cc many_after; keep = keep.0 }, all_kept bs rest is js (cc many) (cc many_after) keep.1)
  all_kept airs later ids more many many_after keep = absurd (first_of (assumption keep, cc))

  same_buses : (p q : List ℕ × Lookups F) → AreKept p q → of_passing bus_of_numbered p ≡ of_passing bus_of_numbered q
  same_buses p q kept = passing_is bus_of_numbered p kept.many ∙ sym kept.keep.other_buses_are ∙ sym (passing_is bus_of_numbered q kept.many_after)

  -- the batch of a plan is packed into that of the plan after, where what passes through has the same ids
  plans_packed : (bus_id : List ℕ → ℕ) (ps qs : List (List ℕ × Lookups F)) (traces : List (BatchTrace F)) → AllZip AreKept ps qs
      → AllByRecursion (λ p. AllByRecursion (HasBusId bus_id) (entries p)) ps → AllByRecursion (λ q. AllByRecursion (HasBusId bus_id) (entries q)) qs → flat_map (of_passing (λ c. c.0)) ps ≡ flat_map (of_passing (λ c. c.0)) qs
      → ArePacked R eq (map (λ t. instance_over t.0 t.1) (zip ps traces)) (map (λ t. instance_over t.0 t.1) (zip qs traces))
  plans_packed bus_id [] [] traces kept before after alike = tt
  plans_packed bus_id (p ∷ ps) (q ∷ qs) [] kept before after alike = tt
  plans_packed bus_id (p ∷ ps) (q ∷ qs) (t ∷ ts) kept before after alike =
      let id = λ (c : Entry F). c.0 in
      let as_many : length (of_passing id p) ≡ length (of_passing id q) =
      length-map (filter passes (entries p)) id ∙ same_length bus_of_numbered bus_of_numbered (filter passes (entries p)) (filter passes (entries q)) (same_buses p q kept.0) ∙ sym (length-map (filter passes (entries q)) id) in (
        inr (record {
          traces = refl;
          messages = kept.0.keep.messages;
          flags = kept.0.keep.flags;
          ids = record {
            bus_id = bus_id;
            by_bus_before = by_bus bus_id p kept.0.many before.0;
            by_bus_after = by_bus bus_id q kept.0.many_after after.0;
            others = sym (passing_is id p kept.0.many) ∙ same_front _ _ _ _ as_many alike ∙ passing_is id q kept.0.many_after;
          };
        }),
        plans_packed bus_id ps qs ts kept.1 before.1 after.1 (same_back _ _ _ _ as_many alike),
      )
  plans_packed bus_id ps qs traces kept before after alike = absurd kept

  -- the renaming between a plan and that of its packed AIRs
  module _ (ids : List (List ℕ)) (airs : List (Lookups F)) (m : ℕ) (more : List (List ℕ)) (later : List (Lookups F)) (n : ℕ)
      (lawful : AreAssigned ids airs m) (lawful_after : AreAssigned more later n) (packed : ArePackedAirs R eq airs later) where
    abbrev xs : List (Entry F)
    xs = lookups_with_ids ids airs

    abbrev ys : List (Entry F)
    ys = lookups_with_ids more later

    pub same : map bus_of_numbered (filter passes xs) ≡ map bus_of_numbered (filter passes ys)
    same =
        passing_parts bus_of_numbered (zip ids airs)
        ∙ AllZip-same_parts AreKept (of_passing bus_of_numbered) (of_passing bus_of_numbered) same_buses (zip ids airs) (zip more later) (all_kept airs later ids more lawful.as_many lawful_after.as_many (all_keep airs later packed))
        ∙ sym (passing_parts bus_of_numbered (zip more later))

    pub below : All (λ b. b.0 < n) ys
    below = lawful_after.by_bus.below

    abbrev pub renaming : ℕ → ℕ
    renaming = rename xs ys lawful.by_bus.buses lawful_after.by_bus.buses same n below

    pub renaming_apart : IsInjective renaming
    renaming_apart = rename_apart xs ys lawful.by_bus.buses lawful_after.by_bus.buses same n below

    pub plan_packed : (traces : List (BatchTrace F)) → ArePacked R eq (map (renamed_instance renaming) (batch_over ids airs traces)) (batch_over more later traces)
    plan_packed traces =
        let ids_renamed = renamed_ids renaming ids airs in
        let many = map-map length (map renaming) ids ∙ map_same (λ i. length (map renaming i)) length (λ i. length-map i renaming) ids ∙ lawful.as_many in
        let Has = HasBusId (bus_id xs ys lawful.by_bus.buses lawful_after.by_bus.buses same n below) in
        let before = recursion_from_All (λ a. Has (renaming a.0, a.1)) xs (λ k d lt. before_has_id xs ys lawful.by_bus.buses lawful_after.by_bus.buses same n below (get_or xs k d) (Contains-get_or xs k d lt)) in
        let id = λ (c : Entry F). c.0 in
        subst (λ (batch : List (Instance F)). ArePacked R eq batch (batch_over more later traces)) (sym (batch_renamed renaming ids airs traces))
        (plans_packed _ (zip ids_renamed airs) (zip more later) traces (all_kept airs later ids_renamed more many lawful_after.as_many (all_keep airs later packed))
        (all_parts Has entries (zip ids_renamed airs) (subst (AllByRecursion Has) (sym (assigned_renamed renaming ids airs)) (all_images Has (renamed_entry renaming ids airs) xs before)))
        (all_parts Has entries (zip more later) (recursion_from_All Has ys (λ k d lt. after_has_id xs ys lawful.by_bus.buses lawful_after.by_bus.buses same n below (get_or ys k d) (Contains-get_or ys k d lt))))
        (sym (passing_parts id (zip ids_renamed airs))
        ∙ ap (λ t. map id (filter passes t)) (assigned_renamed renaming ids airs)
        ∙ ap (map id) (filter_images (renamed_entry renaming ids airs) passes passes (λ a. refl) xs)
        ∙ map-map id (renamed_entry renaming ids airs) (filter passes xs)
        ∙ passing_renamed xs ys lawful.by_bus.buses lawful_after.by_bus.buses same n below
        ∙ passing_parts id (zip more later)))

  -- the widths of all tuples
  widths_permuted : (airs later : List (Lookups F)) → AllKeep airs later → IsPermutation (all_tuple_widths airs) (all_tuple_widths later)
  widths_permuted [] [] keep = IsPermutation-refl []
  widths_permuted (b ∷ bs) (a ∷ later) keep = IsPermutation-append _ _ _ _ keep.0.widths (widths_permuted bs later keep.1)
  widths_permuted airs later keep = absurd keep

  pub greatest_stays : (airs later : List (Lookups F)) → ArePackedAirs R eq airs later → greatest (all_tuple_widths later) ≡ greatest (all_tuple_widths airs)
  greatest_stays airs later packed =
      let same = widths_permuted airs later (all_keep airs later packed) in
      omega (arith, within (all_tuple_widths airs) (all_tuple_widths later) same, within (all_tuple_widths later) (all_tuple_widths airs) (IsPermutation-sym _ _ same))
    where
      within : (ms ns : List ℕ) → IsPermutation ms ns → greatest ns ≤ greatest ms
      within ms ns same =
          let Below = λ (n : ℕ). n ≤ greatest ms in
          least (greatest ms) ns (recursion_from_All Below ns (All-permutation Below ms ns same (All-from_recursion Below ms (each_below (greatest ms) ms (omega arith)))))
