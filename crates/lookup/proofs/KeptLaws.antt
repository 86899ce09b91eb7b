-- A packing keeps the weight, the messages, the nets, lawful flags, the widths of tuples, and the buses of what passes through.
use Rattle.std.proofs.Common.{◌≡◌, ◌+◌, ℕ, Bool, true, false, cond, not, List, [], ◌∷◌, ◌++◌, None, Result, map, All, refl, sym, ap, subst, ◌∙◌, arith, IfSome, Option, length, subst₂}
use Rattle.std.proofs.lemmas.List.{append-nil}
use Rattle.std.proofs.lemmas.List.Elements.{filter-append}
use Rattle.std.proofs.lemmas.List.Folds.{flat_map-map}
use Rattle.std.proofs.lemmas.List.Sorted.{IsPermutation-append, IsPermutation-append_left, IsPermutation-filter_both, IsPermutation-refl, IsPermutation-sym, IsPermutation-trans, sum_by-IsPermutation, IsPermutation-append_comm}
use Rattle.std.proofs.lemmas.List.Sums.{sum_by-append, sum_by-cons}
use Rattle.std.specs.List.{AllByRecursion, filter, filter_map, flat_map, range_with_len, sum_by, zip}
use Rattle.std.specs.List.Sorted.{IsPermutation}
use Rattle.std.specs.Option.{is_some, option_map_or, option_map}
use Rattle.list_laws.proofs.Parts.{singles, map-flat_map}
use Rattle.list_laws.proofs.Images.{filter_again, filter_all, filter_images, filter_none, sum_by-mapped}
use Rattle.list_laws.proofs.Each.{all_weaker, filter_passes, all_of_map, all_kept, each_of, all_images}
use Rattle.field.specs.Ring.{IsCommutativeRing, Ring}
use Rattle.matrix.specs.Matrix.{height}
use Rattle.air_expressions.specs.Window.{Window}
use Rattle.air.specs.Traces.{AirTraces, window_of}
use Rattle.air_expressions.specs.declared.base_expression.SymbolicExpression.{SymbolicExpression}
use Rattle.lookup_model.proofs.Lookups.Regrouping.{first_seen_separate}
use Rattle.lookup_model.specs.Message.{Key, Message, same_key}
use Rattle.lookup_model.specs.Net.{net}
use Rattle.lookup_model.specs.Outline.{Outline, bus_of, fields_of}
use Rattle.lookup_model.specs.Plain.{trace_messages}
use Rattle.lookup_model.specs.Records.{HasEqualLengths}
use Rattle.lookup_model.specs.Sent.{sent_at, values}
use Rattle.lookup_model.specs.Trace.{sent_row_under, sent_rows_under}
use Rattle.lookup_model.specs.declared.error.LookupError.{LookupError}
use Rattle.lookup_model.specs.declared.types.Lookup.{Lookup}
use Rattle.lookup.specs.Buses.{bus_names, on_bus}
use Rattle.lookup_model.specs.Names.{same_name}
use Rattle.lookup.specs.Cuts.{part_items}
use Rattle.lookup.specs.KeptByPacking.{HasIdOfBus, HaveSameIds, KeepsMessages, KeepsNets, KeepsTotalWeight, unjoined_ids, row_messages, KeepsLawfulFlags, KeepsUnjoinedBuses, unjoined_buses, KeepsWidths, widths_of}
use Rattle.lookup.specs.Packing.{AreFilled, IsPacking, additive_lookups, is_additive, joined_lookup, passing}
use Rattle.lookup.proofs.Columns.{columns_all, unnumbered, unnumbered_all, columns_give}
use Rattle.lookup.proofs.FewestColumns.{IsOn, members_on, none_additive}
use Rattle.lookup.proofs.JoinedMessages.{columns_messages, messages_of, own_messages, seen_messages, on_some_bus}
use Rattle.lookup.proofs.Rearranged.{among_names, grouped, parted}
use Rattle.lookup.proofs.RearrangedSums.{sum_in-passing, sum_in-permutation}
use Rattle.lookup.proofs.StepLaws.{no_flags_of, plain_on}
use Rattle.std.proofs.lemmas.Simd.{map-map}
use Rattle.lookup_model.specs.Batches.Messages.{HasLawfulFlags}
use Rattle.lookup_model.specs.Fault.{IsLawfulSelection}
use Rattle.std.proofs.lemmas.Grind.{flat_map-append}

-- what is seen of the items that pass a test of what is seen
pub filter_seen : {A B : Type 0} (see : A → B) (p : B → Bool) (xs : List A) → map see (filter (λ x. p (see x)) xs) ≡ filter p (map see xs)
filter_seen see p xs = sym (filter_images see (λ x. p (see x)) p (λ x. refl) xs)

module _ {E : Type 0} where
  module _ (answers : Outline E → Result ℕ LookupError → Type 0) (most : ℕ) (before : List (Outline E)) where
    module _ (after : List (Outline E)) (packing : IsPacking answers most before after) where
      -- the columns of all buses, which come behind what passes through
      abbrev columns : List (Outline E)
      columns = flat_map (λ cut. map joined_lookup cut) packing.cuts

      -- but for the numbers of the columns
      after_is : map unnumbered after ≡ map unnumbered (passing before ++ columns)
      after_is = ap (map unnumbered) packing.columns ∙ unnumbered_all 0 (passing before ++ columns)

      -- what the lookups that may be joined give, bus by bus
      on_buses : {M : Type 0} (f : Outline E → List M) → IsPermutation (flat_map f (additive_lookups before)) (flat_map (λ name. flat_map f (on_bus name (additive_lookups before))) (bus_names (additive_lookups before)))
      on_buses f = grouped f (bus_names (additive_lookups before)) (additive_lookups before) (first_seen_separate same_name (filter_map (λ o. o.bus) (additive_lookups before))) (among_names (additive_lookups before) (filter_passes is_additive before))

      all_additive : AllByRecursion (λ o. is_additive o ≡ true) columns
      all_additive = columns_all answers most (additive_lookups before) IsOn (λ name. members_on name before) (λ o. is_additive o ≡ true) (λ name part on. (on.0).joins) (bus_names (additive_lookups before)) packing.cuts packing.filled

      -- the lookups after that pass a test
      tested : (p : Outline E → Bool) → ((o : Outline E) → p (unnumbered o) ≡ p o) → map unnumbered (filter p after) ≡ map unnumbered (filter p (passing before) ++ filter p columns)
      tested p same =
          sym (filter_images unnumbered p p same after) ∙ ap (filter p) after_is ∙ filter_images unnumbered p p same (passing before ++ columns)
          ∙ ap (map unnumbered) (filter-append p (passing before) columns)

      -- those that may be joined are the columns of the buses, and the others those that pass through
      additive_after : map unnumbered (additive_lookups after) ≡ map unnumbered columns
      additive_after = tested is_additive (λ o. refl) ∙ ap (map unnumbered) (λ i. none_additive before i ++ filter_all is_additive columns all_additive i)

      pub passing_after : map unnumbered (passing after) ≡ map unnumbered (passing before)
      passing_after =
          tested (λ o. not (is_additive o)) (λ o. refl)
          ∙ ap (map unnumbered) ((λ i. filter_again (λ o. not (is_additive o)) before i ++ filter_none (λ o. not (is_additive o)) columns (all_weaker (λ o. is_additive o ≡ true) (λ o. not (is_additive o) ≡ false) (λ o is. ap not is) columns all_additive) i) ∙ append-nil (passing before))

module _ {E : Type 0} where
  abbrev weight : List (Outline E) → ℕ
  weight os = sum_by (λ o. o.count_weight) os

  -- a cut has the weight of its lookups
  cut_weight : (cut : List (Outline E × List (Outline E))) → weight (map joined_lookup cut) ≡ weight (flat_map part_items cut)
  cut_weight [] = refl
  cut_weight (p ∷ ps) =
      sum_by-cons (λ o. o.count_weight) (joined_lookup p) (map joined_lookup ps)
      ∙ ap (λ n. weight (part_items p) + n) (cut_weight ps)
      ∙ sym (sum_by-append (λ o. o.count_weight) (part_items p) (flat_map part_items ps))

  module _ (answers : Outline E → Result ℕ LookupError → Type 0) (most : ℕ) (os : List (Outline E)) where
    columns_weight : (names : List (List ℕ)) (cuts : List (List (Outline E × List (Outline E)))) → AreFilled answers most os names cuts
        → weight (flat_map (λ cut. map joined_lookup cut) cuts) ≡ weight (flat_map (λ name. flat_map (λ o. o ∷ []) (on_bus name os)) names)
    columns_weight [] [] filled = refl
    columns_weight (n ∷ ns) (c ∷ cs) filled =
        sum_by-append (λ o. o.count_weight) (map joined_lookup c) (flat_map (λ cut. map joined_lookup cut) cs)
        ∙ (λ i. (cut_weight c ∙ ap weight (filled.0.0 ∙ sym (singles (on_bus n os)))) i + columns_weight ns cs filled.1 i)
        ∙ sym (sum_by-append (λ o. o.count_weight) (flat_map (λ o. o ∷ []) (on_bus n os)) (flat_map (λ name. flat_map (λ o. o ∷ []) (on_bus name os)) ns))
    columns_weight ns cs filled = absurd filled

  packed_weight : (answers : Outline E → Result ℕ LookupError → Type 0) (most : ℕ) (before after : List (Outline E)) → IsPacking answers most before after → weight after ≡ weight before
  packed_weight answers most before after packing =
      let made = columns answers most before after packing in
      let same_weight = sum_by-IsPermutation (λ (o : Outline E). o.count_weight) in
      let all_columns : weight made ≡ weight (additive_lookups before) = columns_weight answers most (additive_lookups before) (bus_names (additive_lookups before)) packing.cuts packing.filled ∙ same_weight _ _ (on_buses answers most before after packing (λ o. o ∷ [])) ∙ ap weight (singles (additive_lookups before)) in
      let in_two = same_weight before (additive_lookups before ++ passing before) (IsPermutation-filter_both is_additive (λ o. not (is_additive o)) (λ o. refl) before) in
      sym (sum_by-mapped (λ o. o.count_weight) unnumbered after)
      ∙ ap weight (after_is answers most before after packing)
      ∙ sum_by-mapped (λ o. o.count_weight) unnumbered (passing before ++ made)
      ∙ sum_by-append (λ o. o.count_weight) (passing before) made
      ∙ omega (arith, all_columns, in_two, sum_by-append (λ o. o.count_weight) (additive_lookups before) (passing before))

-- messages
module _ {F : Type 0} (R : Ring F) (eq : F → F → Bool) (w : Window F) (bus_id : List ℕ → ℕ) (id : Lookup F → ℕ) where
  abbrev sends : Lookup F → List (Message F)
  sends l = (sent_at R eq w (id l) l).messages

  -- a lookup that may be joined sends its messages under the id of its bus
  own_sent : (l : Lookup F) → is_additive (fields_of l) ≡ true → HasIdOfBus bus_id id l → sends l ≡ own_messages R eq w bus_id (fields_of l)
  own_sent l joins has =
      let (name, on, none) = on_some_bus (fields_of l) joins in
      let flags : l.flags ≡ None = no_flags_of (λ fs. fs.items) (is_some (bus_of l.kind)) l.flags joins in
      seen_messages R eq w (id l) l ∙ ap (λ n. messages_of R eq w n (fields_of l)) (has name on flags ∙ sym (ap (λ bus. option_map_or bus_id bus 0) on))

  additive_sent : (ls : List (Lookup F)) → AllByRecursion (HasIdOfBus bus_id id) ls
      → flat_map sends (filter (λ l. is_additive (fields_of l)) ls) ≡ flat_map (own_messages R eq w bus_id) (additive_lookups (map fields_of ls))
  additive_sent [] has = refl
  additive_sent (l ∷ ls) has = grind (arith, additive_sent ls has.1, λ (e : is_additive (fields_of l) ≡ true). own_sent l e has.0)

  others_sent : (ls : List (Lookup F)) → flat_map sends ls ≡ flat_map (λ p. messages_of R eq w p.0 p.1) (zip (map id ls) (map unnumbered (map fields_of ls)))
  others_sent [] = refl
  others_sent (l ∷ ls) = λ i. seen_messages R eq w (id l) l i ++ others_sent ls i

  -- the messages of a row: those of the lookups that may be joined, and those of the others
  divided : (ls : List (Lookup F)) → AllByRecursion (HasIdOfBus bus_id id) ls
      → IsPermutation (row_messages R eq id w ls) (flat_map (own_messages R eq w bus_id) (additive_lookups (map fields_of ls)) ++ flat_map (λ p. messages_of R eq w p.0 p.1) (zip (unjoined_ids id ls) (map unnumbered (passing (map fields_of ls)))))
  divided ls has =
      let others = others_sent (filter (λ l. not (is_additive (fields_of l))) ls) ∙ ap (λ os. flat_map (λ p. messages_of R eq w p.0 p.1) (zip (unjoined_ids id ls) (map unnumbered os))) (filter_seen fields_of (λ o. not (is_additive o)) ls) in
      subst₂ IsPermutation (sym (flat_map-map (λ sent. sent.messages) (λ l. sent_at R eq w (id l) l) ls)) (λ i. additive_sent ls has i ++ others i) (parted sends (λ l. is_additive (fields_of l)) ls)

module _ {F : Type 0} (answers : Outline (SymbolicExpression F) → Result ℕ LookupError → Type 0) (most : ℕ) (before after : List (Lookup F)) (packing : IsPacking answers most (map fields_of before) (map fields_of after)) where
  -- the weight of all lookups stays
  pub kept_weight : KeepsTotalWeight before after
  kept_weight =
      sym (sum_by-mapped (λ o. o.count_weight) fields_of after)
      ∙ packed_weight answers most (map fields_of before) (map fields_of after) packing
      ∙ sum_by-mapped (λ o. o.count_weight) fields_of before

  module _ (R : Ring F) (eq : F → F → Bool) where
    -- the messages on every row stay
    pub kept_messages : All HasEqualLengths before → KeepsMessages R eq before after
    kept_messages lengths id_before id_after same w =
        let own = own_messages R eq w same.bus_id in
        let os = map fields_of before in
        let made = columns answers most os (map fields_of after) packing in
        let in_columns = columns_messages R eq w same.bus_id answers most os (bus_names (additive_lookups os)) packing.cuts (λ name. plain_on before name lengths) packing.filled in
        let later = sym (flat_map-map own unnumbered (additive_lookups (map fields_of after))) ∙ ap (flat_map own) (additive_after answers most os (map fields_of after) packing) ∙ flat_map-map own unnumbered made in
        let joined_sent = subst (IsPermutation (flat_map own (additive_lookups os))) (sym (later ∙ in_columns)) (on_buses answers most os (map fields_of after) packing own) in
        let send_others = λ (ids : List ℕ) (ps : List (Outline (SymbolicExpression F))). flat_map (λ p. messages_of R eq w p.0 p.1) (zip ids ps) in
        let others : send_others (unjoined_ids id_before before) (map unnumbered (passing os)) ≡ send_others (unjoined_ids id_after after) (map unnumbered (passing (map fields_of after))) =
        λ i. send_others (same.others i) (sym (passing_after answers most os (map fields_of after) packing) i) in
        IsPermutation-trans _ _ _ (divided R eq w same.bus_id id_before before same.by_bus_before)
        (IsPermutation-trans _ _ _
        (subst (λ (t : List (Message F)). IsPermutation (flat_map own (additive_lookups os) ++ send_others (unjoined_ids id_before before) (map unnumbered (passing os))) (flat_map own (additive_lookups (map fields_of after)) ++ t)) others (IsPermutation-append_left _ _ _ joined_sent))
        (IsPermutation-sym _ _ (divided R eq w same.bus_id id_after after same.by_bus_after)))

-- nets
module _ {F : Type 0} {R : Ring F} (laws : IsCommutativeRing R) (eq : F → F → Bool) where
  -- messages in another order have the same nets
  pub net-permutation : (xs ys : List (Message F)) → IsPermutation xs ys → (key : Key F) → net R eq ys key ≡ net R eq xs key
  net-permutation xs ys same key =
      sum_in-passing laws (λ m. m.multiplicity) (λ m. same_key eq key m.key) ys
      ∙ sum_in-permutation laws (λ m. cond (same_key eq key m.key) m.multiplicity R.zero) xs ys same
      ∙ sym (sum_in-passing laws (λ m. m.multiplicity) (λ m. same_key eq key m.key) xs)

-- messages of a trace, row by row
pub trace_kept : {F : Type 0} (R : Ring F) (eq : F → F → Bool) (before after : List (Lookup F)) → KeepsMessages R eq before after → (id_before id_after : Lookup F → ℕ) → HaveSameIds id_before before id_after after → (traces : AirTraces F)
    → IsPermutation (trace_messages (sent_rows_under R eq id_before traces before)) (trace_messages (sent_rows_under R eq id_after traces after))
trace_kept {F} R eq before after kept id_before id_after same traces = each (range_with_len 0 (height traces.main))
  where
    each : (rs : List ℕ) → IsPermutation (trace_messages (map (λ r. sent_row_under R eq id_before (window_of traces r) before) rs)) (trace_messages (map (λ r. sent_row_under R eq id_after (window_of traces r) after) rs))
    each [] = IsPermutation-refl []
    each (r ∷ rs) = IsPermutation-append _ _ _ _ (kept id_before id_after same (window_of traces r)) (each rs)

-- what keeps the messages of every row keeps the nets of a trace
pub kept_nets : {F : Type 0} {R : Ring F} (laws : IsCommutativeRing R) (eq : F → F → Bool) (before after : List (Lookup F)) → KeepsMessages R eq before after → KeepsNets R eq before after
kept_nets {F} {R} laws eq before after kept id_before id_after same traces key =
    net-permutation laws eq _ _ (trace_kept R eq before after kept id_before id_after same traces) key

module _ {F : Type 0} (R : Ring F) (eq : F → F → Bool) (w : Window F) where
  -- flags, of which there may be none, are lawful at the window
  abbrev AreLawful : Option (List (SymbolicExpression F)) → Type 0
  AreLawful flags = IfSome (option_map (values R w) flags) (IsLawfulSelection R eq)

  abbrev HasLawful : Outline (SymbolicExpression F) → Type 0
  HasLawful o = AreLawful o.flags

  lawful_fields : (id : Lookup F → ℕ) (ls : List (Lookup F)) → AllByRecursion (HasLawfulFlags R eq) (sent_row_under R eq id w ls) → AllByRecursion HasLawful (map fields_of ls)
  lawful_fields id [] all = tt
  lawful_fields id (l ∷ ls) all = (grind (arith, all.0), lawful_fields id ls all.1)

  lawful_sent : (id : Lookup F → ℕ) (ls : List (Lookup F)) → AllByRecursion HasLawful (map fields_of ls) → AllByRecursion (HasLawfulFlags R eq) (sent_row_under R eq id w ls)
  lawful_sent id [] all = tt
  lawful_sent id (l ∷ ls) all = (grind (arith, all.0), lawful_sent id ls all.1)

  -- those that may be joined have no flags
  of_passing : (os : List (Outline (SymbolicExpression F))) → AllByRecursion HasLawful (passing os) → AllByRecursion HasLawful os
  of_passing [] all = tt
  of_passing (o ∷ os) all = grind (arith, of_passing os, all)

module _ {F : Type 0} (answers : Outline (SymbolicExpression F) → Result ℕ LookupError → Type 0) (most : ℕ) (before after : List (Lookup F)) (packing : IsPacking answers most (map fields_of before) (map fields_of after)) where
  -- lawful flags stay lawful
  pub kept_flags : (R : Ring F) (eq : F → F → Bool) → KeepsLawfulFlags R eq before after
  kept_flags R eq id_before id_after w lawful =
      let Lawful = HasLawful R eq w in
      let os = map fields_of before in
      let those_before = all_kept Lawful (λ o. not (is_additive o)) os (lawful_fields R eq w id_before before lawful) in
      let those_after = subst (AllByRecursion Lawful) (sym (passing_after answers most os (map fields_of after) packing)) (all_images Lawful unnumbered (passing os) those_before) in
      lawful_sent R eq w id_after after (of_passing R eq w (map fields_of after) (all_of_map Lawful unnumbered (passing (map fields_of after)) those_after))

  -- the others stay on their buses
  pub kept_other_buses : KeepsUnjoinedBuses before after
  kept_other_buses = buses after ∙ ap (λ os. map (λ o. o.bus) os) (passing_after answers most (map fields_of before) (map fields_of after) packing) ∙ sym (buses before)
    where
      buses : (ls : List (Lookup F)) → unjoined_buses ls ≡ map (λ o. o.bus) (map unnumbered (passing (map fields_of ls)))
      buses ls =
          sym (map-map (λ (o : Outline (SymbolicExpression F)). o.bus) fields_of (filter (λ l. not (is_additive (fields_of l))) ls))
          ∙ ap (λ os. map (λ (o : Outline (SymbolicExpression F)). o.bus) os) (filter_seen fields_of (λ o. not (is_additive o)) ls)
          ∙ sym (map-map (λ (o : Outline (SymbolicExpression F)). o.bus) unnumbered (passing (map fields_of ls)))

  -- the widths of all tuples stay
  pub kept_widths : KeepsWidths before after
  kept_widths =
      let own = λ (o : Outline (SymbolicExpression F)). map length o.elements in
      let os = map fields_of before in
      let made = columns answers most os (map fields_of after) packing in
      let later = sym (flat_map-map own unnumbered (map fields_of after)) ∙ ap (flat_map own) (after_is answers most os (map fields_of after) packing) ∙ flat_map-map own unnumbered (passing os ++ made) ∙ flat_map-append own (passing os) made in
      let in_columns = columns_give answers most (additive_lookups os) (λ _ _. Unit {0}) (λ name. each_of (λ _. Unit {0}) (λ _. tt) (on_bus name (additive_lookups os))) own (λ name part _. map-flat_map length (λ o. o.elements) (part_items part)) (bus_names (additive_lookups os)) packing.cuts packing.filled in
      let joined_widths = subst (IsPermutation (flat_map own (additive_lookups os))) (sym in_columns) (on_buses answers most os (map fields_of after) packing own) in
      let both = IsPermutation-trans _ _ _ (IsPermutation-append_left (flat_map own (passing os)) _ _ joined_widths) (IsPermutation-append_comm (flat_map own made) (flat_map own (passing os))) in
      subst₂ IsPermutation (seen_widths before) (sym later ∙ seen_widths after) (IsPermutation-trans _ _ _ (parted own is_additive os) both)
    where
      seen_widths : (ls : List (Lookup F)) → flat_map (λ o. map length o.elements) (map fields_of ls) ≡ widths_of ls
      seen_widths [] = refl
      seen_widths (l ∷ ls) = λ i. map-map length (λ tuple. tuple.items) l.elements.items i ++ seen_widths ls i
