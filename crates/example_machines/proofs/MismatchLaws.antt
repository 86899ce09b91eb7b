-- The line of the first tuple of a machine that does not balance.
use Rattle.std.proofs.Common.{◌≡◌, ◌<◌, ◌+◌, ◌++◌, ℕ, zero, suc, Bool, true, Option, None, Some, IfSome, List, [], ◌∷◌, All, codes, map, nat_eq, slice_get, refl, sym, ap, ap₂, subst, arith, ◌∙◌, Decides}
use Rattle.std.proofs.lemmas.List.{append-nil}
use Rattle.std.proofs.lemmas.List.Elements.{All-map, All-from_recursion}
use Rattle.std.specs.List.{AllByRecursion, AllZip, enumerate_from, filter, filter_map, flat_map, range_with_len}
use Rattle.std.specs.Cmp.Lexicographic.{pointwise}
use Rattle.list_laws.proofs.Each.{All-of_map, all_there, all_of_map}
use Rattle.list_laws.proofs.Parts.{same_parts}
use Rattle.field.specs.Ring.{Ring, IsCommutativeRing}
use Rattle.matrix.specs.Matrix.{Matrix, height, row}
use Rattle.air.specs.Traces.{HaveOneHeight, layout_of}
use Rattle.air_expressions.specs.Layout.{layout_of_widths}
use Rattle.air_expressions.specs.Window.{window_at}
use Rattle.field.specs.Extension.{Extension}
use Rattle.lookup_model.specs.Challenges.{table_key_denominator}
use Rattle.lookup_model.specs.Fault.{IsLawfulSelection, are_boolean}
use Rattle.lookup_model.specs.Net.{first_seen}
use Rattle.lookup_model.specs.Outline.{bus_of}
use Rattle.lookup_model.specs.Records.{LookupsFit}
use Rattle.lookup_model.specs.Sent.{Sent, sent_at}
use Rattle.lookup_model.specs.declared.types.Lookup.{Lookup}
use Rattle.lookup_model.specs.Batches.Messages.{HasLawfulFlags}
use Rattle.lookup_model.proofs.Counting.LawfulFlags.{lawful_rows}
use Rattle.lookup.specs.Lookups.{lookups_of}
use Rattle.lookup_debug.specs.Contributions.{Contribution, Traced, contributions_of, contributions_on, traced_of}
use Rattle.lookup_debug.specs.FaultText.{fault_text, mismatch_text}
use Rattle.lookup_debug.specs.Groups.{Group, LookupAt, bus_label, groups, is_local, is_on, local_group, local_label, lookup_contributions, lookups_in}
use Rattle.lookup_debug.specs.Mismatch.{AllBalance, Balances, IsFirst, IsMismatch, IsMismatchOf, net_amount}
use Rattle.lookup_debug.specs.declared.fault.LookupFault.{LookupFault}
use Rattle.lookup_debug.specs.declared.instance.LookupDebugInstance.{LookupDebugInstance}
use Rattle.lookup_debug.specs.SentContributions.{sent_contributions}
use Rattle.lookup_debug.proofs.SentContributionLaws.{contributions_sent}
use Rattle.example_machines.specs.Machines.{air_bus_and_weight, air_sends, machine_air_trace, airs_of}
use Rattle.example_machines.specs.Mismatches.{air_contributions, label_of, machine_contributions, mismatch_line}
use Rattle.example_machines.specs.Program.{AreFaultlessMachineAirs, air_rows, run_table}
use Rattle.example_machines.specs.declared.airs.MachineAir.{MachineAir}
use Rattle.example_machines.specs.declared.airs.MachineAir.TheVariants.{Entries, Group as GroupAir, Keys, RangeCheck}
use Rattle.example_machines.specs.declared.machine.Machine.{Machine}
use Rattle.example_machines.specs.declared.machine.Machine.TheVariants.{Bus, Exclusive, Range}
use Rattle.example_machines.specs.declared.traces.AirTrace.{AirTrace}
use Rattle.example_machines.specs.internal.Mismatches.{AreFlagsBoolean, HasBooleanFlags}
use Rattle.example_machines.specs.internal.Traces.{IsTraceOf, traced_over}
use Rattle.list_laws.proofs.Items.{range_at}
use Rattle.list_laws.proofs.Zips.{AllZip-right}
use Rattle.example_machines.proofs.BatchLaws.{one_lookup, row_widths}

-- what holds of the one item of each row
at_row : {S : Type 0} (P : S → Type 0) (f : ℕ → S) (a n : ℕ) → AllByRecursion (AllByRecursion P) (map (λ r. f r ∷ []) (range_with_len a n)) → (k : ℕ) → k < n → P (f (a + k))
at_row P f a n all k lt =
    let rs = range_with_len a n in
    (all_there (λ r. AllByRecursion P (f r ∷ [])) rs k (a + k) (all_of_map (AllByRecursion P) (λ r. f r ∷ []) rs all) (range_at a n k rs refl lt)).0

-- without a fault each flag of a machine is zero or one
pub flags_boolean : {F K : Type 0} (E : Extension F K) (machine : Machine) (alpha beta : K) (input : Matrix F) → AreFaultlessMachineAirs E machine alpha beta input → AreFlagsBoolean E.base E.base_eq machine input
flags_boolean {F} E machine alpha beta input faultless i air is r lt =
    let trace = machine_air_trace air input in
    let sends : ℕ → Sent F = λ k. air_sends E.base E.base_eq air (row trace k) in
    let lawful = lawful_rows E (table_key_denominator E (run_table E alpha beta)) (air_rows E alpha beta input air) (faultless i air is) in
    let here : HasLawfulFlags E.base E.base_eq (sends (0 + r)) = at_row (HasLawfulFlags E.base E.base_eq) sends 0 (height trace) lawful r lt in
    let same : 0 + r ≡ r = omega arith in
    boolean (sends r).flags (subst (λ k. HasLawfulFlags E.base E.base_eq (sends k)) same here)
  where
    boolean : (flags : Option (List F)) → IfSome flags (IsLawfulSelection E.base E.base_eq) → IfSome flags (λ fs. are_boolean E.base E.base_eq fs ≡ true)
    boolean flags lawful = grind (arith, lawful)

module _ {F : Type 0} {R : Ring F} (laws : IsCommutativeRing R) (eq : F → F → Bool) (decides : (a b : F) → Decides (eq a b) (a ≡ b)) (input : Matrix F) where
  -- the flags that an AIR sends are zero or one
  abbrev AreAirFlagsBoolean : MachineAir → Type 0
  AreAirFlagsBoolean air = (r : ℕ) → r < height (machine_air_trace air input) → HasBooleanFlags R eq (air_sends R eq air (row (machine_air_trace air input) r))

  module _ (air : MachineAir) (trace : AirTrace F) (is : IsTraceOf R eq input air trace) where
    -- the one lookup of an AIR
    abbrev the_lookup : Lookup F
    the_lookup = (one_lookup R eq input air trace is).0

    -- sends on a row what the AIR sends
    sends_row : (r : ℕ) → r < height trace.main → sent_at R eq (window_at trace.main None [] (height trace.main) r) 0 the_lookup ≡ air_sends R eq air (row trace.main r)
    sends_row r lt =
        let w = window_at trace.main None [] (height trace.main) r in
        let all = is.lookups.sends w (row_widths R eq input air trace is trace.main (ap (λ m. m.width) is.main) r lt) in
        let one : sent_at R eq w 0 the_lookup ∷ [] ≡ air_sends R eq air (row trace.main r) ∷ [] =
        ap (λ ls. map (λ l. sent_at R eq w 0 l) ls) (sym (one_lookup R eq input air trace is).1) ∙ all in
        cc one

    -- contributes what the AIR does
    air_is : (index : ℕ) → AreAirFlagsBoolean air → contributions_of R eq index 0 (traced_over trace) the_lookup ≡ air_contributions R eq index air (machine_air_trace air input)
    air_is index boolean =
        same_parts (contributions_on R eq index 0 (traced_over trace) the_lookup) part 0 (height trace.main) (λ r lt. on_row r (omega (arith, lt)))
        ∙ ap (λ (m : Matrix F). flat_map (λ r. sent_contributions R eq (record { instance = index; lookup = 0; row = r }) (air_sends R eq air (row m r))) (range_with_len 0 (height m))) is.main
      where
        part : ℕ → List (Contribution F)
        part r = sent_contributions R eq (record { instance = index; lookup = 0; row = r }) (air_sends R eq air (row trace.main r))

        on_row : (r : ℕ) → r < height trace.main → contributions_on R eq index 0 (traced_over trace) the_lookup r ≡ part r
        on_row r lt =
            let w = window_at trace.main None [] (height trace.main) r in
            let sent : sent_at R eq w 0 the_lookup ≡ air_sends R eq air (row trace.main r) = sends_row r lt in
            let there : HasBooleanFlags R eq (air_sends R eq air (row trace.main r)) =
            subst (λ (m : Matrix F). r < height m → HasBooleanFlags R eq (air_sends R eq air (row m r))) (sym is.main) (boolean r) lt in
            contributions_sent laws eq decides (record { instance = index; lookup = 0; row = r }) w the_lookup (subst (HasBooleanFlags R eq) (sym sent) there)
            ∙ ap (sent_contributions R eq (record { instance = index; lookup = 0; row = r })) sent

    -- the bus of its lookup
    kind_is : bus_of the_lookup.kind ≡ (air_bus_and_weight air).0
    kind_is = ap (λ p. p.0) (one_lookup R eq input air trace is).2

    -- and its index among others
    abbrev the_lookup_at : ℕ → LookupAt F
    the_lookup_at i = record { instance = i; index = 0; traced = traced_over trace; lookup = the_lookup }

    lookup_at_is : (i : ℕ) → lookups_in (i, traced_over trace) ≡ the_lookup_at i ∷ []
    lookup_at_is i = ap (λ ls. map (λ l. record { instance = i; index = l.0; traced = traced_over trace; lookup = l.1 }) (enumerate_from 0 ls)) (one_lookup R eq input air trace is).1

  -- the groups of some lookups
  abbrev groups_over : List (LookupAt F) → List (Group F)
  groups_over ps =
      map (local_group R eq) (filter is_local ps)
      ++ map (λ name. record { label = bus_label name; contributions = flat_map (lookup_contributions R eq) (filter (is_on name) ps) }) (first_seen (pointwise nat_eq) (filter_map (λ p. bus_of p.lookup.kind) ps))

  one_local : (p : LookupAt F) → bus_of p.lookup.kind ≡ None → groups_over (p ∷ []) ≡ local_group R eq p ∷ []
  one_local p none = rw none refl

  on_one_bus : (name : List ℕ) (p : LookupAt F) → bus_of p.lookup.kind ≡ Some name → pointwise nat_eq name name ≡ true
      → groups_over (p ∷ []) ≡ record { label = bus_label name; contributions = lookup_contributions R eq p ++ [] } ∷ []
  on_one_bus name p is same = rw (is, same) refl

  two_on_one_bus : (name : List ℕ) (p q : LookupAt F) → bus_of p.lookup.kind ≡ Some name → bus_of q.lookup.kind ≡ Some name → pointwise nat_eq name name ≡ true
      → groups_over (p ∷ q ∷ []) ≡ record { label = bus_label name; contributions = lookup_contributions R eq p ++ (lookup_contributions R eq q ++ []) } ∷ []
  two_on_one_bus name p q first second same = rw (first, second, same) refl

  -- a machine has one group
  abbrev machine_group : Machine → Group F
  machine_group machine = record { label = label_of machine; contributions = machine_contributions R eq machine input }

  groups_are : (machine : Machine) (traces : List (AirTrace F)) → AllZip (IsTraceOf R eq input) (airs_of machine) traces → AreFlagsBoolean R eq machine input
      → groups R eq (map traced_over traces) ≡ machine_group machine ∷ []
  groups_are Range (t ∷ []) all boolean =
      ap groups_over (ap (λ ps. ps ++ []) (lookup_at_is RangeCheck t all.0 0))
      ∙ one_local (the_lookup_at RangeCheck t all.0 0) (kind_is RangeCheck t all.0)
      ∙ ap (λ cs. record { label = local_label 0 0; contributions = cs } ∷ []) (air_is RangeCheck t all.0 0 (boolean 0 RangeCheck refl) ∙ sym (append-nil _))
  groups_are Exclusive (t ∷ []) all boolean =
      ap groups_over (ap (λ ps. ps ++ []) (lookup_at_is GroupAir t all.0 0))
      ∙ on_one_bus (codes "rc") (the_lookup_at GroupAir t all.0 0) (kind_is GroupAir t all.0) refl
      ∙ ap (λ cs. record { label = bus_label (codes "rc"); contributions = cs ++ [] } ∷ []) (air_is GroupAir t all.0 0 (boolean 0 GroupAir refl))
  groups_are Bus (t ∷ u ∷ []) all boolean =
      ap groups_over (ap₂ (λ ps qs. ps ++ (qs ++ [])) (lookup_at_is Keys t all.0 0) (lookup_at_is Entries u all.1.0 1))
      ∙ two_on_one_bus (codes "b") (the_lookup_at Keys t all.0 0) (the_lookup_at Entries u all.1.0 1) (kind_is Keys t all.0) (kind_is Entries u all.1.0) refl
      ∙ ap₂ (λ cs ds. record { label = bus_label (codes "b"); contributions = cs ++ (ds ++ []) } ∷ []) (air_is Keys t all.0 0 (boolean 0 Keys refl)) (air_is Entries u all.1.0 1 (boolean 1 Entries refl))
  groups_are machine traces all boolean = absurd (grind (arith, all))

  module _ (machine : Machine) (traces : List (AirTrace F)) (all : AllZip (IsTraceOf R eq input) (airs_of machine) traces) (boolean : AreFlagsBoolean R eq machine input) where
    -- no mismatch
    pub none_mismatched : AllBalance R eq (map traced_over traces) → Balances R eq (machine_contributions R eq machine input)
    none_mismatched balance = balance 0 (machine_group machine) (ap (λ gs. slice_get gs 0) (groups_are machine traces all boolean))

    -- the mismatch of that group
    pub mismatched : (text : F → List ℕ) (fault : LookupFault F) → IsMismatch R eq text (map traced_over traces) fault
        → (tuple : List F) × IsFirst R eq text (machine_contributions R eq machine input) tuple × (fault_text text fault ++ codes "\n" ≡ mismatch_line R eq text machine input tuple)
    mismatched text fault m = at_index m.index m.item (ap (λ gs. slice_get gs m.index) (sym (groups_are machine traces all boolean)) ∙ m.is_there) m.fault
      where
        at_index : (i : ℕ) (group : Group F) → slice_get (machine_group machine ∷ []) i ≡ Some group → IsMismatchOf R eq text group.label group.contributions fault
            → (tuple : List F) × IsFirst R eq text (machine_contributions R eq machine input) tuple × (fault_text text fault ++ codes "\n" ≡ mismatch_line R eq text machine input tuple)
        at_index zero group is here =
            let same : machine_group machine ≡ group = cc is in
            let told : IsMismatchOf R eq text (label_of machine) (machine_contributions R eq machine input) fault =
            subst (λ (g : Group F). IsMismatchOf R eq text g.label g.contributions fault) (sym same) here in
            let parts = told.fault_is in
            let net = text (net_amount R eq (machine_contributions R eq machine input) told.tuple) in
            let whole = ap (fault_text text) parts.fault_is ∙ (λ i. mismatch_text (parts.label_is i) (parts.tuple_is i) net (parts.locations_are i)) in
            (told.tuple, told.first, ap (λ t. t ++ codes "\n") whole)
        at_index (suc i) group is here = absurd (cc is)

-- traces of a machine are fit for the debug check
module _ {F : Type 0} (R : Ring F) (eq : F → F → Bool) (input : Matrix F) where
  abbrev Fits : Traced F → Type 0
  Fits t = LookupsFit (layout_of t.traces) t.lookups

  abbrev HasOneHeight : Traced F → Type 0
  HasOneHeight t = HaveOneHeight t.traces

  all_fit : (airs : List MachineAir) (traces : List (AirTrace F)) → AllZip (IsTraceOf R eq input) airs traces → All Fits (map traced_over traces)
  all_fit airs traces all =
      let fits = λ (a : MachineAir) (t : AirTrace F) (is : IsTraceOf R eq input a t). subst (λ (width : ℕ). LookupsFit (layout_of_widths width 0 0) (lookups_of t.lookups)) (sym (ap (λ m. m.width) is.main)) is.lookups.fit in
      All-map Fits traced_over traces (All-from_recursion (λ t. Fits (traced_over t)) traces (AllZip-right (IsTraceOf R eq input) (λ t. Fits (traced_over t)) fits airs traces all))

  -- as the program holds them
  pub debug_fits : (airs : List MachineAir) (traces : List (AirTrace F)) (instances : List (LookupDebugInstance F)) → AllZip (IsTraceOf R eq input) airs traces → map traced_of instances ≡ map traced_over traces → All (λ i. Fits (traced_of i)) instances
  debug_fits airs traces instances all are = All-of_map Fits traced_of instances (subst (All Fits) (sym are) (all_fit airs traces all))

  pub debug_heights : (traces : List (AirTrace F)) (instances : List (LookupDebugInstance F)) → map traced_of instances ≡ map traced_over traces → All (λ i. HasOneHeight (traced_of i)) instances
  debug_heights traces instances are =
      All-of_map HasOneHeight traced_of instances (subst (All HasOneHeight) (sym are) (All-map HasOneHeight traced_over traces (λ n d lt. λ trace none. absurd (cc none))))
