-- What a batch over the rows of a machine is, and what generation gives for it.
use Rattle.std.proofs.Common.{◌≡◌, ◌<◌, ◌≤◌, ◌+◌, ◌-◌, ◌*◌, ◌/◌, ◌%◌, ℕ, zero, suc, Bool, List, [], ◌∷◌, length, map, slice_get, slice_index_or, drop, None, Some, All, refl, subst, sym, ap, arith, ◌∙◌}
use Rattle.std.proofs.Math.Dec.{eqb-suc-zero}
use Rattle.std.proofs.Math.Nat.{div-mul-le_self, mod-lt, mul-le-mul_left}
use Rattle.std.proofs.lemmas.List.{length-drop, length-take-le}
use Rattle.std.proofs.lemmas.List.Elements.{All-from_recursion}
use Rattle.std.proofs.lemmas.Nat.{div-mul-add, le-div}
use Rattle.std.specs.List.{AllZip, range_with_len, slice_range}
use Rattle.list_laws.proofs.Parts.{length_rows}
use Rattle.list_laws.proofs.Images.{one_item, same_map, map-map, from_map, map_at}
use Rattle.field.specs.Ring.{Ring}
use Rattle.matrix.specs.Matrix.{IsShaped, Matrix, height, row}
use Rattle.air_expressions.specs.Layout.{layout_of_widths}
use Rattle.air_expressions.specs.Window.{window_at}
use Rattle.air.specs.Recorded.{HasWidths}
use Rattle.batch.specs.Refusals.{of_fault, refusal_at}
use Rattle.lookup_model.specs.Batches.Faults.{AreFaultless as AreInstancesFaultless, IsFirstFault as IsFirstInstanceFault, instance_faults}
use Rattle.lookup_model.specs.Batches.Instances.{Instance, IsFitting}
use Rattle.lookup_model.specs.Batches.Messages.{id_of, sent_rows_of}
use Rattle.lookup_model.specs.Batches.Witnesses.{plain_result, plain_witness}
use Rattle.lookup_model.specs.declared.fault.BatchFault.{BatchFault}
use Rattle.lookup_model.specs.Challenges.{ChallengeTable, table_key_denominator}
use Rattle.field.specs.Extension.{Extension}
use Rattle.lookup_model.specs.Generated.{plain_matrix, plain_terminal_of}
use Rattle.lookup_model.specs.Fault.{trace_faults}
use Rattle.lookup_model.specs.Records.{LookupsFit}
use Rattle.lookup_model.specs.Trace.{sent_row_under}
use Rattle.lookup_model.specs.declared.types.Lookup.{Lookup}
use Rattle.lookup.specs.Lookups.{lookups_of}
use Rattle.lookup.specs.Sends.{lookup_bus_and_weight}
use Rattle.example_machines.specs.Machines.{air_bus_and_weight, machine_air_cells, air_sends, machine_air_trace, airs_of, input_columns, first_column_of, width_of}
use Rattle.example_machines.specs.Program.{AreFaultlessMachineAirs, IsFirstAirFault, air_faults, air_result, machine_witness, run_table}
use Rattle.example_machines.specs.Refusal.{of_batch}
use Rattle.example_machines.specs.declared.airs.MachineAir.{MachineAir}
use Rattle.example_machines.specs.declared.airs.MachineAir.TheVariants.{Entries, Group, Keys, RangeCheck}
use Rattle.example_machines.specs.declared.machine.Machine.{Machine}
use Rattle.example_machines.specs.declared.machine.Machine.TheVariants.{Bus, Exclusive, Range}
use Rattle.example_machines.specs.declared.traces.AirTrace.{AirTrace}
use Rattle.list_laws.proofs.Each.{all_range}
use Rattle.list_laws.proofs.Zips.{AllZip-same_map}
use Rattle.example_machines.specs.internal.Traces.{IsTraceOf, traced_instance}

-- a part of a list
length_part : {T : Type 0} (values : List T) (first width : ℕ) → first + width ≤ length values → length (slice_range values first (first + width)) ≡ width
length_part values first width fits =
    let rest : length (drop first values) ≡ length values - first = length-drop first values in
    length-take-le (first + width - first) (drop first values) (omega (arith, rest, fits)) ∙ omega arith

-- a row of a matrix
length_row : {T : Type 0} (values : List T) (width r : ℕ) → r < height (record { values = values; width = width }) → length (row (record { values = values; width = width }) r) ≡ width
length_row values zero r lt = absurd (omega (arith, lt))
length_row values (suc k) r lt =
    let below : r < length values / suc k = rw eqb-suc-zero at lt in
    let rows : suc k * (r + 1) ≤ suc k * (length values / suc k) = mul-le-mul_left (suc k) (omega (arith, below)) in
    let next : (r + 1) * suc k ≡ r * suc k + suc k = omega arith in
    ap (λ b. length (slice_range values (r * suc k) b)) next
    ∙ length_part values (r * suc k) (suc k) (omega (arith, rows, next, div-mul-le_self (length values) (suc k)))

-- some whole rows are a matrix
pub shaped : {T : Type 0} (values : List T) (width n : ℕ) → 0 < width → length values ≡ n * width → IsShaped (record { values = values; width = width })
shaped values zero n wide long = absurd (omega (arith, wide))
shaped values (suc k) n wide long =
    let whole : length values ≡ n * suc k + 0 = omega (arith, long) in
    let quotient : length values / suc k ≡ n = ap (λ m. m / suc k) whole ∙ div-mul-add n (suc k) 0 (omega arith) in
    rw eqb-suc-zero (long ∙ ap (λ m. m * suc k) (sym quotient))

-- a matrix of some rows is not empty
some_rows : {T : Type 0} (values : List T) (width n : ℕ) → 0 < width → 0 < n → length values ≡ n * width → 0 < height (record { values = values; width = width })
some_rows values zero n wide some long = absurd (omega (arith, wide))
some_rows values (suc k) n wide some long = rw eqb-suc-zero (omega (arith, le-div n (length values) (suc k) (omega arith) (omega (arith, long)), some))

-- two maps over a range are the same where they give the same of each number
same_over : {X : Type 0} (f g : ℕ → X) (a n : ℕ) → ((r : ℕ) → r < a + n → f r ≡ g r) → map f (range_with_len a n) ≡ map g (range_with_len a n)
same_over f g a n same = same_map f g (range_with_len a n) (all_range (λ r. f r ≡ g r) a n same)

-- the ids of an AIR's lookups, each of which is 0
abbrev pub ids : List ℕ
ids = 0 ∷ []

zero_id : (column : ℕ) → slice_index_or ids column 0 ≡ 0
zero_id zero = refl
zero_id (suc column) = refl

-- the AIRs of a machine hold columns of its input
pub airs_within : (machine : Machine) → All (λ air. first_column_of air + width_of air ≤ input_columns machine) (airs_of machine)
airs_within Range = All-from_recursion (λ air. first_column_of air + width_of air ≤ 3) (RangeCheck ∷ []) (omega arith, tt)
airs_within Bus = All-from_recursion (λ air. first_column_of air + width_of air ≤ 3) (Keys ∷ Entries ∷ []) (omega arith, (omega arith, tt))
airs_within Exclusive = All-from_recursion (λ air. first_column_of air + width_of air ≤ 4) (Group ∷ []) (omega arith, tt)

-- each AIR holds some columns
pub wide : (air : MachineAir) → 0 < width_of air
wide air = grind arith

-- the parts of the rows that an AIR holds are as long as it is wide
pub length_cells : {F : Type 0} (air : MachineAir) (input : Matrix F) (r : ℕ) → first_column_of air + width_of air ≤ input.width → r < height input → length (machine_air_cells air (row input r)) ≡ width_of air
length_cells air input r holds lt =
    length_part (row input r) (first_column_of air) (width_of air) (omega (arith, holds, length_row input.values input.width r lt))

-- the trace of an AIR has a row where the input has one
trace_rows : {F : Type 0} (air : MachineAir) (input : Matrix F) → first_column_of air + width_of air ≤ input.width → 0 < height input → 0 < height (machine_air_trace air input)
trace_rows air input holds some =
    some_rows (machine_air_trace air input).values (width_of air) (height input) (wide air) some
    (length_rows (λ r. machine_air_cells air (row input r)) (width_of air) 0 (height input) (λ r lt. length_cells air input r holds (omega (arith, lt))))

-- the batch's instance of an AIR: public values and ids are the same for all
abbrev pub instance : {F : Type 0} → AirTrace F → Instance F
instance trace = traced_instance [] ids trace

module _ {F : Type 0} (R : Ring F) (eq : F → F → Bool) (input : Matrix F) (air : MachineAir) (trace : AirTrace F) (is : IsTraceOf R eq input air trace) where
  -- the AIR has one lookup
  pub one_lookup : (l : Lookup F) × (lookups_of trace.lookups ≡ l ∷ []) × (lookup_bus_and_weight l ≡ air_bus_and_weight air)
  one_lookup = one_item lookup_bus_and_weight (lookups_of trace.lookups) (air_bus_and_weight air) is.lookups.one

  -- its instance makes a batch
  pub fitting : first_column_of air + width_of air ≤ input.width → 0 < height input → IsFitting (instance trace)
  fitting holds some = record {
    fit = subst (λ (width : ℕ). LookupsFit (layout_of_widths width 0 0) (lookups_of trace.lookups)) (sym (ap (λ m. m.width) is.main)) is.lookups.fit;
    heights = λ trace none. absurd (cc none);
    nonempty = λ has. subst (λ (m : Matrix F). 0 < height m) (sym is.main) (trace_rows air input holds some);
    ids = sym (ap length one_lookup.1);
  }

  -- the window of a row has the widths of the AIR
  pub row_widths : (main : Matrix F) → main.width ≡ width_of air → (r : ℕ) → r < height main → HasWidths (layout_of_widths (width_of air) 0 0) (window_at main None [] (height main) r)
  row_widths main same r lt =
      let next : (r + 1) % height main < height main = mod-lt (r + 1) (omega (arith, lt)) in
      record {
        main = length_row main.values main.width r lt ∙ same;
        main_next = length_row main.values main.width ((r + 1) % height main) next ∙ same;
        preprocessed = refl;
        preprocessed_next = refl;
        public_values = refl;
      }

  -- its lookup sends what the AIR sends, on each row
  sent_on_row : (main : Matrix F) → main.width ≡ width_of air → (r : ℕ) → r < height main
      → sent_row_under R eq (id_of ids) (window_at main None [] (height main) r) (lookups_of trace.lookups) ≡ air_sends R eq air (row main r) ∷ []
  sent_on_row main same r lt =
      (λ i. sent_row_under R eq (λ l. zero_id l.column i) (window_at main None [] (height main) r) (lookups_of trace.lookups))
      ∙ is.lookups.sends (window_at main None [] (height main) r) (row_widths main same r lt)

  -- so it is of the whole trace
  sent_by_air : sent_rows_of R eq (instance trace) ≡ map (λ r. air_sends R eq air (row (machine_air_trace air input) r) ∷ []) (range_with_len 0 (height (machine_air_trace air input)))
  sent_by_air =
      same_over _ _ 0 (height trace.main) (λ r lt. sent_on_row trace.main (ap (λ m. m.width) is.main) r (omega (arith, lt)))
      ∙ ap (λ (m : Matrix F). map (λ r. air_sends R eq air (row m r) ∷ []) (range_with_len 0 (height m))) is.main

module _ {F K : Type 0} (E : Extension F K) (alpha beta : K) (input : Matrix F) where
  -- the table of a run
  abbrev table : ChallengeTable K
  table = run_table E alpha beta

  -- the plain result of an instance is that of its AIR
  result_is : (air : MachineAir) (trace : AirTrace F) → IsTraceOf E.base E.base_eq input air trace → plain_result E table (instance trace) ≡ air_result E alpha beta input air
  result_is air trace is =
      let one = one_lookup E.base E.base_eq input air trace is in
      let rows = sent_by_air E.base E.base_eq input air trace is in
      λ i. (plain_matrix E (table_key_denominator E table) (one.1 i) (rows i), plain_terminal_of E (table_key_denominator E table) (one.1 i) (rows i))

  -- and so are its faults
  faults_are : (air : MachineAir) (trace : AirTrace F) → IsTraceOf E.base E.base_eq input air trace → instance_faults E table (instance trace) ≡ air_faults E alpha beta input air
  faults_are air trace is = ap (trace_faults E (table_key_denominator E table)) (sent_by_air E.base E.base_eq input air trace is)

  -- likewise of all
  results_are : (airs : List MachineAir) (traces : List (AirTrace F)) → AllZip (IsTraceOf E.base E.base_eq input) airs traces → plain_witness E table (map instance traces) ≡ map (air_result E alpha beta input) airs
  results_are airs traces all =
      map-map (plain_result E table) instance traces
      ∙ sym (AllZip-same_map (IsTraceOf E.base E.base_eq input) (air_result E alpha beta input) (λ t. plain_result E table (instance t)) (λ a t is. sym (result_is a t is)) airs traces all)

  all_faults_are : (airs : List MachineAir) (traces : List (AirTrace F)) → AllZip (IsTraceOf E.base E.base_eq input) airs traces → map (instance_faults E table) (map instance traces) ≡ map (air_faults E alpha beta input) airs
  all_faults_are airs traces all =
      map-map (instance_faults E table) instance traces
      ∙ sym (AllZip-same_map (IsTraceOf E.base E.base_eq input) (air_faults E alpha beta input) (λ t. instance_faults E table (instance t)) (λ a t is. sym (faults_are a t is)) airs traces all)

  module _ (machine : Machine) (traces : List (AirTrace F)) (all : AllZip (IsTraceOf E.base E.base_eq input) (airs_of machine) traces) where
    -- an AIR's faults are those of an instance at its index
    instance_at : (i : ℕ) (air : MachineAir) → slice_get (airs_of machine) i ≡ Some air → (x : Instance F) × (slice_get (map instance traces) i ≡ Some x) × (instance_faults E table x ≡ air_faults E alpha beta input air)
    instance_at i air there =
        from_map (instance_faults E table) (map instance traces) i (air_faults E alpha beta input air)
        (ap (λ l. slice_get l i) (all_faults_are (airs_of machine) traces all) ∙ map_at (air_faults E alpha beta input) (airs_of machine) i air there)

    -- and the other way round
    air_at : (i : ℕ) (x : Instance F) → slice_get (map instance traces) i ≡ Some x → (air : MachineAir) × (slice_get (airs_of machine) i ≡ Some air) × (air_faults E alpha beta input air ≡ instance_faults E table x)
    air_at i x there =
        from_map (air_faults E alpha beta input) (airs_of machine) i (instance_faults E table x)
        (ap (λ l. slice_get l i) (sym (all_faults_are (airs_of machine) traces all)) ∙ map_at (instance_faults E table) (map instance traces) i x there)

    -- what generation gives is the machine's witness
    pub witness_is : plain_witness E table (map instance traces) ≡ machine_witness E machine alpha beta input
    witness_is = results_are (airs_of machine) traces all

    -- no AIR has a fault
    pub faultless_is : AreInstancesFaultless E table (map instance traces) → AreFaultlessMachineAirs E machine alpha beta input
    faultless_is none i air there =
        let x = instance_at i air there in
        sym x.2 ∙ none i x.0 x.1

    -- or the first fault is that of the machine
    pub first_fault_is : (fault : BatchFault) → IsFirstInstanceFault E table (map instance traces) fault → IsFirstAirFault E machine alpha beta input (of_batch (of_fault fault))
    first_fault_is fault first =
        let air = air_at first.index first.item first.is_there in
        record {
          index = first.index;
          item = air.0;
          is_there = air.1;
          before = λ i other lt there. let x = instance_at i other there in sym x.2 ∙ first.before i x.0 lt x.1;
          fault = (fault.error, ap (λ l. slice_get l 0) air.2 ∙ first.fault.1, ap (λ at. of_batch (refusal_at at fault.error)) first.fault.0);
        }
