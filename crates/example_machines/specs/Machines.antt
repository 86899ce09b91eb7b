-- The machines: their AIRs, and what each AIR sends on a row of its trace.
use Rattle.std.specs.Prelude.{◌≡◌, ◌+◌, ℕ, Bool, List, [], ◌∷◌, Option, None, Some, All, codes, length, map, slice_index_or}
use Rattle.std.specs.List.{flat_map, range_with_len, slice_range}
use Rattle.field.specs.Ring.{Ring}
use Rattle.matrix.specs.Matrix.{Matrix, height, row}
use Rattle.air_expressions.specs.Layout.{layout_of_widths}
use Rattle.air_expressions.specs.Window.{Window}
use Rattle.air.specs.Recorded.{HasWidths}
use Rattle.lookup_model.specs.Message.{Message}
use Rattle.lookup_model.specs.Records.{LookupsFit}
use Rattle.lookup_model.specs.Sent.{Sent, sent}
use Rattle.lookup_model.specs.Trace.{sent_row_under}
use Rattle.lookup_model.specs.declared.types.Lookup.{Lookup}
use Rattle.lookup_record.specs.Interaction.{Interaction}
use Rattle.lookup.specs.Sends.{bus_and_weight, interaction_sends, interaction_tuples, lookup_bus_and_weight}
use Rattle.example_machines.specs.declared.airs.MachineAir.{MachineAir}
use Rattle.example_machines.specs.declared.airs.MachineAir.TheVariants.{Entries, Group, Keys, RangeCheck}
use Rattle.example_machines.specs.declared.machine.Machine.{Machine}
use Rattle.example_machines.specs.declared.machine.Machine.TheVariants.{Bus, Exclusive, Range}

-- the number of columns of a machine's input
abbrev pub input_columns : Machine → ℕ
input_columns Range = 3
input_columns Bus = 3
input_columns Exclusive = 4

-- the name of a machine
abbrev pub name_of : Machine → List ℕ
name_of Range = codes "range"
name_of Bus = codes "bus"
name_of Exclusive = codes "exclusive"

-- the AIRs of a machine, in order
abbrev pub airs_of : Machine → List MachineAir
airs_of Range = RangeCheck ∷ []
airs_of Bus = Keys ∷ Entries ∷ []
airs_of Exclusive = Group ∷ []

-- the first column of the input that an AIR holds, and how many it holds
abbrev pub first_column_of : MachineAir → ℕ
first_column_of RangeCheck = 0
first_column_of Keys = 0
first_column_of Entries = 1
first_column_of Group = 0

abbrev pub width_of : MachineAir → ℕ
width_of RangeCheck = 3
width_of Keys = 1
width_of Entries = 2
width_of Group = 4

-- the cells of a row of the input that an AIR holds
abbrev pub machine_air_cells : {F : Type 0} → MachineAir → List F → List F
machine_air_cells air cells = slice_range cells (first_column_of air) (first_column_of air + width_of air)

-- the trace of an AIR: those cells of each row of the input
abbrev pub machine_air_trace : {F : Type 0} → MachineAir → Matrix F → Matrix F
machine_air_trace air input = record {
  values = flat_map (λ r. machine_air_cells air (row input r)) (range_with_len 0 (height input));
  width = width_of air;
}

-- the bus of an AIR's one lookup, unless it is local, and its weight
abbrev pub air_bus_and_weight : MachineAir → Option (List ℕ) × ℕ
air_bus_and_weight RangeCheck = (None, 1)
air_bus_and_weight Keys = (Some (codes "b"), 1)
air_bus_and_weight Entries = (Some (codes "b"), 0)
air_bus_and_weight Group = (Some (codes "rc"), 1)

-- a message about one value, under id 0
abbrev pub value_message : {F : Type 0} → F → F → Message F
value_message value multiplicity = record { key = record { id = 0; tuple = value ∷ [] }; multiplicity = multiplicity }

module _ {F : Type 0} (R : Ring F) (eq : F → F → Bool) where
  -- What an AIR sends on a row of its trace. The range check reads cell 0 once, and provides cell 1
  -- as often as cell 2 says. The keys query cell 0 once. The entries provide cell 0 as often as
  -- cell 1 says. The group queries cell 1 if the flag in cell 0 is set, and cell 3 if the flag in
  -- cell 2 is set.
  abbrev pub air_sends : MachineAir → List F → Sent F
  air_sends air cells = by_air air
    where
      cell : ℕ → F
      cell column = slice_index_or cells column R.zero

      by_air : MachineAir → Sent F
      by_air RangeCheck = sent R eq None (value_message (cell 0) R.one ∷ value_message (cell 1) (R.neg (cell 2)) ∷ [])
      by_air Keys = sent R eq None (value_message (cell 0) R.one ∷ [])
      by_air Entries = sent R eq None (value_message (cell 0) (R.neg (cell 1)) ∷ [])
      by_air Group = sent R eq (Some (cell 0 ∷ cell 2 ∷ [])) (value_message (cell 1) R.one ∷ value_message (cell 3) R.one ∷ [])

  -- an interaction that sends what the AIR sends, at each window that the builder stands for, with
  -- the AIR's bus and weight, and with tuples of one value
  pub record SendsLike {E W : Type 0} (value : E → W → F) (stands : W → Type 0) (cells : W → List F) (air : MachineAir) (m : Interaction E) : Type 0 where
    pub sends : (w : W) → stands w → length (cells w) ≡ width_of air → interaction_sends R eq (λ x. value x w) 0 m ≡ air_sends air (cells w)
    pub kind : bus_and_weight m ≡ air_bus_and_weight air
    pub widths : All (λ tuple. length tuple ≡ 1) (interaction_tuples m)

  -- The lookups of an AIR: one, with its bus and its weight. It fits the AIR's trace, its tuples have
  -- one value, and on each row it sends what the AIR sends, under id 0.
  pub record AreLookupsOf (air : MachineAir) (lookups : List (Lookup F)) : Type 0 where
    pub one : map lookup_bus_and_weight lookups ≡ air_bus_and_weight air ∷ []
    pub fit : LookupsFit (layout_of_widths (width_of air) 0 0) lookups
    pub widths : All (λ lookup. All (λ tuple. length tuple.items ≡ 1) lookup.elements.items) lookups
    pub sends : (w : Window F) → HasWidths (layout_of_widths (width_of air) 0 0) w → sent_row_under R eq (λ _. 0) w lookups ≡ air_sends air w.main ∷ []
