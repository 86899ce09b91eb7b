-- The lookups that are extracted from an AIR's records.
use Rattle.std.specs.Prelude.{◌≡◌, ◌+◌, ◌<◌, ◌≤◌, ◌⊎◌, ℕ, List, [], ◌∷◌, ◌++◌, length, map, None, Some, All, Result, Ok, Err, MatchResult}
use Rattle.std.specs.List.{enumerate_from, sum_by}
use Rattle.air_expressions.specs.Faults.{SplitsAtFault}
use Rattle.air_expressions.specs.declared.error.AirError.{AirError}
use Rattle.air_expressions.specs.declared.layout.AirLayout.{AirLayout}
use Rattle.lookup_model.specs.LookupDegree.{greatest}
use Rattle.lookup_model.specs.Outline.{Outline, fields_of}
use Rattle.lookup_model.specs.Refusal.{from_air}
use Rattle.lookup_model.specs.Weight.{weight_bound}
use Rattle.lookup_model.specs.declared.error.LookupError.{LookupError}
use Rattle.lookup_model.specs.declared.error.LookupError.TheVariants.{Memory, CountWeightOverflow}
use Rattle.lookup_record.specs.Interaction.{Tuple, GlobalInteraction, ExclusiveInteraction}
use Rattle.lookup.specs.TupleWidths.{AreUnevenWidths}
use Rattle.lookup_record.specs.RecordedAir.{EvaluatesNew, RecordedAir, recorded_air}
use Rattle.lookup_record.specs.declared.symbolic.InteractionSymbolicBuilder.{InteractionSymbolicBuilder}
use Rattle.lookup.specs.Lookups.{lookups_of}
use Rattle.lookup.specs.declared.lookups.Lookups.{Lookups}

module _ {E : Type 0} where
  -- the lookup of a local interaction, whose weight is the sum over its tuples
  abbrev pub local_at : ℕ → List (Tuple E) → Outline E
  local_at column tuples = record {
    bus = None;
    elements = map (λ t. t.fields) tuples;
    multiplicities = map (λ t. t.count) tuples;
    count_weight = sum_by (λ t. t.weight) tuples;
    column = column;
    flags = None;
  }

  -- the lookup of a message on a bus, of one tuple
  abbrev pub global_at : ℕ → GlobalInteraction E → Outline E
  global_at column m = record {
    bus = Some m.bus_name;
    elements = m.fields ∷ [];
    multiplicities = m.count ∷ [];
    count_weight = m.weight;
    column = column;
    flags = None;
  }

  -- the lookup of a group, whose weight is the greatest of its branches' weights
  abbrev pub exclusive_at : ℕ → ExclusiveInteraction E → Outline E
  exclusive_at column m = record {
    bus = Some m.bus_name;
    elements = map (λ b. b.fields) m.branches;
    multiplicities = map (λ b. b.count) m.branches;
    count_weight = greatest (map (λ b. b.weight) m.branches);
    column = column;
    flags = Some (map (λ b. b.flag) m.branches);
  }

  -- the lookups that a list of interactions makes, in the columns from n upwards
  abbrev pub in_columns : {M : Type 0} → (ℕ → M → Outline E) → ℕ → List M → List (Outline E)
  in_columns lookup_at n interactions =
      map (λ p. lookup_at p.0 p.1) (enumerate_from n interactions)

  -- local lookups, then messages on buses, then groups, in the columns 0, 1, 2, …
  abbrev pub extraction : List (List (Tuple E)) → List (GlobalInteraction E) → List (ExclusiveInteraction E) → List (Outline E)
  extraction locals globals exclusives =
      (in_columns local_at 0 locals ++ in_columns global_at (length locals) globals)
      ++ in_columns exclusive_at (length locals + length globals) exclusives

-- the bytes of `local lookup`
abbrev pub local_context : List ℕ
local_context = 108 ∷ 111 ∷ 99 ∷ 97 ∷ 108 ∷ 32 ∷ 108 ∷ 111 ∷ 111 ∷ 107 ∷ 117 ∷ 112 ∷ []

module _ {E : Type 0} where
  -- the widths of a local interaction's tuples
  abbrev pub tuple_widths : List (Tuple E) → List ℕ
  tuple_widths tuples = map (λ t. length t.fields) tuples

  -- the weights of a local interaction have a sum that fits, and its tuples have the same width
  pub record IsFaultless (tuples : List (Tuple E)) : Type 0 where
    pub weight : sum_by (λ t. t.weight) tuples < weight_bound
    pub width : ℕ
    pub widths : All (λ t. length t.fields ≡ width) tuples

  -- the refusal of a local interaction: for its weight first, then for its widths
  abbrev pub IsLocalRefusal : List (Tuple E) → LookupError → Type 0
  IsLocalRefusal tuples e =
      ((weight_bound ≤ sum_by (λ t. t.weight) tuples) × (e ≡ CountWeightOverflow))
      ⊎ ((sum_by (λ t. t.weight) tuples < weight_bound)
      × AreUnevenWidths local_context (tuple_widths tuples) e)

  -- the refusal of the first local interaction that has a fault
  abbrev pub IsFirstLocalRefusal : List (List (Tuple E)) → LookupError → Type 0
  IsFirstLocalRefusal locals e = SplitsAtFault (All IsFaultless) (λ _ tuples. IsLocalRefusal tuples e) locals

-- The answer is the extraction from what evaluating the AIR left in a new builder, or the first
-- refusal: out of memory, the AIR's own, or that of the first local interaction with a fault.
abbrev pub Extracts : {A F EF : Type 0} → (A → InteractionSymbolicBuilder F EF → Result (Unit {0}) AirError → InteractionSymbolicBuilder F EF → Type 0) → A → AirLayout → Result (Lookups F) LookupError → Type 0
Extracts {A} {F} {EF} evaluates air layout answer = MatchResult answer
    (λ set. (b : InteractionSymbolicBuilder F EF) × EvaluatesNew evaluates air layout (Ok b)
    × (map fields_of (lookups_of set) ≡ extraction (recorded_air b).locals (recorded_air b).globals (recorded_air b).exclusives)
    × All IsFaultless (recorded_air b).locals)
    (λ e. (e ≡ Memory)
    ⊎ (((refusal : AirError) × EvaluatesNew evaluates air layout (Err refusal) × (e ≡ from_air refusal))
    ⊎ ((b : InteractionSymbolicBuilder F EF) × EvaluatesNew evaluates air layout (Ok b) × IsFirstLocalRefusal (recorded_air b).locals e)))

-- The answer is the extraction from the records of a builder, or the refusal of the first local interaction
-- with a fault; or memory runs out.
abbrev pub ExtractsRecords : {F EF : Type 0} → RecordedAir F EF → Result (Lookups F) LookupError → Type 0
ExtractsRecords recorded answer = MatchResult answer
    (λ set. (map fields_of (lookups_of set) ≡ extraction recorded.locals recorded.globals recorded.exclusives) × All IsFaultless recorded.locals)
    (λ e. (e ≡ Memory) ⊎ IsFirstLocalRefusal recorded.locals e)
