-- An auxiliary trace while it is being made.
use Rattle.std.specs.Prelude.{◌≡◌, ◌⊎◌, ◌<◌, ◌≤◌, ◌+◌, ◌-◌, ℕ, Bool, List, [], ◌++◌, map, take, slice_get, slice_index_or, None, Option, Some, MatchOption}
use Rattle.std.specs.List.{AllZip, flat_map, range_with_len}
use Rattle.field.specs.Ring.{Ring}
use Rattle.air_expressions.specs.Window.{Window}
use Rattle.matrix.specs.Matrix.{Matrix, height, row}
use Rattle.field.specs.Extension.{Extension}
use Rattle.lookup_model.specs.Fault.{fault_of, row_faults, trace_faults}
use Rattle.lookup_model.specs.Message.{Key}
use Rattle.lookup_model.specs.Plain.{plain_accumulator, plain_fraction, plain_row}
use Rattle.lookup_model.specs.Sent.{Sent, sent_at}
use Rattle.lookup_model.specs.Trace.{sent_row}
use Rattle.lookup_model.specs.declared.types.Lookup.{Lookup}
use Rattle.lookup_generation.specs.declared.chunk.RowFault.{RowFault}
use Rattle.lookup_generation.specs.declared.ratio.Ratio.{Ratio}
use Rattle.lookup_generation.specs.internal.Fraction.{IsRatio}
use Rattle.lookup_model.specs.declared.error.LookupError.{LookupError}
use Rattle.lookup_model.specs.declared.error.LookupError.TheVariants.{Memory}

-- out of memory, or the first of these faults
abbrev pub IsFirstOf : List LookupError → LookupError → Type 0
IsFirstOf faults e = (e ≡ Memory) ⊎ (slice_get faults 0 ≡ Some e)

-- what a lookup sends at the window of a row, under its column as its id
abbrev pub sent_on : {F : Type 0} → Ring F → (F → F → Bool) → (ℕ → Window F) → Lookup F → ℕ → Sent F
sent_on R eq window lookup r = sent_at R eq (window r) lookup.column lookup

-- the cells of one column of a matrix, row by row
abbrev pub column_cells : {T : Type 0} → T → Matrix T → ℕ → List T
column_cells default m index = map (λ r. slice_index_or (row m r) index default) (range_with_len 0 (height m))

module _ {F K : Type 0} (E : Extension F K) (denominator : Key F → K) where
  -- the fractions of what is sent on n rows from `first` on
  abbrev pub column_fractions : (ℕ → Sent F) → ℕ → ℕ → List K
  column_fractions sends first n = map (λ i. plain_fraction E denominator (sends (first + i))) (range_with_len 0 n)

  -- what a lookup in a column sends on these rows has no fault
  abbrev pub HasNoFault : (ℕ → Sent F) → ℕ → ℕ → ℕ → Type 0
  HasNoFault sends column first end = (r : ℕ) → first ≤ r → r < end → fault_of E denominator r column (sends r) ≡ None

  -- Whatever values the ratios before have, those after have the same, and then the fractions of a
  -- lookup on the rows from `first` up to `end`, on which it has no fault.
  pub record HasColumn (sends : ℕ → Sent F) (column first end : ℕ) (before after : List (Ratio K)) : Type 0 where
    pub ratios : (fs : List K) → AllZip (IsRatio E.ring) before fs → AllZip (IsRatio E.ring) after (fs ++ column_fractions sends first (end - first))
    pub faultless : HasNoFault sends column first end

  -- A fault of a lookup on the row that it names. The lookup has none on the rows from `first` up to
  -- that one.
  pub record IsFirstIn (sends : ℕ → Sent F) (column first : ℕ) (fault : RowFault) : Type 0 where
    pub fault_is : fault_of E denominator fault.row column (sends fault.row) ≡ Some fault.error
    pub faultless : HasNoFault sends column first fault.row

  -- The ratios of a lookup are appended. Otherwise its first fault is found.
  abbrev pub AnswersPushColumn : (ℕ → Sent F) → ℕ → ℕ → ℕ → List (Ratio K) → List (Ratio K) → Option RowFault → Type 0
  AnswersPushColumn sends column first end before after found =
      MatchOption found (HasColumn sends column first end before after) (IsFirstIn sends column first)

  module _ (window : ℕ → Window F) (lookups : List (Lookup F)) where
    -- what lookups send on these rows has no fault
    abbrev pub HaveNoFault : ℕ → ℕ → Type 0
    HaveNoFault first end =
        (r : ℕ) → first ≤ r → r < end → row_faults E denominator r (sent_row E.base E.base_eq (window r) lookups) ≡ []

    -- the fractions of lookups on n rows from `first` on, lookup after lookup
    abbrev pub all_fractions : ℕ → ℕ → List K
    all_fractions first n = flat_map (λ lookup. column_fractions (sent_on E.base E.base_eq window lookup) first n) lookups

    -- The ratios are the fractions of lookups on the rows from `first` up to `end`, on which they have
    -- no fault.
    pub record HasColumns (first end : ℕ) (ratios : List (Ratio K)) : Type 0 where
      pub ratios_are : AllZip (IsRatio E.ring) ratios (all_fractions first (end - first))
      pub faultless : HaveNoFault first end

    -- The first fault of lookups on the row that it names. They have none on the rows from `first` up to
    -- that one.
    pub record AreFirstIn (first : ℕ) (fault : RowFault) : Type 0 where
      pub fault_is : slice_get (row_faults E denominator fault.row (sent_row E.base E.base_eq (window fault.row) lookups)) 0 ≡ Some fault.error
      pub faultless : HaveNoFault first fault.row

    -- The ratios are those of all lookups. Otherwise their first fault is found.
    abbrev pub AnswersPushColumns : ℕ → ℕ → List (Ratio K) → Option RowFault → Type 0
    AnswersPushColumns first end ratios found = MatchOption found (HasColumns first end ratios) (AreFirstIn first)

    -- The first fault on the rows from `first` up to `end`, in the order of the rows and their lookups.
    pub record IsFirstFaultOn (first end : ℕ) (e : LookupError) : Type 0 where
      pub row : ℕ
      pub from : first ≤ row
      pub before : row < end
      pub fault_is : slice_get (row_faults E denominator row (sent_row E.base E.base_eq (window row) lookups)) 0 ≡ Some e
      pub faultless : HaveNoFault first row

    -- out of memory, or the first fault on these rows
    abbrev pub RefusesFirstFault : ℕ → ℕ → LookupError → Type 0
    RefusesFirstFault first end e = (e ≡ Memory) ⊎ IsFirstFaultOn first end e

  -- the cells are those of the first r rows, and the accumulator is that of row r
  pub record HasCells (rows : List (List (Sent F))) (r : ℕ) (cells : List K) (accumulator : K) : Type 0 where
    pub cells_are : cells ≡ flat_map (plain_row E denominator rows) (range_with_len 0 r)
    pub accumulator_is : accumulator ≡ plain_accumulator E denominator rows r

  -- the same, and none of these rows has a fault
  pub record HasRows (rows : List (List (Sent F))) (r : ℕ) (cells : List K) (accumulator : K) : Type 0 where
    pub made : HasCells rows r cells accumulator
    pub faultless : trace_faults E denominator (take r rows) ≡ []
