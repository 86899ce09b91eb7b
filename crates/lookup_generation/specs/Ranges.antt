-- A range of the rows of an auxiliary trace.
use Rattle.std.specs.Prelude.{◌≡◌, ◌≤◌, ◌⊎◌, ℕ, List, [], ◌∷◌, ◌++◌, Option, None, Result, Ok, Err, MatchResult, Some, slice_get, slice_range}
use Rattle.std.specs.List.{enumerate_from, flat_map, range_with_len}
use Rattle.air.specs.Traces.{AirTraces, height_of}
use Rattle.field.specs.Ring.{Ring}
use Rattle.field.specs.Extension.{Extension}
use Rattle.lookup_model.specs.Denominators.{key_denominator}
use Rattle.lookup_model.specs.Fault.{row_faults}
use Rattle.lookup_model.specs.Generated.{plain_matrix}
use Rattle.lookup_model.specs.Generation.{AnswersGeneration}
use Rattle.lookup_model.specs.Message.{Key}
use Rattle.lookup_model.specs.Plain.{plain_terminal}
use Rattle.lookup_model.specs.Records.{AreRecords}
use Rattle.lookup_model.specs.Sent.{Sent}
use Rattle.lookup_model.specs.Trace.{sent_rows}
use Rattle.lookup_model.specs.declared.error.LookupError.{LookupError}
use Rattle.lookup_model.specs.declared.error.LookupError.TheVariants.{Memory}
use Rattle.lookup_model.specs.declared.types.Lookup.{Lookup}
use Rattle.lookup_model.specs.declared.types.LookupTerminal.{LookupTerminal}
use Rattle.matrix.specs.Matrix.{Matrix, height, row}

-- the faults on the rows from `first` up to `end`, each under its row in the whole trace
abbrev pub faults_between : {F K : Type 0} → Extension F K → (Key F → K) → List (List (Sent F)) → ℕ → ℕ → List LookupError
faults_between E denominator rows first end =
    flat_map (λ p. row_faults E denominator p.0 p.1) (enumerate_from first (slice_range rows first end))

-- The generation of a range answers the plain result of what its rows send in the whole trace, with an
-- accumulator that is zero on the first of them, and the sum of their fractions, if none of them has a
-- fault. Otherwise it refuses the first fault on them. It may also run out of memory.
abbrev pub AnswersRows : {F K : Type 0} → Extension F K → AirTraces F → List (Lookup F) → List K → ℕ → ℕ → Result (Matrix K × K) LookupError → Type 0
AnswersRows E traces lookups challenges first end result =
    let denominator = key_denominator E challenges in
    let rows = sent_rows E.base E.base_eq traces lookups in
    let range = slice_range rows first end in
    MatchResult result
    (λ r. (r.0 ≡ plain_matrix E denominator lookups range)
    × (r.1 ≡ plain_terminal E denominator range)
    × (faults_between E denominator rows first end ≡ []))
    (λ e. (e ≡ Memory) ⊎ (slice_get (faults_between E denominator rows first end) 0 ≡ Some e))

-- a row whose accumulator, its first cell, is greater by an offset
abbrev pub shifted_row : {K : Type 0} → Ring K → K → List K → List K
shifted_row S offset [] = []
shifted_row S offset (x ∷ xs) = S.add offset x ∷ xs

-- a matrix, each row of which is shifted
abbrev pub shifted_matrix : {K : Type 0} → Ring K → K → Matrix K → Matrix K
shifted_matrix S offset m = record { values = flat_map (λ r. shifted_row S offset (row m r)) (range_with_len 0 (height m)); width = m.width }

-- the ends of ranges of rows that follow one another, from `first` on up to `last`
abbrev pub AreEnds : ℕ → List ℕ → ℕ → Type 0
AreEnds first [] last = first ≡ last
AreEnds first (end ∷ ends) last = (first ≤ end) × AreEnds end ends last

-- the rows of a range, and then those of the next one, each shifted by the sum of the first
abbrev pub joined_rows : {K : Type 0} → Ring K → Matrix K → K → Matrix K → Matrix K
joined_rows S m sum n = record { values = m.values ++ (shifted_matrix S sum n).values; width = m.width }

-- the terminal of an AIR whose fractions have this sum: there is none without lookups
abbrev pub terminal_if_any : {F K : Type 0} → List (Lookup F) → K → Option (LookupTerminal K)
terminal_if_any [] sum = None
terminal_if_any (lookup ∷ lookups) sum = Some (record { 0 = sum })

module _ {F K : Type 0} (E : Extension F K) (traces : AirTraces F) (lookups : List (Lookup F)) (challenges : List K) where
  -- Two ranges that follow one another: their rows and sums join to those of both, and the first fault is
  -- that of the first of them that has one.
  pub record NeighboursJoin (first middle end : ℕ) : Type 0 where
    pub made : (m n : Matrix K) (s t : K) → AnswersRows E traces lookups challenges first middle (Ok (m, s)) → AnswersRows E traces lookups challenges middle end (Ok (n, t))
        → AnswersRows E traces lookups challenges first end (Ok (joined_rows E.ring m s n, E.ring.add s t))
    pub first_refused : (e : LookupError) → AnswersRows E traces lookups challenges first middle (Err e) → AnswersRows E traces lookups challenges first end (Err e)
    pub later_refused : (m : Matrix K) (s : K) (e : LookupError) → AnswersRows E traces lookups challenges first middle (Ok (m, s)) → AnswersRows E traces lookups challenges middle end (Err e)
        → AnswersRows E traces lookups challenges first end (Err e)

  -- The range of all rows: its rows are the auxiliary trace, its sum the terminal, and its refusal that of
  -- the whole.
  pub record AllRowsAreWhole : Type 0 where
    pub made : (m : Matrix K) (s : K) → AnswersRows E traces lookups challenges 0 (height_of traces) (Ok (m, s)) → AnswersGeneration E traces lookups challenges (Ok (m, terminal_if_any lookups s))
    pub refused : (e : LookupError) → AnswersRows E traces lookups challenges 0 (height_of traces) (Err e) → AnswersGeneration E traces lookups challenges (Err e)

-- So whatever ranges a trace is cut into, and wherever they are generated, their rows join to the auxiliary
-- trace that generation makes of the whole.
pub record RangesJoin {F K : Type 0} (E : Extension F K) : Type 0 where
  pub neighbours : (traces : AirTraces F) (lookups : List (Lookup F)) (challenges : List K) (first middle end : ℕ) → first ≤ middle → middle ≤ end → end ≤ height_of traces → NeighboursJoin E traces lookups challenges first middle end
  pub all_rows : (traces : AirTraces F) (lookups : List (Lookup F)) (challenges : List K) → AreRecords lookups → AllRowsAreWhole E traces lookups challenges
