-- The result of a run: a report, or the first refusal in the order of the checks.
use Rattle.std.specs.Prelude.{◌≡◌, ◌≢◌, ◌⊎◌, ◌↔◌, ◌++◌, ◌<◌, ◌*◌, ℕ, All, IfSome, IsTrue, List, [], ◌∷◌, Option, None, Some, length, map, option_map, slice_get, slice_index_or, string_bytes, Result, Err, MatchResult}
use Rattle.std.specs.List.{range_with_len, sum_by}
use Rattle.matrix.specs.Matrix.{Matrix, height, row}
use Rattle.air_expressions.specs.Faults.{HasFirstFault}
use Rattle.batch.specs.declared.error.BatchError.TheVariants.{Air as OfAir, Lookup as OfLookup}
use Rattle.lookup_model.specs.Batches.Witnesses.{AirResult}
use Rattle.lookup.specs.Guards.{IsHeightRefusal}
use Rattle.lookup_model.specs.Challenges.{ChallengeTable, prefix_of_bus, table_key_denominator}
use Rattle.field.specs.Extension.{Extension}
use Rattle.lookup_model.specs.Fault.{trace_faults}
use Rattle.lookup_model.specs.Plain.{plain_cells, plain_terminal}
use Rattle.lookup_model.specs.Sent.{Sent}
use Rattle.lookup_model.specs.Terminals.{terminal_sum}
use Rattle.lookup_model.specs.declared.error.LookupError.{LookupError}
use Rattle.field_list.specs.Offers.{HoldsOf, Offers, names_of}
use Rattle.field_words.specs.Fields.{Fields}
use Rattle.program_ending.specs.Endings.{EndsAnswered, AnswerParts}
use Rattle.example_machines.specs.Input.{IsInput, IsInputRefusal}
use Rattle.example_machines.specs.Machines.{air_bus_and_weight, air_sends, machine_air_trace, airs_of, input_columns, name_of}
use Rattle.example_machines.specs.Mismatches.{IsMismatchLine}
use Rattle.example_machines.specs.Refusal.{ShowsWord}
use Rattle.example_machines.specs.Report.{verdict_line}
use Rattle.language_witness.specs.Lines.{witness_lines}
use Rattle.example_machines.specs.declared.airs.MachineAir.{MachineAir}
use Rattle.example_machines.specs.declared.error.RunError.{RunError}
use Rattle.example_machines.specs.declared.error.RunError.TheVariants.{Usage, UnknownMachine, UnknownField, BadChallenge, Batch, CannotReadInput, Memory}
use Rattle.example_machines.specs.declared.machine.Machine.{Machine}
use Rattle.example_machines.specs.declared.report.Report.{Report}

-- the weights of a machine's AIRs, each times the height of its trace, added up
abbrev pub height_sum : {F : Type 0} → Machine → Matrix F → ℕ
height_sum machine input = sum_by (λ air. (air_bus_and_weight air).1 * height (machine_air_trace air input)) (airs_of machine)

-- the refusal of an input whose height sum reaches the characteristic
abbrev pub IsHeavyInput : {F : Type 0} → ℕ → Machine → Matrix F → RunError → Type 0
IsHeavyInput p machine input e = (error : LookupError) × IsHeightRefusal p (height_sum machine input) error × (e ≡ Batch (OfLookup error))

-- the challenge table of a run: tuples have one value, and the one id is 0
abbrev pub run_table : {F K : Type 0} → Extension F K → K → K → ChallengeTable K
run_table E alpha beta = record { prefix = λ id. slice_index_or (prefix_of_bus E.ring alpha beta 1 0 ∷ []) id alpha; beta = beta }

module _ {F K : Type 0} (E : Extension F K) (alpha beta : K) (input : Matrix F) where
  -- what an AIR sends on each row of its trace
  abbrev pub air_rows : MachineAir → List (List (Sent F))
  air_rows air =
      let trace = machine_air_trace air input in
      map (λ r. air_sends E.base E.base_eq air (row trace r) ∷ []) (range_with_len 0 (height trace))

  -- the plain result of an AIR: an accumulator and the fractions of its one lookup, and its terminal
  abbrev pub air_result : MachineAir → AirResult K
  air_result air =
      let denominator = table_key_denominator E (run_table E alpha beta) in
      (record { values = plain_cells E denominator (air_rows air); width = 2 }, Some (record { 0 = plain_terminal E denominator (air_rows air) }))

  -- the faults of an AIR
  abbrev pub air_faults : MachineAir → List LookupError
  air_faults air = trace_faults E (table_key_denominator E (run_table E alpha beta)) (air_rows air)

module _ {F K : Type 0} (E : Extension F K) (machine : Machine) (alpha beta : K) (input : Matrix F) where
  -- the plain witness of a machine, AIR by AIR
  abbrev pub machine_witness : List (AirResult K)
  machine_witness = map (air_result E alpha beta input) (airs_of machine)

  -- no AIR has a fault
  abbrev pub AreFaultlessMachineAirs : Type 0
  AreFaultlessMachineAirs = (i : ℕ) (air : MachineAir) → slice_get (airs_of machine) i ≡ Some air → air_faults E alpha beta input air ≡ []

  -- why there is no witness: the first fault of the first AIR that has one
  abbrev pub IsFirstAirFault : RunError → Type 0
  IsFirstAirFault e = HasFirstFault
      (λ air. air_faults E alpha beta input air ≡ [])
      (λ index air. (error : LookupError) × (slice_get (air_faults E alpha beta input air) 0 ≡ Some error) × (e ≡ Batch (OfAir index error)))
      (airs_of machine)

-- a word that gives no challenge is refused
abbrev pub IsBadChallenge : {K : Type 0} → (List ℕ → K → Type 0) → List ℕ → RunError → Type 0
IsBadChallenge {K} written word e = ((x : K) → ¬ written word x) × ShowsWord BadChallenge word e

module _ {F K : Type 0} (fields : Fields F K) (machine : Machine) where
  -- The report of an input at a pair of challenges: the lines of the plain witness over the input's
  -- rows, whether its terminals cancel, and the line of the first tuple that does not balance. The
  -- height sum is below the characteristic, and no AIR has a fault.
  pub record IsReport (alpha beta : K) (input : List ℕ) (report : Report) : Type 0 where
    pub rows : Matrix F
    pub read : IsInput fields.extension.base (input_columns machine) fields.bound input rows
    pub light : height_sum machine rows < fields.characteristic
    pub faultless : AreFaultlessMachineAirs fields.extension machine alpha beta rows
    pub balanced : IsTrue report.balanced
        ↔ (terminal_sum fields.extension.ring (map (λ r. r.1) (machine_witness fields.extension machine alpha beta rows)) ≡ fields.extension.ring.zero)
    pub text : string_bytes report.text
        ≡ witness_lines fields.text (machine_witness fields.extension machine alpha beta rows) ++ verdict_line report.balanced
    pub mismatch : IsMismatchLine fields.extension.base fields.extension.base_eq fields.base_text machine rows report.mismatch

  -- the refusal of an input at a pair of challenges: that of its lines, then that of its height sum,
  -- then that of the first AIR that has a fault
  abbrev pub IsReportRefusal : K → K → List ℕ → RunError → Type 0
  IsReportRefusal alpha beta input e =
      IsInputRefusal (input_columns machine) fields.bound input e
      ⊎ ((rows : Matrix F) × IsInput fields.extension.base (input_columns machine) fields.bound input rows
      × (IsHeavyInput fields.characteristic machine rows e
      ⊎ ((height_sum machine rows < fields.characteristic) × IsFirstAirFault fields.extension machine alpha beta rows e)))

  -- The answer to the words of two challenges and the bytes of an input. Alpha is checked before
  -- beta, and both before the input is read. Out of memory may come at any point.
  unfoldable pub AnswersOver : List ℕ → List ℕ → List ℕ → Result Report RunError → Type 0
  AnswersOver alpha_word beta_word input answer = MatchResult answer
      (λ report. (alpha : K) × (beta : K) × fields.written alpha_word alpha × fields.written beta_word beta
      × IsReport alpha beta input report)
      (λ e. (e ≡ Memory)
      ⊎ (IsBadChallenge fields.written alpha_word e
      ⊎ ((alpha : K) × fields.written alpha_word alpha
      × (IsBadChallenge fields.written beta_word e
      ⊎ ((beta : K) × fields.written beta_word beta
      × ((e ≡ CannotReadInput) ⊎ IsReportRefusal alpha beta input e))))))

  -- the same of an input whose bytes are known, or are not
  abbrev pub AnswersKnown : List ℕ → List ℕ → Option (List ℕ) → Result Report RunError → Type 0
  AnswersKnown alpha_word beta_word known answer =
      (input : List ℕ) × IfSome known (λ bytes. input ≡ bytes) × AnswersOver alpha_word beta_word input answer

module _ (offers : Offers) where
  -- the answer to four words and an input: the machine is checked before the field
  abbrev pub AnswersFour : List ℕ → List ℕ → List ℕ → List ℕ → Option (List ℕ) → Result Report RunError → Type 0
  AnswersFour name field alpha beta known answer =
      (answer ≡ Err Memory)
      ⊎ ((((machine : Machine) → name ≢ name_of machine) × ((e : RunError) × ShowsWord UnknownMachine name e × (answer ≡ Err e)))
      ⊎ ((machine : Machine) × (name ≡ name_of machine)
      × (HoldsOf field (λ F K o. AnswersKnown o.fields machine alpha beta known answer) offers
      ⊎ (All (λ other. other ≢ field) (names_of offers) × ((e : RunError) × ShowsWord UnknownField field e × (answer ≡ Err e))))))

  -- the answer to words and an input: anything but four words is refused
  unfoldable pub Answers : List (List ℕ) → Option (List ℕ) → Result Report RunError → Type 0
  Answers words known answer =
      ((length words ≢ 4) × (answer ≡ Err Usage))
      ⊎ ((name : List ℕ) × (field : List ℕ) × (alpha : List ℕ) × (beta : List ℕ) × (words ≡ name ∷ field ∷ alpha ∷ beta ∷ [])
      × AnswersFour name field alpha beta known answer)

-- the parts of a report, as `write_answer` takes them: its note is the line of a mismatch
abbrev pub parts_of : Report → AnswerParts
parts_of report = record { text = string_bytes report.text; note = option_map string_bytes report.mismatch; yes = report.balanced; unwritten = None }

-- The status of a run, and what becomes of its two outputs. A report is written whole, with status 0 if the terminals
-- cancel and 1 if they do not, and after it the line of a mismatch to the errors; or the status is 2, and a front of them
-- is written in this order. A refusal has status 2 and leaves the output as it was.
abbrev pub EndsWithReport : {W E : Type 0} → (W → Option (List ℕ)) → (E → Option (List ℕ)) → Result Report RunError → ℕ → W → W → E → E → Type 0
EndsWithReport contents contents_of_errors answer status output output_after errors errors_after = MatchResult answer
    (λ report. EndsAnswered contents contents_of_errors (parts_of report) output output_after errors errors_after status)
    (λ e. (status ≡ 2) × (output_after ≡ output))
