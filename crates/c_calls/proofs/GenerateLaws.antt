-- What generation over elements answers, as answers over tables of numbers.
use Rattle.std.proofs.Common.{◌<◌, ◌≡◌, ◌⊎◌, ℕ, List, MatchResult, Option, Result, Ok, Err, inl, inr, subst}
use Rattle.std.proofs.lemmas.Result.{MatchResult-weaker}
use Rattle.field.specs.Residue.{Residue}
use Rattle.air.specs.Traces.{AirTraces}
use Rattle.field.specs.Extension.{Extension}
use Rattle.field_monty.specs.Quartic.{Quartic}
use Rattle.lookup_model.specs.Generation.{AnswersGeneration}
use Rattle.lookup_model.specs.declared.error.LookupError.{LookupError}
use Rattle.lookup_model.specs.declared.types.Lookup.{Lookup}
use Rattle.lookup_model.specs.declared.types.LookupTerminal.{LookupTerminal}
use Rattle.c_tables.specs.Tables.{TablesEncode}
use Rattle.c_tables.specs.TraceNumbers.{AreTracesOfNumbers}
use Rattle.c_tables.specs.declared.tables.Tables.{Tables}
use Rattle.c_tables.specs.declared.traces.ReadTraces.{ReadTraces}
use Rattle.c_tables.specs.declared.traces.Traces.{Traces}
use Rattle.matrix.specs.Matrix.{Matrix}
use Rattle.c_calls.specs.Generate.{AreGeneratedNumbers, CallGeneratesOver, GenerateFits, HasOtherGenerateRoom, IsFirstGenerateFault, IsGenerateLookupsRefusal, LacksGenerateRoom}
use Rattle.c_calls.specs.Generate as one_air
use Rattle.c_calls.specs.Inputs.{AreInputElements, view_of_read}
use Rattle.c_calls.specs.declared.fault.Fault.{Fault}
use Rattle.c_calls.specs.declared.generate.Generated.{Generated}
use Rattle.c_calls.specs.declared.outputs.Terminal.{Terminal}
use Rattle.c_calls.specs.internal.Faults.{IsLookupFault}
use Rattle.c_calls.specs.internal.Generate.{AreNumbersOfGenerated}
use Rattle.c_calls.proofs.BatchLaws.{decoded}

module _ {p : ℕ} (positive : 0 < p) (E : Extension (Residue p) (Quartic (Residue p))) (tables : Tables) (traces : Traces) (answer : Result (Generated (Quartic (Residue p))) Fault) (lookups : List (Lookup (Residue p))) (read : ReadTraces (Residue p)) (challenges : List (Quartic (Residue p))) (say : TablesEncode tables lookups)
    (are : AreTracesOfNumbers positive traces read) where
  -- what generation over elements answers
  abbrev AnswersOver : AirTraces (Residue p) → Type 0
  AnswersOver t = MatchResult answer (λ g. CallGeneratesOver E t challenges lookups g.auxiliary g.terminal) (IsGenerateLookupsRefusal E t challenges lookups)

  -- the same over tables of numbers
  pub generates_tables : (numbers : List (List ℕ)) → AreInputElements positive numbers challenges → AnswersOver (view_of_read read)
      → MatchResult answer (λ g. one_air.CallGeneratesTables positive E tables traces numbers g.auxiliary g.terminal) (one_air.IsGenerateRefusal positive E tables traces numbers)
  generates_tables numbers challenges_are over =
      MatchResult-weaker answer (subst AnswersOver (decoded positive traces read are) over)
      (λ g generates. record { lookups = lookups; encoded = say; traces_below = are.canonical; elements = challenges; elements_are = challenges_are; generates = generates })
      (λ fault refusal. inr (inr (inr (lookups, challenges, say, challenges_are, refusal))))

module _ {F K : Type 0} (E : Extension F K) (seen traces : AirTraces F) (lookups : List (Lookup F)) (challenges : List K) (is : seen ≡ traces) (fitting : GenerateFits traces lookups) where
  -- what is generated over the traces by another name
  pub generated_over : (auxiliary : Matrix K) (terminal : Option (LookupTerminal K)) → AnswersGeneration E seen lookups challenges (Ok (auxiliary, terminal)) → CallGeneratesOver E traces challenges lookups auxiliary terminal
  generated_over auxiliary terminal answer =
      let made : AnswersGeneration E traces lookups challenges (Ok (auxiliary, terminal)) = subst (λ t. AnswersGeneration E t lookups challenges (Ok (auxiliary, terminal))) is answer in
      record { fitting = fitting; auxiliary_is = made.0; terminal_is = made.1; faultless = made.2; satisfied = made.3 }

  -- and what is refused
  pub refused_over : (error : LookupError) (fault : Fault) → IsLookupFault error fault → AnswersGeneration E seen lookups challenges (Err error) → IsFirstGenerateFault E traces challenges lookups fault
  refused_over error fault told answer = by_case told (subst (λ t. AnswersGeneration E t lookups challenges (Err error)) is answer)
    where
      by_case : IsLookupFault error fault → AnswersGeneration E traces lookups challenges (Err error) → IsFirstGenerateFault E traces challenges lookups fault
      by_case (inl memory) made = inl memory.1
      by_case (inr other) (inl memory) = absurd (other.0 memory)
      by_case (inr other) (inr first) = inr (error, other.1, record { fit = fitting.fit; first = first })

-- what is written of what was generated is its numbers, unless there is not room for exactly its cells
pub numbers_of_generated : {p : ℕ} (Makes : Matrix (Quartic (Residue p)) → Option (LookupTerminal (Quartic (Residue p))) → Type 0) (Refuses : Fault → Type 0) (made : Generated (Quartic (Residue p))) → Makes made.auxiliary made.terminal
    → {T : Type 0} (room : ℕ) (answer : Result T Fault) (cells : List (List ℕ)) (ending : Terminal) → MatchResult answer (λ _. AreNumbersOfGenerated made cells ending) (HasOtherGenerateRoom made.auxiliary room)
    → MatchResult answer (λ _. AreGeneratedNumbers Makes cells ending) (λ fault. Refuses fault ⊎ LacksGenerateRoom Makes room fault)
numbers_of_generated Makes Refuses made is room answer cells ending written =
    MatchResult-weaker answer written
    (λ _ are. record {
      auxiliary = made.auxiliary;
      terminal = made.terminal;
      generates = is;
      cells_are = are.cells_are;
      ending_is = are.ending_is;
    })
    (λ fault other. inr (made.auxiliary, made.terminal, is, other))
