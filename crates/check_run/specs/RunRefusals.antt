-- Why a run is refused: a step that fails.
use Rattle.std.specs.Prelude.{◌≡◌, ◌≢◌, ◌⊎◌, ℕ, All, Bool, true, List, [], ◌∷◌, Result, Err, Ok}
use Rattle.field.specs.Ring.{of_nat}
use Rattle.field_list.specs.Offers.{HoldsOf, Offers, names_of}
use Rattle.field_words.specs.Fields.{Fields}
use Rattle.language.specs.Batches.{Section, batch_at}
use Rattle.language.specs.declared.fault.Fault.{Fault}
use Rattle.language_meaning.specs.Files.{File}
use Rattle.language_meaning.specs.Shapes.{all_shapes}
use Rattle.language_meaning.specs.Tables.{all_tables}
use Rattle.language_meaning.specs.declared.table_fault.TableRefusal.{TableRefusal}
use Rattle.language_meaning.specs.Lookups.{Said}
use Rattle.std.specs.declared.alloc.Global.{Global}
use Rattle.std.specs.declared.string.String.{String}
use Rattle.check_report.specs.declared.refusal.RunRefusal.{RunRefusal}
use Rattle.check_report.specs.declared.refusal.RunRefusal.TheVariants.{Memory}
use Rattle.check_words.specs.Line.{NameList, line_app}
use Rattle.check_words.specs.Words.{IsAsked, IsRefused}
use Rattle.check_words.specs.declared.refusal.WordsRefusal.TheVariants as of_words
use Rattle.check_words.specs.declared.request.Asked.{Asked}
use Rattle.check_words.specs.declared.request.Asked.TheVariants.{Batch, Bits}
use Rattle.check_words.specs.declared.request.ChallengeWords.{ChallengeWords}
use Rattle.check_words.specs.declared.request.Task.{Task}
use Rattle.check_words.specs.declared.request.Task.TheVariants.{Accept, Any, Check, Pack, Plan, Show, Witness}
use Rattle.batch.specs.Grids.{CountsPlanGrid}
use Rattle.batch.specs.Runs.{Proves, Run}
use Rattle.batch.specs.declared.error.BatchError.{BatchError}
use Rattle.batch.specs.declared.error.BatchError.TheVariants as batch
use Rattle.check_judge.specs.Causes.{HasNoPlan, IsBusRefusalOr, IsFirstElementRefusal, IsJudgeRefusal, IsPlanJudgeRefusal, IsSayingRefusal}
use Rattle.check_run.specs.Runs.{IsReadRun}
use Rattle.check_judge.specs.Said.{SayOver, airs_of}
use Rattle.check_judge.specs.declared.fault.JudgeFault.{JudgeFault}
use Rattle.check_judge.specs.declared.fault.JudgeFault.TheVariants as judge

-- The text cannot be read, or else the tables or sizes of its AIRs cannot, or else a later step is refused, for another
-- cause than want of memory.
abbrev pub IsReadingRefused : {X : Type 0} → List ℕ → (List Section → Result X TableRefusal) → (List Section → X → JudgeFault → Type 0) → Type 0
IsReadingRefused {X} text reading Later =
    ((fault : Fault) × (batch_at text ≡ Err fault))
    ⊎ ((sections : List Section) × (batch_at text ≡ Ok sections)
    × (((refusal : TableRefusal) × (reading sections ≡ Err refusal))
    ⊎ ((x : X) × (reading sections ≡ Ok x) × (e : JudgeFault) × (e ≢ judge.Memory) × Later sections x e)))

module _ {F K : Type 0} (fields : Fields F K) (text : List ℕ) (files : List File) where
  -- why `check` is refused
  abbrev pub IsCheckRefused : ℕ → Type 0
  IsCheckRefused max_degree = IsReadingRefused text (all_tables text files fields.characteristic) (λ sections. IsJudgeRefusal fields.extension fields.characteristic text sections max_degree)

  -- why `plan` and `pack` are refused
  abbrev pub IsPlanRefused : ℕ → Type 0
  IsPlanRefused max_degree = IsReadingRefused text (all_shapes text files fields.characteristic) (λ sections. IsPlanJudgeRefusal fields.extension fields.characteristic text sections max_degree)

  -- why `show` is refused: reading is, or what its AIRs say, or with `--json` a lookup that cannot be made
  abbrev pub IsShowRefused : Bool → Type 0
  IsShowRefused json = IsReadingRefused text (all_shapes text files fields.characteristic) (λ sections shapes. IsBusRefusalOr text sections (λ e.
      IsSayingRefusal text sections shapes e
      ⊎ ((json ≡ true) × (said : List Said) × SayOver text sections 1048576 (airs_of sections) shapes said × IsFirstElementRefusal (of_nat fields.extension.base) text said e)))

  -- Why a run at two challenges does not begin: a word writes no challenge, or the batch cannot be read, or it has no
  -- plan.
  abbrev pub IsOpeningRefused : ChallengeWords → Type 0
  IsOpeningRefused words =
      ((x : K) → ¬ fields.written words.alpha.now x)
      ⊎ (((x : K) → ¬ fields.written words.beta.now x)
      ⊎ IsReadingRefused text (all_tables text files fields.characteristic) (HasNoPlan fields.characteristic (of_nat fields.extension.base) text))

  -- why `witness` is refused: the run does not begin, or proving is refused
  abbrev pub IsWitnessRefused : ChallengeWords → Type 0
  IsWitnessRefused words =
      IsOpeningRefused words
      ⊎ ((run : Run F K) × IsReadRun fields text files words run
      × (error : BatchError) × Proves run (Err error) × (error ≢ batch.Memory))

  -- why `any` is refused: the run does not begin, or its pair of challenges cannot be judged
  abbrev pub IsAnyRefused : ChallengeWords → Type 0
  IsAnyRefused words =
      IsOpeningRefused words
      ⊎ ((run : Run F K) × IsReadRun fields text files words run
      × (error : BatchError) × CountsPlanGrid fields.extension run.plan run.traces (run.alpha ∷ []) (run.beta ∷ []) (Err error) × (error ≢ batch.Memory))

  -- why a task is refused; of `accept` this says nothing, since what it refuses is left to tests
  abbrev pub IsTaskRefused : Task → Type 0
  IsTaskRefused (Check limit degree json enforced) = IsCheckRefused degree
  IsTaskRefused (Plan degree json target enforced) = IsPlanRefused degree
  IsTaskRefused (Pack degree json) = IsPlanRefused degree
  IsTaskRefused (Show json) = IsShowRefused json
  IsTaskRefused (Witness words out) = IsWitnessRefused words
  IsTaskRefused (Accept words file) = Unit {0}
  IsTaskRefused (Any words) = IsAnyRefused words

module _ (offers : Offers) where
  -- The refusal of a task over the field with this name: memory ran out, or the task is refused; or no field of the list has
  -- the name.
  abbrev pub IsRefusalIn : List ℕ → Task → List ℕ → List File → RunRefusal → Type 0
  IsRefusalIn name task text files e =
      All (λ other. other ≢ name) (names_of offers)
      ⊎ HoldsOf name (λ F K o. (e ≡ Memory) ⊎ IsTaskRefused o.fields text files task) offers

  -- the refusal of what is asked: that of a task of a batch, and of `bits` that memory ran out or no field has the name
  abbrev pub IsAskedRefusal : Asked → List ℕ → List File → RunRefusal → Type 0
  IsAskedRefusal (Batch request) text files e = IsRefusalIn request.field.now request.task text files e
  IsAskedRefusal (Bits request) text files e = (e ≡ Memory) ⊎ All (λ other. other ≢ request.field.now) (names_of offers)

  -- the refusal of the words of a command line: memory ran out, or the words are refused, or what they ask for is
  abbrev pub IsRunRefusal : NameList → List (List ℕ) → List ℕ → List File → RunRefusal → Type 0
  IsRunRefusal names words text files e =
      (e ≡ Memory)
      ⊎ (((told : String Global) × IsRefused (line_app names) words (of_words.Told told))
      ⊎ ((asked : Asked) × IsAsked (line_app names) words asked × IsAskedRefusal asked text files e))
