-- What a run answers, writes and ends with.
use Rattle.std.specs.Prelude.{◌≡◌, ◌⊎◌, ◌↔◌, ◌&&◌, ◌||◌, ◌++◌, ◌-◌, ◌*◌, ℕ, All, Bool, true, false, not, IsTrue, List, Option, None, Some, Result, Ok, MatchResult, codes, map, max}
use Rattle.std.specs.List.{AllZip}
use Rattle.field.specs.Ring.{of_nat}
use Rattle.field_list.specs.Offers.{HoldsOf, Offers, challenges_in}
use Rattle.field_words.specs.Fields.{Fields}
use Rattle.lookup_debug.specs.Contributions.{Traced}
use Rattle.lookup_debug.specs.Mismatch.{AllBalance}
use Rattle.language.specs.Batches.{Section, batch_at}
use Rattle.language_meaning.specs.Files.{File}
use Rattle.language_meaning.specs.Shapes.{Shape, all_shapes}
use Rattle.language_meaning.specs.Tables.{TablesOf, all_tables}
use Rattle.lookup_model.specs.Batches.Counts.{IsAccepting}
use Rattle.lookup_model.specs.Batches.Witnesses.{HasOneOfEach, IsAccepted, results_of}
use Rattle.lookup_model.specs.declared.types.Lookup.{Lookup}
use Rattle.lookup_model.specs.declared.witness.Witness.{Witness}
use Rattle.language_meaning.specs.Buses.{distinct_buses}
use Rattle.language_meaning.specs.Lookups.{Said}
use Rattle.std.specs.declared.alloc.Global.{Global}
use Rattle.std.specs.declared.string.String.{String}
use Rattle.check_words.specs.Line.{NameList, line_app}
use Rattle.check_words.specs.Words.{IsAsked, IsRefused}
use Rattle.check_words.specs.declared.refusal.WordsRefusal.TheVariants.{Help}
use Rattle.check_words.specs.declared.request.Asked.{Asked}
use Rattle.check_words.specs.declared.request.Asked.TheVariants.{Batch, Bits}
use Rattle.check_words.specs.declared.request.ChallengeWords.{ChallengeWords}
use Rattle.check_words.specs.declared.request.Task.{Task}
use Rattle.check_words.specs.declared.request.Task.TheVariants.{Accept, Any, Check, Pack, Plan, Show, Witness as OfWitness}
use Rattle.batch.specs.Plans.{FitPlan, Plan as PlanOf}
use Rattle.batch.specs.Runs.{Proves, ProvesSatisfied, Run, run_of}
use Rattle.batch.specs.Traces.{view_of}
use Rattle.batch.specs.declared.trace.BatchTrace.{BatchTrace}
use Rattle.language_witness.specs.Lines.{IsTextOf, witness_lines}
use Rattle.check_judge.specs.Bits.{MeetsTarget, alphas_of}
use Rattle.check_judge.specs.Constraints.{AllHold, AreConstrained, Constrained}
use Rattle.check_judge.specs.Enforced.{AreAsserted, AreEnforcedAirs, Asserted, IsAllEnforced}
use Rattle.check_judge.specs.Excesses.{AllStayWithin}
use Rattle.check_judge.specs.Shown.{AreConstraintsFound}
use Rattle.check_judge.specs.declared.enforced.EnforcedAirs.{EnforcedAirs}
use Rattle.check_judge.specs.Found.{IsFound, IsPlanFound, IsPlanOf, sized_of, sized_over}
use Rattle.check_judge.specs.Said.{AreLookupsOf, AreSaid, SayOver, airs_of}
use Rattle.check_report.specs.Told.{enforced_line, refusal_text, target_line, verdict_line}
use Rattle.program_ending.specs.Endings.{EndsAnswered, AnswerParts}
use Rattle.program_ending.specs.Written.{AppendsFront}
use Rattle.check_run.specs.declared.answer.Answer.{Answer}
use Rattle.check_report.specs.declared.refusal.RunRefusal.{RunRefusal}
use Rattle.check_judge.specs.declared.report.PlanReport.{PlanReport}
use Rattle.check_judge.specs.declared.report.Report.{Report}

-- what tells whether a witness is accepted: if it is not, why
abbrev pub IsAcceptanceTold : Bool → List ℕ → Type 0
IsAcceptanceTold true text = text ≡ codes "ACCEPTED: the witness satisfies the constraints of all lookups, and its terminals sum to zero\n"
IsAcceptanceTold false text = (why : List ℕ) × (text ≡ codes "NOT ACCEPTED: " ++ why)

-- the line that tells whether any witness is accepted
abbrev pub decision_line : Bool → List ℕ
decision_line true = codes "SOME WITNESS: at these challenges a witness is accepted\n"
decision_line false = codes "NO WITNESS: at these challenges none is accepted\n"

-- the line that tells that an answer cannot be written
abbrev pub unwritten_line : List ℕ
unwritten_line = codes "error: the answer cannot be written\n"

-- the text ends with this line, unless it has another form
abbrev pub EndsWith : Bool → List ℕ → List ℕ → Type 0
EndsWith is_other line text = is_other ≡ false → (front : List ℕ) × (text ≡ front ++ line)

module _ {F K : Type 0} (fields : Fields F K) (text : List ℕ) (files : List File) where
  -- The lookups and the traces that the bytes of a file and the files that it names say, whose numbers are below the
  -- characteristic: they can be read, no bus is declared twice, tables are whole, and lookups fit them.
  pub record IsReadBatch (traced : List (Traced F)) : Type 0 where
    pub sections : List Section
    pub read : batch_at text ≡ Ok sections
    pub distinct : distinct_buses text sections ≡ Ok tt
    pub tables : List TablesOf
    pub tables_are : all_tables text files fields.characteristic sections ≡ Ok tables
    pub said : AreSaid (of_nat fields.extension.base) text sections 1048576 (airs_of sections) tables traced

  -- The answer to `check`: there is a report of the lookups, the traces and the constraints that the files say, with as
  -- many tuples as are asked for, or 64 if those are fewer. The answer is yes if all messages balance, all constraints
  -- hold and no count is above what is said of it, and if, where that is asked, all flags and weights are shown to be
  -- enforced; and no otherwise. Its last lines show which of these are so, unless it is JSON.
  pub record IsVerdict (number : F → ℕ) (limit max_degree : ℕ) (json enforced : Bool) (answer : Answer) : Type 0 where
    pub traced : List (Traced F)
    pub batch : IsReadBatch traced
    pub report : Report F
    pub found : IsFound fields.extension fields.characteristic (max limit 64) max_degree number traced report
    pub airs : List (Constrained F)
    pub constrained : AreConstrained (of_nat fields.extension.base) text batch.sections 1048576 (airs_of batch.sections) batch.tables airs
    pub shown : AreConstraintsFound fields.extension.base fields.extension.base_eq fields.characteristic number airs report
    pub verdict : answer.yes ≡ ((report.balanced && (report.hold && report.within)) && (not enforced || report.enforced.all))
    pub good : IsTrue answer.yes ↔ ((AllBalance fields.extension.base fields.extension.base_eq traced
        × (AllHold fields.extension.base airs × AllStayWithin fields.characteristic number fields.extension.base fields.extension.base_eq airs))
        × (IsTrue enforced → All IsAllEnforced report.enforced.airs.items))
    pub told : EndsWith json (verdict_line report.balanced report.hold report.within ++ enforced_line enforced report.enforced.all) answer.text.items

  -- The answer to `plan` and to `pack`: the text and the sizes of its AIRs can be read, no bus is declared twice, and
  -- there is a report of a plan of the lookups that the text says, and of what their constraints enforce; and the answer is
  -- yes if as many bits are left as are wanted, and if, where that is asked, all flags and weights are shown to be
  -- enforced. Its last lines show which of these are so, unless it is JSON or tells the AIRs alone, as that to `pack`.
  pub record IsPlanned (max_degree challenges : ℕ) (target : Option ℕ) (json enforced airs_alone : Bool) (answer : Answer) : Type 0 where
    pub sections : List Section
    pub read : batch_at text ≡ Ok sections
    pub distinct : distinct_buses text sections ≡ Ok tt
    pub shapes : List Shape
    pub shapes_are : all_shapes text files fields.characteristic sections ≡ Ok shapes
    pub said : List Said
    pub says : SayOver text sections 1048576 (airs_of sections) shapes said
    pub lookups : List (List (Lookup F))
    pub lookups_are : AllZip (AreLookupsOf (of_nat fields.extension.base) text) said lookups
    pub plan : PlanOf F
    pub report : PlanReport
    pub found : IsPlanFound fields.extension fields.characteristic max_degree (sized_over lookups shapes) plan report
    pub shown : EnforcedAirs
    pub assertions : List (Asserted F)
    pub asserted : AreAsserted (of_nat fields.extension.base) text (airs_of sections) shapes said assertions
    pub enforces : AreEnforcedAirs fields.extension.base fields.extension.base_eq assertions shown.airs.items
    pub all_enforced : IsTrue shown.all ↔ All IsAllEnforced shown.airs.items
    pub meets : Bool
    pub is_met : IsTrue meets ↔ MeetsTarget challenges target report.heights.bad_betas report.heights.accepting_alphas
    pub yes : answer.yes ≡ (meets && (not enforced || shown.all))
    pub told : EndsWith (airs_alone || json) (target_line target meets ++ enforced_line enforced shown.all) answer.text.items

  -- The answer to `show`, which is yes: the text and the sizes of its AIRs can be read, no bus is declared twice, and the
  -- items of all AIRs say something.
  pub record IsShown (answer : Answer) : Type 0 where
    pub sections : List Section
    pub read : batch_at text ≡ Ok sections
    pub distinct : distinct_buses text sections ≡ Ok tt
    pub shapes : List Shape
    pub shapes_are : all_shapes text files fields.characteristic sections ≡ Ok shapes
    pub said : List Said
    pub says : SayOver text sections 1048576 (airs_of sections) shapes said
    pub yes : answer.yes ≡ true

  -- A run of a plan of the lookups and the traces that the files say, at the challenges that two words write.
  pub record IsReadRun (words : ChallengeWords) (run : Run F K) : Type 0 where
    pub traced : List (Traced F)
    pub batch : IsReadBatch traced
    pub plan : PlanOf F
    pub planned : IsPlanOf fields.characteristic (map sized_of traced) plan
    pub traces : List (BatchTrace F)
    pub traces_are : map view_of traces ≡ map (λ t. t.traces) traced
    pub alpha : K
    pub alpha_is : fields.written words.alpha.now alpha
    pub beta : K
    pub beta_is : fields.written words.beta.now beta
    pub run_is : run ≡ run_of fields.extension plan traces alpha beta

  -- The answer to `witness`, which is yes: the text of the witness that proving gives, which is satisfied.
  pub record IsWitnessed (words : ChallengeWords) (answer : Answer) : Type 0 where
    pub run : Run F K
    pub over : IsReadRun words run
    pub witness : Witness K
    pub proved : Proves run (Ok witness)
    pub satisfied : ProvesSatisfied run (Ok witness)
    pub told : answer.text.items ≡ witness_lines fields.text (results_of witness)
    pub yes : answer.yes ≡ true

  -- The answer to `accept` over the bytes of a witness: they are the text of one, and the answer is yes if it is
  -- accepted, and no if it is not.
  pub record IsAcceptance (words : ChallengeWords) (bytes : List ℕ) (answer : Answer) : Type 0 where
    pub run : Run F K
    pub over : IsReadRun words run
    pub witness : Witness K
    pub bytes_are : IsTextOf fields.text bytes witness
    pub yes : IsTrue answer.yes ↔ (FitPlan run.plan run.traces × HasOneOfEach run.batch witness × IsAccepted run.fields run.table run.batch (results_of witness))
    pub told : IsAcceptanceTold answer.yes answer.text.items

  -- The answer to `any`: yes if some witness, whoever makes it, is accepted, and no if none is.
  pub record IsDecision (words : ChallengeWords) (answer : Answer) : Type 0 where
    pub run : Run F K
    pub over : IsReadRun words run
    pub yes : IsTrue answer.yes ↔ IsAccepting run.fields run.batch run.plan.width run.beta run.alpha
    pub told : answer.text.items ≡ decision_line answer.yes

  -- The answer to a task over a field with so many challenges. `number` is the number that an element of a trace is told
  -- as.
  abbrev pub AnswersOver : (F → ℕ) → ℕ → Task → List ℕ → Answer → Type 0
  AnswersOver number challenges (Check limit degree json enforced) witness answer = IsVerdict number limit degree json enforced answer
  AnswersOver number challenges (Plan degree json target enforced) witness answer = IsPlanned degree challenges target json enforced false answer
  AnswersOver number challenges (Pack degree json) witness answer = IsPlanned degree challenges None json false true answer
  AnswersOver number challenges (Show json) witness answer = IsShown answer
  AnswersOver number challenges (OfWitness words out) witness answer = IsWitnessed words answer
  AnswersOver number challenges (Accept words file) witness answer = IsAcceptance words witness answer
  AnswersOver number challenges (Any words) witness answer = IsDecision words answer

module _ (offers : Offers) where
  -- the answer to a task over the field with this name
  abbrev pub AnswersIn : List ℕ → Task → List ℕ → List File → List ℕ → Answer → Type 0
  AnswersIn name task text files witness answer = HoldsOf name (λ F K o. AnswersOver o.fields text files o.number (challenges_in o) task witness answer) offers

  -- The answer to what is asked: to a task of a batch that of its field, and to `bits` yes if as many bits are left in
  -- its field as are wanted, which its last line shows, unless it is JSON.
  abbrev pub AnswersTo : Asked → List ℕ → List File → List ℕ → Answer → Type 0
  AnswersTo (Batch request) text files witness answer = AnswersIn request.field.now request.task text files witness answer
  AnswersTo (Bits request) text files witness answer = HoldsOf request.field.now (λ F K o.
      IsTrue answer.yes ↔ MeetsTarget (challenges_in o) request.target (request.width * (request.unbalanced - 1)) (alphas_of request.messages request.unbalanced)) offers
      × EndsWith request.json (target_line request.target answer.yes) answer.text.items

  -- The answer to the words of a command line: to what they ask for; or, where they ask for help, one that is yes. Its
  -- text is left to tests.
  abbrev pub IsAnswer : NameList → List (List ℕ) → List ℕ → List File → List ℕ → Answer → Type 0
  IsAnswer names words text files witness answer =
      ((asked : Asked) × IsAsked (line_app names) words asked × AnswersTo asked text files witness answer)
      ⊎ ((help : String Global) × IsRefused (line_app names) words (Help help) × (answer.yes ≡ true))

-- the parts of an answer, as `write_answer` takes them
abbrev pub parts_of : Answer → AnswerParts
parts_of answer = record { text = answer.text.items; note = None; yes = answer.yes; unwritten = Some unwritten_line }

-- The status of a run, and what becomes of its outputs, of those whose bytes are known. An answer is written whole, with
-- status 0 if it is yes and 1 if not, and nothing to the errors; or the status is 2, a front of the answer is written, and
-- to the errors a front of the line that says that it cannot be written. A refusal has status 2, leaves the output as it
-- was, and a front of its text is written to the errors. A front may be empty or all of a text.
abbrev pub EndsWithAnswer : {W E : Type 0} → (W → Option (List ℕ)) → (E → Option (List ℕ)) → Result Answer RunRefusal → ℕ → W → W → E → E → Type 0
EndsWithAnswer contents contents_of_errors answer status output output_after errors errors_after = MatchResult answer
    (λ a. EndsAnswered contents contents_of_errors (parts_of a) output output_after errors errors_after status)
    (λ e. (status ≡ 2) × (output_after ≡ output) × AppendsFront (contents_of_errors errors) (contents_of_errors errors_after) (refusal_text e))
