-- Why a batch is not judged: the first step that fails.
use Rattle.std.specs.Prelude.{◌≡◌, ◌≢◌, ◌⊎◌, ◌+◌, ℕ, Bool, List, ◌∷◌, Some, Err, Ok, false, true, length, map, slice_get}
use Rattle.std.specs.List.{AllZip}
use Rattle.air_expressions.specs.Faults.{SplitsAtFault}
use Rattle.field.specs.Extension.{Extension}
use Rattle.field.specs.Ring.{Ring, of_nat}
use Rattle.lookup_debug.specs.Contributions.{Traced}
use Rattle.lookup_debug.specs.Fits.{IsFitFault}
use Rattle.lookup_debug.specs.declared.fit.FitFault.{FitFault}
use Rattle.language_meaning.specs.Columns.{IsFirstColumnRefusal}
use Rattle.language_meaning.specs.declared.element_fault.ElementRefusal.{ElementRefusal}
use Rattle.language_meaning.specs.Shapes.{Shape, column_names}
use Rattle.language_meaning.specs.Tables.{TablesOf}
use Rattle.lookup_model.specs.LookupDegree.{IsDegree, lookup_degree}
use Rattle.lookup_model.specs.Outline.{fields_of, outline_of}
use Rattle.lookup_model.specs.declared.count.SoundnessCount.{SoundnessCount}
use Rattle.lookup_model.specs.declared.error.LookupError.{LookupError}
use Rattle.lookup_model.specs.declared.types.Lookup.{Lookup}
use Rattle.language_meaning.specs.Buses.{distinct_buses}
use Rattle.language_meaning.specs.Lookups.{Said}
use Rattle.language_meaning.specs.declared.name_fault.NameRefusal.{NameRefusal}
use Rattle.language.specs.Batches.{Air, Section}
use Rattle.lookup.specs.Fewest.{AnswersDegree}
use Rattle.lookup.specs.BusWidths.{HaveBusWidths, IsWidthRefusal}
use Rattle.lookup.specs.Packing.{IsFillRefusal, IsPacking}
use Rattle.lookup.specs.declared.lookups.Lookups.{Lookups}
use Rattle.batch.specs.Checks.{IsPlanRefusal}
use Rattle.batch.specs.Heights.{CountsHeights, most_planned}
use Rattle.batch.specs.Plans.{Plan}
use Rattle.batch.specs.SoundnessCounts.{CountsPlan}
use Rattle.batch.specs.Traces.{view_of}
use Rattle.batch.specs.declared.error.BatchError.{BatchError}
use Rattle.batch.specs.declared.error.BatchError.TheVariants as batch
use Rattle.batch.specs.declared.heights.HeightSoundness.{HeightSoundness}
use Rattle.batch.specs.declared.trace.BatchTrace.{BatchTrace}
use Rattle.check_judge.specs.Refusals.{of_batch, of_lookups}
use Rattle.check_judge.specs.Found.{AreCopies, IsAirFound, IsPlanOf, Sized, sized_of, sized_over}
use Rattle.check_judge.specs.Said.{AreLookupsOf, AreSaid, AreWhole, IsSaid, IsWhole, SayOver, SaysOver, airs_of, said_over, traces_in}
use Rattle.check_judge.specs.declared.fault.JudgeFault.{JudgeFault}
use Rattle.check_judge.specs.declared.fault.JudgeFault.TheVariants.{Element, Fit, Name, Rows, Tables}

-- another number of tables or shapes than of AIRs
abbrev pub IsMiscounted : ℕ → ℕ → JudgeFault → Type 0
IsMiscounted airs tables e = (airs ≢ tables) × (e ≡ Tables airs tables)

-- An item is refused, and to each item before it something is given. Why may depend on how many those are.
abbrev pub IsFirstRefused : {X Y : Type 0} → (X → Y → Type 0) → (ℕ → X → Type 0) → List X → Type 0
IsFirstRefused {X} {Y} Gives Refuses xs = SplitsAtFault (λ before. (ys : List Y) × AllZip Gives before ys) (λ before x. Refuses (length before) x) xs

-- a lookup of an AIR cannot be made over the field
abbrev pub IsElementRefusal : List ℕ → Said → JudgeFault → Type 0
IsElementRefusal text said e = (refusal : ElementRefusal) × IsFirstColumnRefusal text said.columns refusal × (e ≡ Element refusal)

-- the refusal of the first AIR with such a lookup
abbrev pub IsFirstElementRefusal : {F : Type 0} → (ℕ → F) → List ℕ → List Said → JudgeFault → Type 0
IsFirstElementRefusal element text said e = IsFirstRefused (AreLookupsOf element text) (λ _ s. IsElementRefusal text s e) said

module _ (text : List ℕ) (sections : List Section) where
  -- the items of an AIR are refused over these columns
  abbrev pub AreItemsRefused : Air → List (List ℕ) → List (List ℕ) → ℕ → JudgeFault → Type 0
  AreItemsRefused a columns fixed room e = (refusal : NameRefusal) × (said_over text sections a columns fixed room ≡ Err refusal) × (e ≡ Name refusal)

  -- the refusal of the first AIR whose items are refused over its shape
  abbrev pub IsFirstNameRefusal : ℕ → List Air → List Shape → JudgeFault → Type 0
  IsFirstNameRefusal room (a ∷ airs) (s ∷ ss) e =
      AreItemsRefused a s.columns s.preprocessed room e
      ⊎ ((said : Said) × SaysOver text sections a s.columns s.preprocessed room said × IsFirstNameRefusal said.room airs ss e)
  IsFirstNameRefusal room airs ss e = ⊥

  -- What all AIRs say is refused over these shapes: there are not as many, or the items of an AIR are refused.
  abbrev pub IsSayingRefusal : List Shape → JudgeFault → Type 0
  IsSayingRefusal shapes e =
      IsMiscounted (length (airs_of sections)) (length shapes) e
      ⊎ ((length (airs_of sections) ≡ length shapes) × IsFirstNameRefusal 1048576 (airs_of sections) shapes e)

  -- a bus is declared twice, or else a later step is refused
  abbrev pub IsBusRefusalOr : (JudgeFault → Type 0) → JudgeFault → Type 0
  IsBusRefusalOr Later e =
      ((refusal : NameRefusal) × (distinct_buses text sections ≡ Err refusal) × (e ≡ Name refusal))
      ⊎ ((distinct_buses text sections ≡ Ok tt) × Later e)

  module _ {F : Type 0} (element : ℕ → F) where
    -- The items of an AIR with this number are refused over its tables, or its lookups cannot be made, or they do not
    -- fit its tables.
    abbrev pub IsLookupRefusal : ℕ → Air → TablesOf → ℕ → JudgeFault → Type 0
    IsLookupRefusal index a t room e =
        AreItemsRefused a t.main.0 (column_names t.preprocessed) room e
        ⊎ ((said : Said) × SaysOver text sections a t.main.0 (column_names t.preprocessed) room said
        × (IsElementRefusal text said e
        ⊎ ((lookups : List (Lookup F)) × (fault : FitFault) × AreLookupsOf element text said lookups × IsFitFault (traces_in element t said) lookups fault × (e ≡ Fit index fault))))

    -- An AIR with this number is refused over its tables: the preprocessed table is not whole, or else the main one is
    -- not, or else its lookups are refused.
    abbrev pub IsAirRefusal : ℕ → Air → TablesOf → ℕ → JudgeFault → Type 0
    IsAirRefusal index a t room e =
        ((¬ AreWhole t.preprocessed) × (e ≡ Rows index true))
        ⊎ (AreWhole t.preprocessed
        × (((¬ IsWhole t.main) × (e ≡ Rows index false))
        ⊎ (IsWhole t.main × IsLookupRefusal index a t room e)))

    -- the first AIR that is refused, of those from this number on
    abbrev pub IsFirstAirRefusal : ℕ → ℕ → List Air → List TablesOf → JudgeFault → Type 0
    IsFirstAirRefusal index room (a ∷ airs) (t ∷ ts) e =
        IsAirRefusal index a t room e
        ⊎ ((said : Said) × (traced : Traced F) × IsSaid element text sections a t room said traced × IsFirstAirRefusal (index + 1) said.room airs ts e)
    IsFirstAirRefusal index room airs ts e = ⊥

    -- the AIRs over these tables are refused: there are not as many tables, or an AIR is refused
    abbrev pub IsTableRefusal : List TablesOf → JudgeFault → Type 0
    IsTableRefusal tables e =
        IsMiscounted (length (airs_of sections)) (length tables) e
        ⊎ ((length (airs_of sections) ≡ length tables) × IsFirstAirRefusal 0 1048576 (airs_of sections) tables e)

-- the refusal of a plan of AIRs
abbrev pub IsPlanningRefusal : {F : Type 0} → ℕ → List (Sized F) → JudgeFault → Type 0
IsPlanningRefusal {F} p airs e =
    (copies : List (Lookups F)) × AreCopies airs copies
    × (error : BatchError) × IsPlanRefusal p copies (map (λ a. a.rows) airs) error × (e ≡ of_batch error)

-- the degree of the constraint of one of these lookups does not fit 64 bits
abbrev pub IsDegreeRefusal : {F : Type 0} → List (Lookup F) → LookupError → Type 0
IsDegreeRefusal {F} lookups error = (index : ℕ) × (l : Lookup F) × (slice_get lookups index ≡ Some l) × IsDegree (Err error) (lookup_degree 0 l)

-- The lookups of an AIR cannot be packed; or else the degree of one of them does not fit, or of one that packing leaves.
abbrev pub IsPackingRefusal : {F : Type 0} → ℕ → Sized F → LookupError → Type 0
IsPackingRefusal {F} max_degree a error =
    (copies : List (Lookup F)) × (map outline_of copies ≡ map outline_of a.lookups)
    × (IsWidthRefusal (map fields_of copies) error
    ⊎ ((HaveBusWidths (map fields_of copies) × IsFillRefusal AnswersDegree max_degree (map fields_of copies) error)
    ⊎ ((packed : List (Lookup F)) × IsPacking AnswersDegree max_degree (map fields_of copies) (map fields_of packed)
    × (IsDegreeRefusal a.lookups error ⊎ IsDegreeRefusal packed error))))

-- the refusal of the first AIR of which that is so
abbrev pub IsFirstPackingRefusal : {F : Type 0} → Ring F → (F → F → Bool) → ℕ → List (Sized F) → JudgeFault → Type 0
IsFirstPackingRefusal R eq max_degree airs e =
    IsFirstRefused (IsAirFound R eq max_degree) (λ index a. (error : LookupError) × IsPackingRefusal max_degree a error × (e ≡ of_lookups index error)) airs

-- What is found of a plan is refused: a number that bounds its messages does not fit 128 bits, or else an AIR cannot be
-- packed.
abbrev pub IsReportRefusal : {F : Type 0} → Ring F → (F → F → Bool) → ℕ → List (Sized F) → Plan F → JudgeFault → Type 0
IsReportRefusal R eq max_degree airs plan e =
    let M = most_planned plan.airs plan.heights in
    ((error : BatchError) × CountsHeights M plan.width (Err error) × (e ≡ of_batch error))
    ⊎ ((heights : HeightSoundness) × CountsHeights M plan.width (Ok heights) × IsFirstPackingRefusal R eq max_degree airs e)

module _ {F : Type 0} (p : ℕ) (element : ℕ → F) (text : List ℕ) (sections : List Section) where
  -- the AIRs over these tables are refused, or else their plan is
  abbrev pub IsUnplanned : List TablesOf → JudgeFault → Type 0
  IsUnplanned tables e =
      IsTableRefusal text sections element tables e
      ⊎ ((traced : List (Traced F)) × AreSaid element text sections 1048576 (airs_of sections) tables traced × IsPlanningRefusal p (map sized_of traced) e)

  -- a batch over tables has no plan: a bus is declared twice, or its AIRs or their plan are refused
  abbrev pub HasNoPlan : List TablesOf → JudgeFault → Type 0
  HasNoPlan tables = IsBusRefusalOr text sections (IsUnplanned tables)

module _ {F K : Type 0} (E : Extension F K) (p : ℕ) (text : List ℕ) (sections : List Section) (max_degree : ℕ) where
  -- Why a batch over shapes is not judged: a bus that is declared twice, what its AIRs say, its lookups over the
  -- field, its plan, or what is found of that, whichever is refused first.
  abbrev pub IsPlanJudgeRefusal : List Shape → JudgeFault → Type 0
  IsPlanJudgeRefusal shapes = IsBusRefusalOr text sections (λ e.
      IsSayingRefusal text sections shapes e
      ⊎ ((said : List Said) × SayOver text sections 1048576 (airs_of sections) shapes said
      × (IsFirstElementRefusal (of_nat E.base) text said e
      ⊎ ((lookups : List (List (Lookup F))) × AllZip (AreLookupsOf (of_nat E.base) text) said lookups
      × (IsPlanningRefusal p (sized_over lookups shapes) e
      ⊎ ((plan : Plan F) × IsPlanOf p (sized_over lookups shapes) plan × IsReportRefusal E.base E.base_eq max_degree (sized_over lookups shapes) plan e))))))

  -- The messages of a plan over traces cannot be counted, for another cause than want of memory; or else what is found
  -- of the plan is refused.
  abbrev pub IsCountedRefusal : List (Traced F) → Plan F → JudgeFault → Type 0
  IsCountedRefusal traced plan e =
      (traces : List (BatchTrace F)) × (map view_of traces ≡ map (λ t. t.traces) traced)
      × (((error : BatchError) × CountsPlan E plan traces (Err error) × (error ≢ batch.Memory) × (e ≡ of_batch error))
      ⊎ ((counts : SoundnessCount) × CountsPlan E plan traces (Ok counts) × IsReportRefusal E.base E.base_eq max_degree (map sized_of traced) plan e))

  -- Why a batch over tables is not judged: a bus that is declared twice, its AIRs over their tables, its plan, its
  -- counts, or what is found of the plan, whichever is refused first.
  abbrev pub IsJudgeRefusal : List TablesOf → JudgeFault → Type 0
  IsJudgeRefusal tables = IsBusRefusalOr text sections (λ e.
      IsUnplanned p (of_nat E.base) text sections tables e
      ⊎ ((traced : List (Traced F)) × (plan : Plan F)
      × AreSaid (of_nat E.base) text sections 1048576 (airs_of sections) tables traced × IsPlanOf p (map sized_of traced) plan
      × IsCountedRefusal traced plan e))
