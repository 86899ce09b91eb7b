-- Constraints that a call reads, whether they fit traces, and what is answered for whether they hold.
use Rattle.std.specs.Prelude.{◌<◌, ◌≡◌, ◌⊎◌, ℕ, All, List}
use Rattle.field.specs.Residue.{Residue}
use Rattle.field.specs.Ring.{Ring}
use Rattle.air.specs.Traces.{AirTraces, HaveOneHeight, layout_of}
use Rattle.air_constraints.specs.Checked.{IsFirstFault}
use Rattle.air_constraints.specs.Hold.{HoldOn}
use Rattle.air_constraints.specs.declared.check.ConstraintFault.{ConstraintFault}
use Rattle.air_expressions.specs.Layout.{Fits}
use Rattle.air_expressions.specs.Tree.{tree_of}
use Rattle.air_expressions.specs.declared.layout.AirLayout.{AirLayout}
use Rattle.air_expressions.specs.declared.base_expression.SymbolicExpression.{SymbolicExpression}
use Rattle.c_tables.specs.Tables.{AreTableExpressions, IsTableSpanFault, NothingInTable, RangeEncodes}
use Rattle.c_tables.specs.TraceNumbers.{AreNumbersOfTraces}
use Rattle.c_tables.specs.declared.nodes.Node.{Node}
use Rattle.c_tables.specs.declared.tables.Span.{Span}
use Rattle.c_tables.specs.declared.tables.TableFault.{TableFault}
use Rattle.c_tables.specs.declared.tables.Tables.{Tables}
use Rattle.c_tables.specs.declared.traces.Traces.{Traces}
use Rattle.c_calls.specs.CallAnswers.{CallAnswers}
use Rattle.c_calls.specs.Inputs.{IsInputTracesRefusal, decoded_traces}
use Rattle.c_calls.specs.declared.fault.Fault.{Fault}
use Rattle.c_calls.specs.declared.fault.Fault.TheVariants.{Constraints, Heights, Memory, Nonzero, UnfitConstraints}
use Rattle.c_calls.specs.declared.refusal.Refusal.{Refusal}

-- the refusal of a range of nodes in which no constraints stand, and why; or memory runs out
abbrev pub IsConstraintsRefusal : ℕ → List Node → Span → Fault → Type 0
IsConstraintsRefusal p nodes span fault =
    (fault ≡ Memory)
    ⊎ ((e : TableFault) × (fault ≡ Constraints e) × NothingInTable (AreTableExpressions {p = p} nodes span) × IsTableSpanFault p nodes span e)

-- constraints read no cell that a layout does not have, and no row but the current one and the next
abbrev pub StayWithin : {F : Type 0} → AirLayout → List (SymbolicExpression F) → Type 0
StayWithin layout constraints = All (λ c. Fits layout (tree_of c)) constraints

module _ {F : Type 0} (traces : AirTraces F) (constraints : List (SymbolicExpression F)) where
  -- the constraints read no cell and no row that the traces do not have, and the traces have one height
  pub record FitConstraints : Type 0 where
    pub fit : StayWithin (layout_of traces) constraints
    pub heights : HaveOneHeight traces

  -- the refusal of constraints that read past the traces, or else of a preprocessed trace of another height
  abbrev pub IsConstraintsUnfit : Fault → Type 0
  IsConstraintsUnfit fault =
      ((fault ≡ UnfitConstraints) × (¬ StayWithin (layout_of traces) constraints))
      ⊎ ((fault ≡ Heights 0) × StayWithin (layout_of traces) constraints × (¬ HaveOneHeight traces))

  module _ (R : Ring F) where
    -- the constraints fit the traces, and are zero on each row of them
    pub record HoldFitting : Type 0 where
      pub fitting : FitConstraints
      pub hold : HoldOn R traces constraints

    -- the refusal of constraints that do not fit, or of the first one that is not zero on the first row on which one is not
    abbrev pub IsHoldRefusal : Fault → Type 0
    IsHoldRefusal fault =
        IsConstraintsUnfit fault ⊎ (FitConstraints × ((found : ConstraintFault) × (fault ≡ Nonzero found) × IsFirstFault R traces constraints found))

module _ {p : ℕ} (positive : 0 < p) (R : Ring (Residue p)) (tables : Tables) (span : Span) (traces : Traces) where
  -- The constraints that stand in a range of nodes fit the traces of these numbers, and are zero on each row of them.
  pub record ChecksConstraints : Type 0 where
    pub constraints : List (SymbolicExpression (Residue p))
    pub encoded : RangeEncodes tables.nodes.now span constraints
    pub traces_below : AreNumbersOfTraces p traces
    pub holds : HoldFitting (decoded_traces positive traces) constraints R

  -- The refusal of the range, of the traces, or of the constraints that stand there.
  abbrev pub IsCheckConstraintsRefusal : Fault → Type 0
  IsCheckConstraintsRefusal fault =
      IsConstraintsRefusal p tables.nodes.now span fault
      ⊎ (IsInputTracesRefusal p 0 traces fault
      ⊎ ((constraints : List (SymbolicExpression (Residue p))) × RangeEncodes tables.nodes.now span constraints × AreNumbersOfTraces p traces
      × IsHoldRefusal (decoded_traces positive traces) constraints R fault))

  -- the code and the refusal of a call that checks constraints
  abbrev pub AnswersCheckConstraints : ℕ → Refusal → Type 0
  AnswersCheckConstraints code refusal = CallAnswers code refusal ChecksConstraints IsCheckConstraintsRefusal
