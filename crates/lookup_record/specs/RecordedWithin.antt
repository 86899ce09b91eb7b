-- Recorded AIRs whose interactions stay within their layout.
use Rattle.std.specs.Prelude.{◌≡◌, All, Result, Ok}
use Rattle.std.proofs.Common.{subst, sym}
use Rattle.std.proofs.lemmas.List.Elements.{All-nil, All-push}
use Rattle.air_expressions.specs.Layout.{Fits}
use Rattle.air_expressions.specs.Tree.{tree_of}
use Rattle.air_expressions.specs.declared.base_expression.SymbolicExpression.{SymbolicExpression}
use Rattle.air_expressions.specs.declared.error.AirError.{AirError}
use Rattle.air_expressions.specs.declared.layout.AirLayout.{AirLayout}
use Rattle.lookup_indexed.specs.Declaration.{Declaration, read, table}
use Rattle.lookup_record.specs.Interaction.{Interaction, global, local, exclusive}
use Rattle.lookup_record.specs.Within.{BranchWithin, GlobalWithin, IsInteractionWithin, TupleWithin}
use Rattle.lookup_record.specs.RecordedAir.{RecordedAir, no_air_recorded, recorded_air, with_interaction, with_declaration}
use Rattle.lookup_record.specs.declared.symbolic.InteractionSymbolicBuilder.{InteractionSymbolicBuilder}

-- all that an AIR has pushed stays within the layout that it was recorded with
pub record PushedWithin {F EF : Type 0} (r : RecordedAir F EF) : Type 0 where
  pub globals : All (GlobalWithin (λ l x. Fits l (tree_of x)) r.constraints.layout) r.globals
  pub locals : All (λ tuples. All (TupleWithin (λ l x. Fits l (tree_of x)) r.constraints.layout) tuples) r.locals
  pub exclusives : All (λ m. All (BranchWithin (λ l x. Fits l (tree_of x)) r.constraints.layout) m.branches) r.exclusives

-- one more interaction within the layout
pub with_interaction-within : {F EF : Type 0} (r : RecordedAir F EF) (m : Interaction (SymbolicExpression F)) → IsInteractionWithin (λ l x. Fits l (tree_of x)) r.constraints.layout m → PushedWithin r → PushedWithin (with_interaction r m)
with_interaction-within r (global m) one all = record { globals = All-push (GlobalWithin (λ l x. Fits l (tree_of x)) r.constraints.layout) r.globals m all.globals one; locals = all.locals; exclusives = all.exclusives }
with_interaction-within r (local tuples) one all = record { globals = all.globals; locals = All-push (λ tuples. All (TupleWithin (λ l x. Fits l (tree_of x)) r.constraints.layout) tuples) r.locals tuples all.locals one; exclusives = all.exclusives }
with_interaction-within r (exclusive m) one all = record { globals = all.globals; locals = all.locals; exclusives = All-push (λ m. All (BranchWithin (λ l x. Fits l (tree_of x)) r.constraints.layout) m.branches) r.exclusives m all.exclusives one }

-- declarations leave what is pushed as it is
pub with_declaration-within : {F EF : Type 0} (r : RecordedAir F EF) (d : Declaration) → PushedWithin r → PushedWithin (with_declaration r d)
with_declaration-within r (read x) all = record { globals = all.globals; locals = all.locals; exclusives = all.exclusives }
with_declaration-within r (table x) all = record { globals = all.globals; locals = all.locals; exclusives = all.exclusives }

-- by its own relation, an evaluation of an AIR keeps what is pushed within the layout
abbrev pub EvaluatesWithin : {A F EF : Type 0} → (A → InteractionSymbolicBuilder F EF → Result (Unit {0}) AirError → InteractionSymbolicBuilder F EF → Type 0) → A → Type 0
EvaluatesWithin {A} {F} {EF} evaluates air =
    (before : InteractionSymbolicBuilder F EF) (after : InteractionSymbolicBuilder F EF) → evaluates air before (Ok tt) after → PushedWithin (recorded_air before) → PushedWithin (recorded_air after)

-- where nothing is recorded, nothing leaves the layout
pub nothing-within : {F EF : Type 0} (r : RecordedAir F EF) (layout : AirLayout) → r ≡ no_air_recorded layout → PushedWithin r
nothing-within {F} {EF} r layout same = subst (λ (s : RecordedAir F EF). PushedWithin s) (sym same) nothing
  where
    nothing : PushedWithin (no_air_recorded {F = F} {EF = EF} layout)
    nothing = record {
      globals = All-nil (GlobalWithin (λ l x. Fits l (tree_of x)) layout);
      locals = All-nil (λ tuples. All (TupleWithin (λ l x. Fits l (tree_of x)) layout) tuples);
      exclusives = All-nil (λ m. All (BranchWithin (λ l x. Fits l (tree_of x)) layout) m.branches);
    }
