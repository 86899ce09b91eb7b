-- What a builder that records a whole AIR holds.
use Rattle.std.specs.Prelude.{◌≡◌, ◌⊎◌, List, [], ◌∷◌, ◌++◌, map, refl, Result, Ok, Err, MatchResult}
use Rattle.air.specs.Recorded.{Recorded, recorded, nothing_recorded}
use Rattle.air_expressions.specs.declared.error.AirError.{AirError}
use Rattle.air_expressions.specs.declared.error.AirError.TheVariants.{Memory}
use Rattle.air_expressions.specs.declared.layout.AirLayout.{AirLayout}
use Rattle.air_expressions.specs.declared.base_expression.SymbolicExpression.{SymbolicExpression}
use Rattle.lookup_indexed.specs.Declaration.{Read, Table, Declaration, read, table, read_of, declared_table}
use Rattle.lookup_record.specs.Interaction.{Tuple, GlobalInteraction, ExclusiveInteraction, Interaction, global, local, exclusive}
use Rattle.lookup_record.specs.Records.{global_of, local_of, exclusive_of}
use Rattle.lookup_record.specs.declared.symbolic.InteractionSymbolicBuilder.{InteractionSymbolicBuilder}

-- The constraints with their layout, the messages on buses, the local lookups, the groups, and the
-- indexed declarations, each in the order in which they were pushed.
pub record RecordedAir (F EF : Type 0) : Type 0 where
  pub constraints : Recorded F EF
  pub globals : List (GlobalInteraction (SymbolicExpression F))
  pub locals : List (List (Tuple (SymbolicExpression F)))
  pub exclusives : List (ExclusiveInteraction (SymbolicExpression F))
  pub reads : List Read
  pub tables : List Table

-- what a builder has recorded
abbrev pub recorded_air : {F EF : Type 0} → InteractionSymbolicBuilder F EF → RecordedAir F EF
recorded_air b = record {
  constraints = recorded b.inner;
  globals = map global_of b.global_interactions.items;
  locals = map local_of b.local_interactions.items;
  exclusives = map exclusive_of b.exclusive_interactions.items;
  reads = map read_of b.indexed_reads.items;
  tables = map declared_table b.indexed_tables.items;
}

-- nothing is recorded yet
abbrev pub no_air_recorded : {F EF : Type 0} → AirLayout → RecordedAir F EF
no_air_recorded layout = record {
  constraints = nothing_recorded layout;
  globals = [];
  locals = [];
  exclusives = [];
  reads = [];
  tables = [];
}

-- the same record, with these constraints
abbrev pub with_constraints : {F EF : Type 0} → RecordedAir F EF → Recorded F EF → RecordedAir F EF
with_constraints b constraints = record b { constraints = constraints }

-- one more interaction, after those of its kind
abbrev pub with_interaction : {F EF : Type 0} → RecordedAir F EF → Interaction (SymbolicExpression F) → RecordedAir F EF
with_interaction b (global m) = record b { globals = b.globals ++ m ∷ [] }
with_interaction b (local tuples) = record b { locals = b.locals ++ tuples ∷ [] }
with_interaction b (exclusive m) = record b { exclusives = b.exclusives ++ m ∷ [] }

-- one more declaration, after those of its kind
abbrev pub with_declaration : {F EF : Type 0} → RecordedAir F EF → Declaration → RecordedAir F EF
with_declaration b (read r) = record b { reads = b.reads ++ r ∷ [] }
with_declaration b (table t) = record b { tables = b.tables ++ t ∷ [] }

-- interactions leave the layout unchanged
pub with_interaction-layout : {F EF : Type 0} (b : RecordedAir F EF) (m : Interaction (SymbolicExpression F)) → (with_interaction b m).constraints.layout ≡ b.constraints.layout
with_interaction-layout b (global m) = refl
with_interaction-layout b (local tuples) = refl
with_interaction-layout b (exclusive m) = refl

-- so do declarations
pub with_declaration-layout : {F EF : Type 0} (b : RecordedAir F EF) (d : Declaration) → (with_declaration b d).constraints.layout ≡ b.constraints.layout
with_declaration-layout b (read r) = refl
with_declaration-layout b (table t) = refl

-- evaluating an AIR in a new builder for a layout leaves this builder or gives this refusal; or
-- memory runs out before the evaluation
abbrev pub EvaluatesNew : {A F EF : Type 0} → (A → InteractionSymbolicBuilder F EF → Result (Unit {0}) AirError → InteractionSymbolicBuilder F EF → Type 0) → A → AirLayout → Result (InteractionSymbolicBuilder F EF) AirError → Type 0
EvaluatesNew {A} {F} {EF} evaluates air layout answer = MatchResult answer
    (λ after. (before : InteractionSymbolicBuilder F EF) × (recorded_air before ≡ no_air_recorded layout) × evaluates air before (Ok tt) after)
    (λ e. (e ≡ Memory) ⊎ ((before : InteractionSymbolicBuilder F EF) × (after : InteractionSymbolicBuilder F EF)
    × (recorded_air before ≡ no_air_recorded layout) × evaluates air before (Err e) after))
