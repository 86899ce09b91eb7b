-- The indexed lookups of an AIR.
use Rattle.std.specs.Prelude.{◌≡◌, ◌⊎◌, List, map, Result, Ok, Err, MatchResult}
use Rattle.air_expressions.specs.declared.error.AirError.{AirError}
use Rattle.air_expressions.specs.declared.layout.AirLayout.{AirLayout}
use Rattle.lookup_indexed.specs.Declaration.{read_of, declared_table}
use Rattle.lookup_indexed.specs.declared.indexed.IndexedRead.{IndexedRead}
use Rattle.lookup_indexed.specs.declared.indexed.IndexedTable.{IndexedTable}
use Rattle.lookup_indexed.specs.Faults.{AreFaultlessDeclarations, IsFirstDeclarationFault}
use Rattle.lookup_indexed.specs.Refusal.{declaration_refusal}
use Rattle.lookup_indexed.specs.declared.error.IndexedLookupError.{IndexedLookupError}
use Rattle.lookup_indexed.specs.declared.error.IndexedLookupError.TheVariants.{Memory}
use Rattle.lookup_record.specs.RecordedAir.{EvaluatesNew, recorded_air}
use Rattle.lookup_record.specs.declared.indexed.IndexedLookups.{IndexedLookups}
use Rattle.lookup_record.specs.declared.symbolic.InteractionSymbolicBuilder.{InteractionSymbolicBuilder}

-- the readers
abbrev pub reads_of : IndexedLookups → List IndexedRead
reads_of s = s.reads.items

-- the tables
abbrev pub tables_of : IndexedLookups → List IndexedTable
tables_of s = s.tables.items

-- The answer is the declarations that evaluating the AIR left in a new builder, which are without
-- fault; or the first refusal: out of memory, the AIR's own, or the first fault.
abbrev pub Declares : {A F EF : Type 0} → (A → InteractionSymbolicBuilder F EF → Result (Unit {0}) AirError → InteractionSymbolicBuilder F EF → Type 0) → A → AirLayout → Result IndexedLookups IndexedLookupError → Type 0
Declares {A} {F} {EF} evaluates air layout answer = MatchResult answer
    (λ set. (b : InteractionSymbolicBuilder F EF) × EvaluatesNew evaluates air layout (Ok b)
    × (map read_of (reads_of set) ≡ (recorded_air b).reads) × (map declared_table (tables_of set) ≡ (recorded_air b).tables)
    × AreFaultlessDeclarations layout (recorded_air b).reads (recorded_air b).tables)
    (λ e. (e ≡ Memory)
    ⊎ (((refusal : AirError) × EvaluatesNew evaluates air layout (Err refusal) × (e ≡ declaration_refusal refusal))
    ⊎ ((b : InteractionSymbolicBuilder F EF) × EvaluatesNew evaluates air layout (Ok b) × IsFirstDeclarationFault layout (recorded_air b).reads (recorded_air b).tables e)))
