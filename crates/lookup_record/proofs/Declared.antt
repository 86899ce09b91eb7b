-- What an AIR declares, from the check of what it left.
use Rattle.std.proofs.Common.{◌≡◌, ◌⊎◌, List, map, Result, Ok, Err, MatchResult, inl, inr, ap, subst, ◌∙◌}
use Rattle.air_expressions.specs.declared.error.AirError.{AirError}
use Rattle.air_expressions.specs.declared.layout.AirLayout.{AirLayout}
use Rattle.lookup_indexed.specs.Declaration.{Read, Table, read_of, declared_table}
use Rattle.lookup_indexed.specs.declared.indexed.IndexedRead.{IndexedRead}
use Rattle.lookup_indexed.specs.declared.indexed.IndexedTable.{IndexedTable}
use Rattle.lookup_indexed.specs.Faults.{AreFaultlessDeclarations, IsFirstDeclarationFault}
use Rattle.lookup_indexed.specs.declared.error.IndexedLookupError.{IndexedLookupError}
use Rattle.lookup_indexed.specs.declared.error.IndexedLookupError.TheVariants.{Memory}
use Rattle.lookup_record.specs.IndexedLookups.{Declares, reads_of, tables_of}
use Rattle.lookup_record.specs.RecordedAir.{EvaluatesNew, recorded_air}
use Rattle.lookup_record.specs.declared.indexed.IndexedLookups.{IndexedLookups}
use Rattle.lookup_record.specs.declared.symbolic.InteractionSymbolicBuilder.{InteractionSymbolicBuilder}

module _ {A F EF : Type 0} (evaluates : A → InteractionSymbolicBuilder F EF → Result (Unit {0}) AirError → InteractionSymbolicBuilder F EF → Type 0) (air : A) (layout : AirLayout) (b : InteractionSymbolicBuilder F EF) where
  -- the answer of the check of these lists, which are what the AIR left
  pub declared_from : (reads : List IndexedRead) (tables : List IndexedTable) → EvaluatesNew evaluates air layout (Ok b) → map read_of reads ≡ (recorded_air b).reads → map declared_table tables ≡ (recorded_air b).tables
      → (answer : Result IndexedLookups IndexedLookupError)
      → MatchResult answer
      (λ set. (reads_of set ≡ reads) × (tables_of set ≡ tables) × AreFaultlessDeclarations layout (map read_of reads) (map declared_table tables))
      (λ e. (e ≡ Memory) ⊎ IsFirstDeclarationFault layout (map read_of reads) (map declared_table tables) e)
      → Declares evaluates air layout answer
  declared_from reads tables evaluated left_reads left_tables (Ok set) checked = (
    b,
    evaluated,
    ap (map read_of) checked.0 ∙ left_reads,
    ap (map declared_table) checked.1 ∙ left_tables,
    subst (λ (rs : List Read). AreFaultlessDeclarations layout rs (recorded_air b).tables) left_reads
        (subst (λ (ts : List Table). AreFaultlessDeclarations layout (map read_of reads) ts) left_tables checked.2),
  )
  declared_from reads tables evaluated left_reads left_tables (Err e) checked = elim checked [
    | inl memory ↦ inl memory
    | inr fault ↦ inr (inr (
      b,
      evaluated,
      subst (λ (rs : List Read). IsFirstDeclarationFault layout rs (recorded_air b).tables e) left_reads
          (subst (λ (ts : List Table). IsFirstDeclarationFault layout (map read_of reads) ts e) left_tables fault),
    ))
  ]
