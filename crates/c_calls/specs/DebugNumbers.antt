-- What the debug check tells of a batch, as numbers.
use Rattle.std.specs.Prelude.{◌<◌, ◌≡◌, ◌≢◌, ◌≤◌, ◌⊎◌, ℕ, List, MatchOption, Option, length, map}
use Rattle.field.specs.Residue.{Residue}
use Rattle.field.specs.Extension.{Extension}
use Rattle.field_monty.specs.Quartic.{Quartic}
use Rattle.lookup.specs.declared.lookups.Lookups.{Lookups}
use Rattle.lookup_debug.specs.BusTable.{group_row, row_of}
use Rattle.lookup_debug.specs.Contributions.{Traced}
use Rattle.lookup_debug.specs.FirstUnbalanced.{IsFirstUnbalanced}
use Rattle.lookup_debug.specs.Groups.{groups}
use Rattle.lookup_debug.specs.Mismatch.{AllBalance}
use Rattle.field.specs.Signs.{is_negative}
use Rattle.lookup_debug.specs.declared.first_unbalanced.Mismatch.{Mismatch}
use Rattle.lookup_debug.specs.declared.group_table.BusGroup.{BusGroup}
use Rattle.c_tables.specs.declared.tables.Tables.{Tables}
use Rattle.c_tables.specs.declared.traces.ReadTraces.{ReadTraces}
use Rattle.c_tables.specs.declared.traces.Traces.{Traces}
use Rattle.c_calls.specs.BatchTables.{AreTracesOfTables, IsTracesOfTablesRefusal}
use Rattle.c_calls.specs.CallAnswers.{CallAnswers}
use Rattle.c_calls.specs.DebugCheck.{AreDebugSets, IsDebugSetsRefusal, IsFirstDebugMisfit, all_debug_traced, debug_element_text}
use Rattle.c_calls.specs.GroupNumbers.{element_number, mismatch_numbers, table_numbers}
use Rattle.c_calls.specs.WrittenTables.{written_over}
use Rattle.c_calls.specs.declared.codes.Part.TheVariants.{Batch, Numbers}
use Rattle.c_calls.specs.declared.debug_numbers.Asked.{Asked}
use Rattle.c_calls.specs.declared.debug_numbers.Asked.TheVariants as asked
use Rattle.c_calls.specs.declared.fault.Fault.{Fault}
use Rattle.c_calls.specs.declared.fault.Fault.TheVariants.{Length, Memory}
use Rattle.c_calls.specs.declared.refusal.Refusal.{Refusal}

module _ {p : ℕ} (E : Extension (Residue p) (Quartic (Residue p))) (limit : ℕ) (ts : List (Traced (Residue p))) (numbers : List ℕ) where
  -- the numbers of the table of all groups
  pub record TellsTable : Type 0 where
    pub table : List (BusGroup (Residue p))
    pub rows : map row_of table ≡ map (group_row E.base E.base_eq limit (is_negative p element_number)) (groups E.base E.base_eq ts)
    pub numbers_are : numbers ≡ table_numbers table

  -- the numbers of the first mismatch, or of none exactly if all tuples balance
  pub record TellsMismatch : Type 0 where
    pub found : Option (Mismatch (Residue p))
    pub found_is : MatchOption found (AllBalance E.base E.base_eq ts) (IsFirstUnbalanced E.base E.base_eq debug_element_text limit ts)
    pub numbers_are : numbers ≡ mismatch_numbers found

  -- of what is asked
  abbrev pub TellsNumbers : Asked → Type 0
  TellsNumbers asked.Table = TellsTable
  TellsNumbers asked.Mismatch = TellsMismatch

module _ {p : ℕ} (positive : 0 < p) (E : Extension (Residue p) (Quartic (Residue p))) (question : Asked) (airs : List Tables) (traces : List Traces) (limit : ℕ) where
  -- the numbers of what is asked about the AIRs and the traces that the tables encode
  pub record TellsTables (numbers : List ℕ) : Type 0 where
    pub sets : List (Lookups (Residue p))
    pub sets_are : AreDebugSets airs sets
    pub all : List (ReadTraces (Residue p))
    pub all_are : AreTracesOfTables positive traces all
    pub as_many : length traces ≡ length airs
    pub tells : TellsNumbers E limit (all_debug_traced sets all) numbers question

  -- the first AIR whose lookups do not fit its traces
  pub record IsTellingMisfit (fault : Fault) : Type 0 where
    pub sets : List (Lookups (Residue p))
    pub sets_are : AreDebugSets airs sets
    pub all : List (ReadTraces (Residue p))
    pub all_are : AreTracesOfTables positive traces all
    pub as_many : length traces ≡ length airs
    pub misfit : IsFirstDebugMisfit (all_debug_traced sets all) fault

  -- The refusal of the number of traces, of the tables, of the traces, of lookups that do not fit, or for the room;
  -- or memory runs out.
  abbrev pub IsTellingRefusal : ℕ → Fault → Type 0
  IsTellingRefusal room fault =
      (fault ≡ Memory)
      ⊎ (((fault ≡ Length Batch (length airs) (length traces)) × (length traces ≢ length airs))
      ⊎ (IsDebugSetsRefusal p airs fault
      ⊎ (IsTracesOfTablesRefusal positive traces fault
      ⊎ (IsTellingMisfit fault
      ⊎ ((numbers : List ℕ) × TellsTables numbers × (room < length numbers) × (fault ≡ Length Numbers (length numbers) room))))))

  -- these numbers are written over the start of an array, with how many they are
  pub record CallTells (before after : List ℕ) (written : ℕ) : Type 0 where
    pub numbers : List ℕ
    pub tells : TellsTables numbers
    pub written_is : written ≡ length numbers
    pub within : written ≤ length before
    pub after_is : after ≡ written_over numbers before

  -- the code and the refusal of a call that writes them so
  abbrev pub AnswersTelling : List ℕ → List ℕ → ℕ → ℕ → Refusal → Type 0
  AnswersTelling before after written code refusal = CallAnswers code refusal (CallTells before after written) (IsTellingRefusal (length before))
