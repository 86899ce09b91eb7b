-- What reading lookups from JSON answers.
use Rattle.std.specs.Prelude.{◌≡◌, ◌⊎◌, ℕ, List}
use Rattle.std.specs.Str.{IsUtf8}
use Rattle.field.specs.Residue.{Residue}
use Rattle.lookup.specs.Lookups.{lookups_of}
use Rattle.lookup.specs.declared.lookups.Lookups.{Lookups}
use Rattle.lookup_model.specs.Records.{IsFirstMalformed}
use Rattle.lookup_model.specs.declared.error.LookupError.TheVariants.{BadRecord}
use Rattle.lookup_model.specs.declared.types.Lookup.{Lookup}
use Rattle.c_tables.specs.Written.{WrittenEncodes}
use Rattle.c_tables.specs.declared.writer.Written.{Written}
use Rattle.serde_json.specs.Errors.{IsMemory}
use Rattle.serde_json.specs.declared.error.Error.{Error}
use Rattle.c_calls.specs.CallAnswers.{CallAnswers}
use Rattle.c_calls.specs.WrittenTables.{TableArrays, IsTableWritingRefusal, WritesTables, room_of_arrays}
use Rattle.c_calls.specs.declared.fault.Fault.{Fault}
use Rattle.c_calls.specs.declared.fault.Fault.TheVariants.{Lookup as OfLookup, Memory, Text}
use Rattle.c_calls.specs.declared.refusal.Refusal.{Refusal}
use Rattle.c_calls.specs.declared.written_tables.TableSizes.{TableSizes}

-- what an error of reading is refused as: that memory ran out, or the text
abbrev pub IsJsonTextRefusal : Error → Fault → Type 0
IsJsonTextRefusal e fault = (IsMemory e × (fault ≡ Memory)) ⊎ ((¬ IsMemory e) × (fault ≡ Text e))

-- the refusal of a text, or of the first of its lookups that is malformed
abbrev pub IsJsonRefusal : ℕ → Fault → Type 0
IsJsonRefusal p fault =
    ((e : Error) × IsJsonTextRefusal e fault)
    ⊎ ((lookups : List (Lookup (Residue p))) × (i : ℕ) × (fault ≡ OfLookup 0 (BadRecord i)) × IsFirstMalformed lookups i)

-- tables are those of lookups that a text says; of the text no more is said than that it is UTF-8
pub record ReadsJsonTables (p : ℕ) (json : List ℕ) (made : Written) : Type 0 where
  pub utf8 : IsUtf8 json
  pub set : Lookups (Residue p)
  pub written : WrittenEncodes made (lookups_of set)

-- such tables are written over the start of each array
abbrev pub ReadsJsonIntoArrays : ℕ → List ℕ → TableArrays → TableArrays → TableSizes → Type 0
ReadsJsonIntoArrays p json before after sizes = (made : Written) × ReadsJsonTables p json made × WritesTables made before after sizes

-- the refusal of the text, of a lookup that no tables encode, or for the room
abbrev pub IsReadJsonRefusal : ℕ → List ℕ → TableSizes → Fault → Type 0
IsReadJsonRefusal p json room fault =
    IsJsonRefusal p fault ⊎ (IsUtf8 json × (set : Lookups (Residue p)) × IsTableWritingRefusal (lookups_of set) room fault)

-- what a call answers that writes them over arrays
abbrev pub AnswersReadJson : ℕ → List ℕ → TableArrays → TableArrays → TableSizes → ℕ → Refusal → Type 0
AnswersReadJson p json before after sizes code refusal = CallAnswers code refusal (ReadsJsonIntoArrays p json before after sizes) (IsReadJsonRefusal p json (room_of_arrays before))
