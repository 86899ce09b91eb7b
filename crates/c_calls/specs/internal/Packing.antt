-- The results of calls that write tables into a caller's arrays.
use Rattle.std.specs.Prelude.{ℕ, List, MatchResult, Result}
use Rattle.field.specs.Extension.{Extension}
use Rattle.field_monty.specs.Quartic.{Quartic}
use Rattle.field.specs.Residue.{Residue}
use Rattle.c_tables.specs.declared.tables.Tables.{Tables}
use Rattle.c_tables.specs.declared.writer.Written.{Written}
use Rattle.c_calls.specs.Pack.{IsPackRefusal, PacksIntoArrays, PacksTables}
use Rattle.c_calls.specs.ReadJson.{IsReadJsonRefusal, ReadsJsonIntoArrays}
use Rattle.c_calls.specs.WrittenTables.{HasTableRoom, TableArrays, room_of_arrays, sizes_of_written}
use Rattle.c_calls.specs.declared.fault.Fault.{Fault}
use Rattle.c_calls.specs.declared.written_tables.TableSizes.{TableSizes}

module _ {p : ℕ} (E : Extension (Residue p) (Quartic (Residue p))) (tables : Tables) (max_degree : ℕ) where
  -- tables of packed lookups, for which there is room
  abbrev pub PacksInRoom : TableSizes → Written → Type 0
  PacksInRoom room made = PacksTables E tables max_degree made × HasTableRoom (sizes_of_written made) room

  -- the sizes of such tables, which are written, or the refusal
  abbrev pub ResultOfPack : TableArrays → TableArrays → Result TableSizes Fault → Type 0
  ResultOfPack before after result = MatchResult result (PacksIntoArrays E tables max_degree before after) (IsPackRefusal E tables max_degree (room_of_arrays before))

-- the sizes of the tables that a text says, which are written, or the refusal
abbrev pub ResultOfReadJson : ℕ → List ℕ → TableArrays → TableArrays → Result TableSizes Fault → Type 0
ResultOfReadJson p json before after result = MatchResult result (ReadsJsonIntoArrays p json before after) (IsReadJsonRefusal p json (room_of_arrays before))
