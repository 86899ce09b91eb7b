-- What packing answers from tables of numbers.
use Rattle.std.specs.Prelude.{◌≡◌, ◌⊎◌, ℕ, List, map}
use Rattle.field.specs.Residue.{Residue}
use Rattle.field.specs.Extension.{Extension}
use Rattle.field_monty.specs.Quartic.{Quartic}
use Rattle.lookup.specs.BusWidths.{HaveBusWidths, IsWidthRefusal}
use Rattle.lookup.specs.Fewest.{AnswersDegree, HasFewestColumns}
use Rattle.lookup.specs.KeptByPacking.{KeepsSent}
use Rattle.lookup.specs.Lookups.{StillFit, lookups_of}
use Rattle.lookup.specs.Packing.{IsFillRefusal, IsPacking}
use Rattle.lookup.specs.declared.lookups.Lookups.{Lookups}
use Rattle.lookup_model.specs.Outline.{fields_of}
use Rattle.lookup_model.specs.declared.error.LookupError.{LookupError}
use Rattle.lookup_model.specs.declared.types.Lookup.{Lookup}
use Rattle.c_tables.specs.Tables.{TablesEncode}
use Rattle.c_tables.specs.Written.{WrittenEncodes}
use Rattle.c_tables.specs.declared.tables.Tables.{Tables}
use Rattle.c_tables.specs.declared.writer.Written.{Written}
use Rattle.c_calls.specs.CallAnswers.{CallAnswers}
use Rattle.c_calls.specs.BatchTables.{IsSetOfTablesRefusal}
use Rattle.c_calls.specs.WrittenTables.{TableArrays, IsTableWritingRefusal, WritesTables, room_of_arrays}
use Rattle.c_calls.specs.declared.fault.Fault.{Fault}
use Rattle.c_calls.specs.declared.fault.Fault.TheVariants.{Lookup as OfLookup, Memory}
use Rattle.c_calls.specs.declared.refusal.Refusal.{Refusal}
use Rattle.c_calls.specs.declared.written_tables.TableSizes.{TableSizes}

-- why packing is refused: for the widths of a bus, or for a lookup that is tried; or memory runs out
abbrev pub IsPackSetRefusal : {F : Type 0} → ℕ → List (Lookup F) → Fault → Type 0
IsPackSetRefusal max_degree before fault =
    (fault ≡ Memory)
    ⊎ ((e : LookupError) × (fault ≡ OfLookup 0 e)
    × (IsWidthRefusal (map fields_of before) e
    ⊎ (HaveBusWidths (map fields_of before) × IsFillRefusal AnswersDegree max_degree (map fields_of before) e)))

module _ {p : ℕ} (E : Extension (Residue p) (Quartic (Residue p))) where
  -- Lookups are packed from others: what `Lookups::pack_same_bus` says of them.
  pub record CallPacksFrom (max_degree : ℕ) (before after : List (Lookup (Residue p))) : Type 0 where
    pub widths : HaveBusWidths (map fields_of before)
    pub packing : IsPacking AnswersDegree max_degree (map fields_of before) (map fields_of after)
    pub fewest : HasFewestColumns max_degree (map fields_of before) (map fields_of after)
    pub kept : KeepsSent E.base E.base_eq before after
    pub fit : StillFit before after

  -- tables are those of the packed lookups that other tables encode
  pub record PacksTables (tables : Tables) (max_degree : ℕ) (made : Written) : Type 0 where
    pub before : Lookups (Residue p)
    pub encoded : TablesEncode tables (lookups_of before)
    pub after : Lookups (Residue p)
    pub packed : CallPacksFrom max_degree (lookups_of before) (lookups_of after)
    pub written : WrittenEncodes made (lookups_of after)

  -- such tables are written over the start of each array
  abbrev pub PacksIntoArrays : Tables → ℕ → TableArrays → TableArrays → TableSizes → Type 0
  PacksIntoArrays tables max_degree before after sizes = (made : Written) × PacksTables tables max_degree made × WritesTables made before after sizes

  -- the refusal of the tables, of packing, of a packed lookup that no tables encode, or for the room
  abbrev pub IsPackRefusal : Tables → ℕ → TableSizes → Fault → Type 0
  IsPackRefusal tables max_degree room fault =
      IsSetOfTablesRefusal p 0 tables fault
      ⊎ ((before : Lookups (Residue p)) × TablesEncode tables (lookups_of before)
      × (IsPackSetRefusal max_degree (lookups_of before) fault
      ⊎ ((after : Lookups (Residue p)) × CallPacksFrom max_degree (lookups_of before) (lookups_of after) × IsTableWritingRefusal (lookups_of after) room fault)))

  -- what a call answers that writes them over arrays
  abbrev pub AnswersPack : Tables → ℕ → TableArrays → TableArrays → TableSizes → ℕ → Refusal → Type 0
  AnswersPack tables max_degree before after sizes code refusal =
      CallAnswers code refusal (PacksIntoArrays tables max_degree before after sizes) (IsPackRefusal tables max_degree (room_of_arrays before))
