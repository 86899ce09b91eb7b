-- What planning answers from tables of numbers.
use Rattle.std.specs.Prelude.{◌≡◌, ◌≢◌, ◌⊎◌, ◌<◌, ℕ, All, List, length}
use Rattle.std.specs.List.{concat}
use Rattle.std.specs.declared.alloc.Global.{Global}
use Rattle.std.specs.declared.vec.Vec.{Vec}
use Rattle.field.specs.Residue.{Residue}
use Rattle.air_expressions.specs.Faults.{HasFirstFault}
use Rattle.batch.specs.Plans.{Plan}
use Rattle.c_calls.specs.BatchTables.{IsPlanOfTables, IsPlanOfTablesRefusal}
use Rattle.c_calls.specs.declared.batch_tables.Air.{Air}
use Rattle.c_calls.specs.declared.fault.Fault.{Fault}
use Rattle.c_calls.specs.declared.fault.Fault.TheVariants.{Length, Memory, Misfit}
use Rattle.c_calls.specs.declared.codes.Part.TheVariants.{Ids}
use Rattle.c_calls.specs.declared.plan.PlanSizes.{PlanSizes}

-- the ids of one AIR
abbrev pub id_items : Vec ℕ Global → List ℕ
id_items ids = ids.items

-- the ids of all lookups, AIR by AIR
abbrev pub all_plan_ids : {F : Type 0} → Plan F → List ℕ
all_plan_ids plan = concat plan.ids

-- an AIR has a row, if it has lookups
abbrev pub HasRows : Air → Type 0
HasRows air = 0 < length air.tables.records.now → 0 < air.height

-- the refusal of the first AIR that has lookups and no row
abbrev pub IsFirstRowless : List Air → Fault → Type 0
IsFirstRowless airs fault = HasFirstFault HasRows (λ index air. (0 < length air.tables.records.now) × (air.height ≡ 0) × (fault ≡ Misfit index)) airs

-- the numbers of the plan of the AIRs that tables encode, each of which has a row if it has lookups
pub record PlansNumbers (p : ℕ) (airs : List Air) (ids : List ℕ) (numbers : PlanSizes) : Type 0 where
  pub plan : Plan (Residue p)
  pub plan_is : IsPlanOfTables airs plan
  pub ids_are : ids ≡ all_plan_ids plan
  pub width : numbers.max_message_width ≡ plan.width
  pub count : numbers.num_ids ≡ plan.num_ids
  pub have_rows : All HasRows airs

-- The refusal of the plan, of an AIR that has lookups and no row, or for the room for its ids; or memory runs
-- out.
abbrev pub IsPlanCallRefusal : ℕ → List Air → ℕ → Fault → Type 0
IsPlanCallRefusal p airs room fault =
    (fault ≡ Memory)
    ⊎ (IsPlanOfTablesRefusal p airs fault
    ⊎ (IsFirstRowless airs fault
    ⊎ ((plan : Plan (Residue p)) × IsPlanOfTables airs plan × (length (all_plan_ids plan) ≢ room) × (fault ≡ Length Ids (length (all_plan_ids plan)) room))))
