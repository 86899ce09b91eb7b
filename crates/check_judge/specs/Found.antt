-- What is found of a batch: the library's own answers over the lookups and traces of its AIRs.
use Rattle.std.specs.Prelude.{◌≡◌, ◌↔◌, ◌*◌, ◌-◌, ◌^◌, ℕ, Bool, IsTrue, List, length, map, min}
use Rattle.std.specs.List.{AllZip, sum_by, zip}
use Rattle.field.specs.Extension.{Extension}
use Rattle.field.specs.Ring.{Ring}
use Rattle.air.specs.Traces.{height_of}
use Rattle.language_meaning.specs.Shapes.{Shape}
use Rattle.lookup_model.specs.Batches.Counts.{AreCounts}
use Rattle.lookup_model.specs.Batches.Linear.{IsLinearlySound}
use Rattle.lookup_model.specs.Batches.Messages.{AreFlagsLawful}
use Rattle.lookup_model.specs.LookupDegree.{lookup_degree}
use Rattle.lookup_model.specs.Outline.{fields_of, outline_of}
use Rattle.lookup_model.specs.declared.count.SoundnessCount.{SoundnessCount}
use Rattle.lookup_model.specs.declared.types.Lookup.{Lookup}
use Rattle.lookup_debug.specs.BusTable.{group_row, row_of}
use Rattle.lookup_debug.specs.Contributions.{Traced}
use Rattle.lookup_debug.specs.Groups.{groups}
use Rattle.lookup_debug.specs.Mismatch.{AllBalance}
use Rattle.field.specs.Signs.{is_negative}
use Rattle.lookup.specs.Fewest.{AnswersDegree, HasFewestColumns}
use Rattle.lookup.specs.KeptByPacking.{KeepsSent}
use Rattle.lookup.specs.Lookups.{lookups_of}
use Rattle.lookup.specs.Packing.{IsPacking}
use Rattle.lookup.specs.declared.lookups.Lookups.{Lookups}
use Rattle.batch.specs.Checks.{IsPlanFor}
use Rattle.batch.specs.Heights.{AreHeightCounts, BoundsAllTraces, most_planned}
use Rattle.batch.specs.PlanFacts.{IsPlan}
use Rattle.batch.specs.Plans.{FitPlan, Plan, plan_batch}
use Rattle.batch.specs.Traces.{view_of}
use Rattle.batch.specs.declared.trace.BatchTrace.{BatchTrace}
use Rattle.check_judge.specs.Sharing.{shared_by}
use Rattle.check_judge.specs.declared.report.AirReport.{AirReport}
use Rattle.check_judge.specs.declared.report.PlanReport.{PlanReport}
use Rattle.check_judge.specs.declared.report.Report.{Report}

-- the lookups of an AIR, and how many rows and columns it has
pub record Sized (F : Type 0) : Type 0 where
  pub lookups : List (Lookup F)
  pub rows : ℕ
  pub columns : ℕ

module _ {F : Type 0} where
  -- those of an AIR with its traces
  abbrev pub sized_of : Traced F → Sized F
  sized_of t = record { lookups = t.lookups; rows = height_of t.traces; columns = t.traces.main.width }

  -- those of AIRs with these lookups, for traces of these shapes
  abbrev pub sized_over : List (List (Lookup F)) → List Shape → List (Sized F)
  sized_over lookups shapes = map (λ t. record { lookups = t.0; rows = t.1.rows; columns = length t.1.columns }) (zip lookups shapes)

  -- the weight of the lookups of an AIR
  abbrev pub weight_of : Sized F → ℕ
  weight_of a = sum_by (λ lookup. lookup.count_weight) a.lookups

  -- the sum of weights times heights
  abbrev pub height_sum : List (Sized F) → ℕ
  height_sum airs = sum_by (λ a. weight_of a * a.rows) airs

  -- copies of the lookups of each AIR, which differ in where they lie in memory alone
  abbrev pub AreCopies : List (Sized F) → List (Lookups F) → Type 0
  AreCopies airs copies = map (λ set. map outline_of (lookups_of set)) copies ≡ map (λ a. map outline_of a.lookups) airs

  -- a plan of copies of these lookups over a field of characteristic p, for traces of these heights
  abbrev pub IsPlanOf : ℕ → List (Sized F) → Plan F → Type 0
  IsPlanOf p airs plan = (copies : List (Lookups F)) × AreCopies airs copies × IsPlanFor copies (map (λ a. a.rows) airs) plan × IsPlan p plan

-- What is found of an AIR: its sizes and the degree of each lookup; and of each column that is left once copies of its
-- lookups are packed within a degree, its degree and which lookups share it. These columns send what the lookups do, and
-- no consecutive split of the lookups of a bus, in their order and within the degree, has fewer.
pub record IsAirFound {F : Type 0} (R : Ring F) (eq : F → F → Bool) (max_degree : ℕ) (a : Sized F) (found : AirReport) : Type 0 where
  pub rows : found.rows ≡ a.rows
  pub columns : found.columns ≡ a.columns
  pub weight : found.weight ≡ weight_of a
  pub degrees : found.degrees.items ≡ map (lookup_degree 0) a.lookups
  pub copies : List (Lookup F)
  pub copies_are : map outline_of copies ≡ map outline_of a.lookups
  pub packed : List (Lookup F)
  pub packing : IsPacking AnswersDegree max_degree (map fields_of copies) (map fields_of packed)
  pub kept : KeepsSent R eq copies packed
  pub fewest : HasFewestColumns max_degree (map fields_of copies) (map fields_of packed)
  pub packed_degrees : found.packed.items ≡ map (lookup_degree 0) packed
  pub shared : map (λ members. members.items) found.packed_lookups.items ≡ shared_by (map fields_of copies) packing.cuts

module _ {F K : Type 0} (E : Extension F K) (p : ℕ) where
  -- What is found before any trace is seen: the AIRs, and the numbers of their plan.
  pub record IsPlanFound (max_degree : ℕ) (sized : List (Sized F)) (plan : Plan F) (report : PlanReport) : Type 0 where
    pub airs : AllZip (IsAirFound E.base E.base_eq max_degree) sized report.airs.items
    pub plan_is : IsPlanOf p sized plan
    pub ids : report.ids ≡ plan.num_ids
    pub widest : report.widest ≡ plan.width
    pub heights : AreHeightCounts (most_planned plan.airs plan.heights) plan.width report.heights
    pub bound : BoundsAllTraces E plan
    pub height_sum_is : report.height_sum ≡ min (height_sum sized) (2 ^ 128 - 1)
    pub characteristic : report.characteristic ≡ p

  -- The counts of the batch of a plan over these traces, whose flags are lawful.
  pub record AreCounted (ts : List (Traced F)) (plan : Plan F) (counts : SoundnessCount) : Type 0 where
    pub traces : List (BatchTrace F)
    pub traces_are : map view_of traces ≡ map (λ t. t.traces) ts
    pub fit : FitPlan plan traces
    pub flags : AreFlagsLawful E.base E.base_eq (plan_batch plan traces)
    pub counted : AreCounts E (plan_batch plan traces) plan.width counts
    pub sound : IsLinearlySound E (plan_batch plan traces) plan.width

  -- What is found of a batch: what its plan is, its counts, the table of its buses, and whether all balances.
  pub record IsFound (limit max_degree : ℕ) (number : F → ℕ) (ts : List (Traced F)) (report : Report F) : Type 0 where
    pub plan : Plan F
    pub planned : IsPlanFound max_degree (map sized_of ts) plan report.plan
    pub counts : AreCounted ts plan report.counts
    pub table : map row_of report.groups.items ≡ map (group_row E.base E.base_eq limit (is_negative p number)) (groups E.base E.base_eq ts)
    pub balanced : IsTrue report.balanced ↔ AllBalance E.base E.base_eq ts
