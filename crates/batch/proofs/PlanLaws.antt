-- The checks of a plan, and how refusals are passed on.
use Rattle.std.proofs.Common.{◌≡◌, ◌<◌, ◌≤◌, ◌⊎◌, ℕ, inl, inr, List, length, map, sym, ap, ◌∙◌}
use Rattle.lookup_model.specs.Batches.Faults.{IsOutOfMemory}
use Rattle.lookup_model.specs.Batches.Instances.{Instance}
use Rattle.lookup_model.specs.Batches.Refusals.{IsAirRefusal, IsWitnessRefusal}
use Rattle.lookup_model.specs.Batches.Witnesses.{AirResult}
use Rattle.lookup_model.specs.declared.fault.BatchFault.{BatchFault}
use Rattle.lookup_model.specs.Challenges.{ChallengeTable}
use Rattle.field.specs.Extension.{Extension}
use Rattle.lookup_model.specs.declared.error.LookupError.{LookupError}
use Rattle.lookup.specs.TupleWidths.{IsTupleWidths}
use Rattle.lookup.specs.Guards.{IsHeightRefusal, weighted_height_sum}
use Rattle.lookup.specs.Lookups.{lookups_of}
use Rattle.lookup.specs.NamedWidths.{AgreeOnWidths}
use Rattle.lookup.specs.declared.lookups.Lookups.{Lookups}
use Rattle.batch.proofs.OneWidths.{one_widths}
use Rattle.batch.specs.Checks.{AreLocallyEven, IsFirstLocalMismatch, IsFirstRefusal, bus_widths_of}
use Rattle.batch.specs.PlanFacts.{AreAssigned, IsPlan, message_width}
use Rattle.batch.specs.Plans.{Plan}
use Rattle.batch.specs.Refusals.{of_fault, of_lookup, refusal_at}
use Rattle.batch.specs.declared.error.BatchError.{BatchError}
use Rattle.batch.specs.declared.error.BatchError.TheVariants.{Lookup as OfLookup, Memory}

-- where every check passes, it is a plan
pub plan_is : {F : Type 0} (p : ℕ) (plan : Plan F) → length plan.heights ≡ length plan.airs → AgreeOnWidths (bus_widths_of plan.airs) → AreLocallyEven plan.airs → AreAssigned plan.ids plan.airs plan.num_ids
    → plan.num_ids ≤ p → weighted_height_sum (map lookups_of plan.airs) plan.heights < p → plan.width ≡ message_width plan.airs → IsPlan p plan
plan_is p plan heights_are agree even lawful few light width = record {
  heights_are = heights_are;
  lawful = lawful;
  few = few;
  widths = one_widths plan.ids plan.airs plan.num_ids lawful agree even;
  width = width;
  light = light;
}

-- a refusal by the first checks, whatever comes later
pub first_refused : {F : Type 0} (airs : List (Lookups F)) (heights : List ℕ) (Later : BatchError → Type 0) (e : BatchError) → (e ≡ Memory) ⊎ IsFirstRefusal airs heights (λ _. ⊥) e → (e ≡ Memory) ⊎ IsFirstRefusal airs heights Later e
first_refused airs heights Later e (inl memory) = inl memory
first_refused airs heights Later e (inr (inl lengths)) = inr (inl lengths)
first_refused airs heights Later e (inr (inr (same, inl bus))) = inr (inr (same, inl bus))
first_refused airs heights Later e (inr (inr (same, inr (agree, inl local)))) = inr (inr (same, inr (agree, inl local)))
first_refused airs heights Later e (inr (inr (same, inr (agree, inr (even, later))))) = absurd later

-- refusals that keep their names
widths_passed : (context : List ℕ) (width other : ℕ) (e : LookupError) → IsTupleWidths context width other e → of_lookup e ≡ OfLookup e
widths_passed context width other e is = ap of_lookup is.error_is ∙ ap OfLookup (sym is.error_is)

pub local_passed : {F : Type 0} (airs : List (Lookups F)) (e : LookupError) → IsFirstLocalMismatch airs e → of_lookup e ≡ OfLookup e
local_passed airs e first = widths_passed _ _ _ e first.fault.fault.uneven.refusal

pub height_passed : (p sum : ℕ) (e : LookupError) → IsHeightRefusal p sum e → of_lookup e ≡ OfLookup e
height_passed p sum e is = ap of_lookup is.error_is ∙ ap OfLookup (sym is.error_is)

module _ {F K : Type 0} (E : Extension F K) (table : ChallengeTable K) where
  air_passed : (air : ℕ) (i : Instance F) (r : AirResult K) (e : LookupError) → IsAirRefusal E table air i r e → of_lookup e ≡ OfLookup e
  air_passed air i r e (inl (inl (other, is))) = ap of_lookup is ∙ ap OfLookup (sym is)
  air_passed air i r e (inl (inr (same, inl (other, is)))) = ap of_lookup is ∙ ap OfLookup (sym is)
  air_passed air i r e (inl (inr (same, inr (width, (other, is))))) = ap of_lookup is ∙ ap OfLookup (sym is)
  air_passed air i r e (inr (shape, (row, failing, is))) = ap of_lookup is ∙ ap OfLookup (sym is)

  pub witness_passed : (batch : List (Instance F)) (witness : List (AirResult K)) (e : LookupError) → IsWitnessRefusal E table batch witness e → of_lookup e ≡ OfLookup e
  witness_passed batch witness e (inl first) = air_passed first.air first.instance first.result e first.refusal
  witness_passed batch witness e (inr sum) = ap of_lookup sum.error_is ∙ ap OfLookup (sym sum.error_is)

-- the fault of no AIR
pub fault_of_none : (fault : BatchFault) → IsOutOfMemory fault → of_fault fault ≡ Memory
fault_of_none fault memory i = refusal_at (memory.air i) (memory.error i)
