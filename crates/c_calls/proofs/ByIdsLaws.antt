-- Generation over elements, as generation under the ids of a plan over tables of numbers.
use Rattle.std.proofs.Common.{◌<◌, ◌≡◌, ℕ, List, MatchResult, Result, inr, subst}
use Rattle.std.proofs.lemmas.Result.{MatchResult-weaker}
use Rattle.air.specs.Traces.{AirTraces}
use Rattle.field.specs.Extension.{Extension}
use Rattle.field_monty.specs.Quartic.{Quartic}
use Rattle.field.specs.Residue.{Residue}
use Rattle.lookup_model.specs.Challenges.{column_challenges}
use Rattle.lookup_model.specs.declared.types.Lookup.{Lookup}
use Rattle.c_tables.specs.declared.tables.Tables.{Tables}
use Rattle.c_tables.specs.declared.traces.Traces.{Traces}
use Rattle.c_calls.specs.Generate.{CallGeneratesLookups, IsFirstGenerateFault}
use Rattle.c_calls.specs.GenerateByIds.{GeneratesTablesByIds, IsGenerateByIdsRefusal}
use Rattle.c_calls.specs.Inputs.{decoded_traces}
use Rattle.c_calls.specs.PlannedAirs.{IsPlannedAir, planned_table}
use Rattle.c_calls.specs.declared.fault.Fault.{Fault}
use Rattle.c_calls.specs.declared.generate.Generated.{Generated}
use Rattle.c_calls.specs.declared.plan.PlanSizes.{PlanSizes}

module _ {p : ℕ} (positive : 0 < p) (E : Extension (Residue p) (Quartic (Residue p))) (tables : Tables) (traces : Traces) (ids : List ℕ) (sizes : PlanSizes) (alpha beta : List ℕ) (answer : Result (Generated (Quartic (Residue p))) Fault) (lookups items : List (Lookup (Residue p))) (a b : Quartic (Residue p)) (seen : AirTraces (Residue p)) (given : List (Quartic (Residue p)))
    (air : IsPlannedAir positive tables traces ids sizes alpha beta lookups a b) (seen_is : seen ≡ decoded_traces positive traces) (items_are : items ≡ lookups) (given_are : given ≡ column_challenges (planned_table E.ring sizes a b) ids) where
  -- what generation over elements answers
  abbrev AnswersFitting : AirTraces (Residue p) → List (Lookup (Residue p)) → List (Quartic (Residue p)) → Type 0
  AnswersFitting t ls cs = MatchResult answer (CallGeneratesLookups E t cs ls) (IsFirstGenerateFault E t cs ls)

  -- the same over tables of numbers
  pub generated_by_ids : AnswersFitting seen items given
      → MatchResult answer (λ g. GeneratesTablesByIds positive E tables traces ids sizes alpha beta g.auxiliary g.terminal) (IsGenerateByIdsRefusal positive E tables traces ids sizes alpha beta)
  generated_by_ids over =
      let here = decoded_traces positive traces in
      MatchResult-weaker answer
      (subst (λ cs. AnswersFitting here lookups cs) given_are
      (subst (λ ls. AnswersFitting here ls given) items_are
      (subst (λ t. AnswersFitting t items given) seen_is over)))
      (λ g generates. record { lookups = lookups; a = a; b = b; air = air; generates = generates })
      (λ fault first. inr (lookups, a, b, air, first))
