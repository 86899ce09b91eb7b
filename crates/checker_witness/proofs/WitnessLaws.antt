-- The check of a witness, AIR by AIR and then for its terminals; a refused one is not accepted.
use Rattle.std.proofs.Common.{◌≡◌, ◌≢◌, ◌⊎◌, inr, Option, Some, List, All, length, map, Result, Ok, Err, MatchResult, sym, ap, ◌∙◌, ℕ, inl}
use Rattle.std.proofs.lemmas.List.Elements.{recursion_from_All}
use Rattle.std.specs.List.{AllByRecursion, slice_get, zip}
use Rattle.list_laws.proofs.Zips.{seconds, AllZip-there}
use Rattle.matrix.specs.Matrix.{Matrix}
use Rattle.lookup_model.specs.Challenges.{ChallengeTable}
use Rattle.field.specs.Extension.{Extension, IsLawful}
use Rattle.lookup_model.specs.Terminals.{terminal_sum}
use Rattle.lookup_model.specs.declared.error.LookupError.{LookupError}
use Rattle.lookup_model.specs.declared.error.LookupError.TheVariants.{Memory, TerminalSumNonZero}
use Rattle.lookup_model.specs.declared.types.LookupTerminal.{LookupTerminal}
use Rattle.checker_witness.specs.Answers.{ChecksWitness, PassesOnlyPlain, RefusesUnaccepted}
use Rattle.checker_witness.specs.Results.{AreSatisfiedBefore, ChecksSum, ResultsJoin}
use Rattle.lookup_model.specs.Batches.Instances.{Instance, IsFitting}
use Rattle.lookup_model.specs.Batches.Witnesses.{AreSatisfied, AirResult, IsAccepted, IsSatisfiedAt}
use Rattle.lookup_model.proofs.Batches.OnlyWitness.{only_witness}
use Rattle.lookup_model.specs.Batches.Refusals.{HasShapeAt, IsAirRefusal, IsShapeRefusal, IsWitnessRefusal}

module _ {F K : Type 0} where
  -- a result whose shape is refused does not have the shape
  shape_refused : (air : ℕ) (i : Instance F) (result : AirResult K) (e : LookupError) → IsShapeRefusal air i result e → HasShapeAt i result → ⊥
  shape_refused air i result e (inl (presence, is)) has = presence has.presence
  shape_refused air i result e (inr (same, inl (width, is))) has = width has.width
  shape_refused air i result e (inr (same, inr (wide, (high, is)))) has = high has.high

module _ {F K : Type 0} (E : Extension F K) (table : ChallengeTable K) where
  -- a result that is refused is not satisfied
  air_refused : (air : ℕ) (i : Instance F) (result : AirResult K) (e : LookupError) → IsAirRefusal E table air i result e → IsSatisfiedAt E table i result → ⊥
  air_refused air i result e (inl shape) satisfied = shape_refused air i result e shape satisfied.shape
  air_refused air i result e (inr (right, (r, failing, is))) satisfied = failing.fails (satisfied.equations r failing.within)

  -- so the witness is not accepted
  witness_refused : (instances : List (Instance F)) (witness : List (AirResult K)) (e : LookupError) → IsWitnessRefusal E table instances witness e → IsAccepted E table instances witness → ⊥
  witness_refused instances witness e (inl first) accepted =
      air_refused first.air first.instance first.result e first.refusal (AllZip-there (IsSatisfiedAt E table) instances witness first.air first.instance first.result accepted.satisfied first.is_there first.result_is_there)
  witness_refused instances witness e (inr sum) accepted = sum.unbalanced accepted.balanced

  pub refuses_from : (instances : List (Instance F)) (witness : List (AirResult K)) (answer : Result (Unit {0}) LookupError) → ChecksWitness E table instances witness answer → RefusesUnaccepted E table instances witness answer
  refuses_from instances witness (Ok u) accepted = tt
  refuses_from instances witness (Err e) (inl memory) = λ other. absurd (other memory)
  refuses_from instances witness (Err e) (inr refusal) = λ other accepted. witness_refused instances witness e refusal accepted

module _ {F K : Type 0} (E : Extension F K) (table : ChallengeTable K) (instances : List (Instance F)) (aux : List (Matrix K)) (terminals : List (Option (LookupTerminal K))) (same : length aux ≡ length terminals) (satisfied : AreSatisfied E table instances (zip aux terminals)) where
  -- the answer for the terminals of a satisfied witness is the answer for the witness
  pub witness_from : (answer : Result (Unit {0}) LookupError) → MatchResult answer (λ _. terminal_sum E.ring terminals ≡ E.ring.zero) (λ e. (e ≡ TerminalSumNonZero) × (terminal_sum E.ring terminals ≢ E.ring.zero))
      → ChecksWitness E table instances (zip aux terminals) answer
  witness_from (Ok u) zero_sum = record { satisfied = satisfied; balanced = ap (terminal_sum E.ring) (seconds aux terminals same) ∙ zero_sum }
  witness_from (Err e) refusal =
      inr (inr (record {
        satisfied = satisfied;
        unbalanced = λ zero_sum. refusal.1 (ap (terminal_sum E.ring) (sym (seconds aux terminals same)) ∙ zero_sum);
        error_is = refusal.0;
      }))

  -- a satisfied witness of a regular batch is the plain one
  pub only_from : IsLawful E → AllByRecursion IsFitting instances → (answer : Result (Unit {0}) LookupError) → PassesOnlyPlain E table instances (zip aux terminals) answer
  only_from laws fitting (Ok u) = λ regular. only_witness laws table instances fitting regular.flags regular.denominators (zip aux terminals) satisfied
  only_from laws fitting (Err e) = tt

module _ {F K : Type 0} (E : Extension F K) (table : ChallengeTable K) (instances : List (Instance F)) (witness : List (AirResult K)) where
  -- the refusal of an AIR behind satisfied ones is that of the witness
  refused_from : (air : ℕ) (i : Instance F) (r : AirResult K) (e : LookupError) → slice_get instances air ≡ Some i → slice_get witness air ≡ Some r → AreSatisfiedBefore E table instances witness air
      → (e ≡ Memory) ⊎ IsAirRefusal E table air i r e → ChecksWitness E table instances witness (Err e)
  refused_from air i r e there result_there before (inl memory) = inl memory
  refused_from air i r e there result_there before (inr refusal) =
      inr (inl (record {
        air = air;
        instance = i;
        result = r;
        is_there = there;
        result_is_there = result_there;
        before = before;
        refusal = refusal;
      }))

  -- the answer for the terminals of a satisfied witness is that for the witness
  summed_from : AreSatisfied E table instances witness → (answer : Result (Unit {0}) LookupError) → ChecksSum E (map (λ r. r.1) witness) answer → ChecksWitness E table instances witness answer
  summed_from satisfied (Ok u) zero_sum = record { satisfied = satisfied; balanced = zero_sum }
  summed_from satisfied (Err e) refusal = inr (inr (record { satisfied = satisfied; unbalanced = refusal.1; error_is = refusal.0 }))

  -- an accepted witness of a regular batch is the plain one
  passes_from : IsLawful E → All IsFitting instances → (answer : Result (Unit {0}) LookupError) → ChecksWitness E table instances witness answer → PassesOnlyPlain E table instances witness answer
  passes_from laws fitting (Ok u) accepted = λ regular.
      only_witness laws table instances (recursion_from_All IsFitting instances fitting) regular.flags regular.denominators witness accepted.satisfied
  passes_from laws fitting (Err e) refused = tt

  -- checks of AIRs join
  pub results_join_of : IsLawful E → ResultsJoin E table instances witness
  results_join_of laws = record {
    refused = refused_from;
    summed = summed_from;
    refuses = refuses_from E table instances witness;
    only = passes_from laws;
  }
