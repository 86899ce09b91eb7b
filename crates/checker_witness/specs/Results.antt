-- The check of the results of a batch, AIR by AIR and then for the sum of the terminals.
use Rattle.std.specs.Prelude.{◌≡◌, ◌≢◌, ◌<◌, ℕ, All, List, Option, Result, Err, Some, MatchResult, map, slice_get}
use Rattle.field.specs.Extension.{Extension}
use Rattle.lookup_model.specs.Batches.Instances.{Instance, IsFitting}
use Rattle.lookup_model.specs.Batches.Witnesses.{AirResult, AreSatisfied, IsSatisfiedAt}
use Rattle.lookup_model.specs.Challenges.{ChallengeTable}
use Rattle.lookup_model.specs.Terminals.{terminal_sum}
use Rattle.lookup_model.specs.declared.error.LookupError.{LookupError}
use Rattle.lookup_model.specs.declared.error.LookupError.TheVariants.{TerminalSumNonZero}
use Rattle.lookup_model.specs.declared.types.LookupTerminal.{LookupTerminal}
use Rattle.checker_witness.specs.Answers.{ChecksWitness, PassesOnlyPlain, RefusesUnaccepted}
use Rattle.checker_witness.specs.Ranges.{ChecksResult}

-- the terminals sum to zero, or the refusal of their sum
abbrev pub ChecksSum : {F K : Type 0} → Extension F K → List (Option (LookupTerminal K)) → Result (Unit {0}) LookupError → Type 0
ChecksSum E terminals answer = MatchResult answer
    (λ _. terminal_sum E.ring terminals ≡ E.ring.zero)
    (λ e. (e ≡ TerminalSumNonZero) × (terminal_sum E.ring terminals ≢ E.ring.zero))

module _ {F K : Type 0} (E : Extension F K) (table : ChallengeTable K) (instances : List (Instance F)) (witness : List (AirResult K)) where
  -- the results of the AIRs before this one are satisfied
  abbrev pub AreSatisfiedBefore : ℕ → Type 0
  AreSatisfiedBefore air =
      (k : ℕ) (other : Instance F) (r : AirResult K) → k < air → slice_get instances k ≡ Some other → slice_get witness k ≡ Some r → IsSatisfiedAt E table other r

  -- Results of AIRs, one after the other: where those before an AIR are satisfied and its own is refused, this
  -- is the answer for the witness. Where all are satisfied, the answer for the sum of the terminals is.
  -- Whatever led to an answer for the witness: unless memory ran out, a refused one is not accepted; of a regular
  -- batch whose instances fit, only the plain one passes.
  pub record ResultsJoin : Type 0 where
    pub refused : (air : ℕ) (i : Instance F) (r : AirResult K) (e : LookupError) → slice_get instances air ≡ Some i → slice_get witness air ≡ Some r
        → AreSatisfiedBefore air → ChecksResult E table air i r (Err e) → ChecksWitness E table instances witness (Err e)
    pub summed : AreSatisfied E table instances witness → (answer : Result (Unit {0}) LookupError) → ChecksSum E (map (λ r. r.1) witness) answer → ChecksWitness E table instances witness answer
    pub refuses : (answer : Result (Unit {0}) LookupError) → ChecksWitness E table instances witness answer → RefusesUnaccepted E table instances witness answer
    pub only : All IsFitting instances → (answer : Result (Unit {0}) LookupError) → ChecksWitness E table instances witness answer → PassesOnlyPlain E table instances witness answer
