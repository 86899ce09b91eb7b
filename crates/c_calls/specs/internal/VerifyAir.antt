-- A check of one AIR, over what was read of its traces and of a witness.
use Rattle.std.specs.Prelude.{◌<◌, ℕ, List, MatchResult, Result}
use Rattle.field.specs.Extension.{Extension}
use Rattle.field_monty.specs.Quartic.{Quartic}
use Rattle.field.specs.Residue.{Residue}
use Rattle.lookup_model.specs.Witness.{IsSatisfied, TerminalIsSum}
use Rattle.lookup_model.specs.declared.types.Lookup.{Lookup}
use Rattle.c_tables.specs.declared.tables.Tables.{Tables}
use Rattle.c_tables.specs.declared.traces.ReadTraces.{ReadTraces}
use Rattle.c_tables.specs.declared.traces.Traces.{Traces}
use Rattle.c_calls.specs.Inputs.{view_of_read}
use Rattle.c_calls.specs.VerifyAir.{CallVerifiesAir, IsFirstUnsatisfied, IsVerifiedOver, IsVerifyAirRefusal, IsVerifyOverRefusal}
use Rattle.c_calls.specs.declared.fault.Fault.{Fault}
use Rattle.c_calls.specs.declared.verify_air.ReadResult.{ReadResult}
use Rattle.c_calls.specs.declared.witness.AirWitness.{AirWitness}

module _ {F K : Type 0} (E : Extension F K) (traces : ReadTraces F) (lookups : List (Lookup F)) (challenges : List K) (read : ReadResult K) where
  -- the result that was read satisfies the constraints, and its terminal is the sum of its fractions
  abbrev pub SatisfiesRead : Type 0
  SatisfiesRead = IsSatisfied E (view_of_read traces) lookups challenges read.auxiliary read.terminal × TerminalIsSum E (view_of_read traces) lookups read.auxiliary read.terminal

  -- the refusal of a result that does not; or memory runs out
  abbrev pub IsUnsatisfiedReadRefusal : Fault → Type 0
  IsUnsatisfiedReadRefusal = IsFirstUnsatisfied E (view_of_read traces) lookups challenges (read.auxiliary, read.terminal)

  -- the result that was read is verified over these lookups
  abbrev pub VerifiesRead : Type 0
  VerifiesRead = IsVerifiedOver E (view_of_read traces) lookups challenges (read.auxiliary, read.terminal)

  -- the refusal of a result that is not
  abbrev pub IsVerifyReadRefusal : Fault → Type 0
  IsVerifyReadRefusal = IsVerifyOverRefusal E (view_of_read traces) lookups challenges (read.auxiliary, read.terminal)

module _ {p : ℕ} (positive : 0 < p) (E : Extension (Residue p) (Quartic (Residue p))) (tables : Tables) (traces : Traces) (challenges : List (List ℕ)) (numbers : AirWitness) where
  -- the witness of an AIR that tables encode is verified or refused
  abbrev pub ResultOfVerifyAir : Result (Unit {0}) Fault → Type 0
  ResultOfVerifyAir result = MatchResult result (λ _. CallVerifiesAir positive E tables traces challenges numbers) (IsVerifyAirRefusal positive E tables traces challenges numbers)
