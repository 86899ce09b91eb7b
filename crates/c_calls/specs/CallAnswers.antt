-- What a call answers.
use Rattle.std.specs.Prelude.{◌≡◌, ◌≢◌, ℕ}
use Rattle.c_calls.specs.Refusals.{IsRefusalOf, no_refusal}
use Rattle.c_calls.specs.declared.fault.Fault.{Fault}
use Rattle.c_calls.specs.declared.refusal.Refusal.{Refusal}

-- A call answers 0 and does its work, or it answers the code of a refusal, whose fault is true of its
-- arguments.
pub record CallAnswers (code : ℕ) (refusal : Refusal) (Done : Type 0) (Refused : Fault → Type 0) : Type 0 where
  pub code_is : code ≡ refusal.code
  pub no_refusal_is : code ≡ 0 → refusal ≡ no_refusal
  pub done : code ≡ 0 → Done
  pub refused : code ≢ 0 → (fault : Fault) × IsRefusalOf fault refusal × Refused fault
