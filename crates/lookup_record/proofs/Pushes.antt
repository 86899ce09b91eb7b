-- What bus calls answer.
use Rattle.std.proofs.Common.{Result, Ok, Err, MatchResult, inr}
use Rattle.air_expressions.specs.declared.error.AirError.{AirError}
use Rattle.lookup_record.specs.Messages.{PushesOne}

-- a builder's answer to the interaction that is meant is the answer of the bus
pub pushes_one : {B M : Type 0} (pushes : B → M → B → Type 0) (refuses : B → M → AirError → B → Type 0) (IsMeant : M → Type 0) (before : B) (m : M) (result : Result (Unit {0}) AirError) (after : B) → IsMeant m → MatchResult result (λ _. pushes before m after) (λ e. refuses before m e after) → PushesOne pushes refuses IsMeant before result after
pushes_one pushes refuses IsMeant before m (Ok x) after meant pushed = (m, meant, pushed)
pushes_one pushes refuses IsMeant before m (Err e) after meant refused = inr (m, meant, refused)
