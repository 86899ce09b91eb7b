-- Lists of parts, read one by one.
use Rattle.std.specs.Prelude.{ℕ, zero, suc, List, [], ◌∷◌, ◌++◌, Option, Some, None, Ok}
use Rattle.language.specs.declared.fault.Why.TheVariants.{Endless}
use Rattle.language.specs.Faults.{◌>>=◌}
use Rattle.language.specs.Fronts.{Read, fault_at_front}
use Rattle.language.specs.Tokens.{Token}

-- parts before those that are read
abbrev pub with_front : {A : Type 0} → List A → Read (List A) → Read (List A)
with_front front read = read >>= λ x. Ok (front ++ x.0, x.1)

-- a part with those that are read after it, or the end
abbrev pub with_part : {A : Type 0} → Option A → List Token → Read (List A) → Read (List A)
with_part None ts others = Ok ([], ts)
with_part (Some x) ts others = with_front (x ∷ []) others

-- The parts of which each step reads one, up to the step that reads an end. There are no more steps
-- than this, and as many as there are tokens are enough.
unfoldable pub many : {A : Type 0} → (List Token → Read (Option A)) → ℕ → List Token → Read (List A)
many step zero ts = fault_at_front Endless ts
many step (suc n) ts = step ts >>= λ x. with_part x.0 x.1 (many step n x.1)
