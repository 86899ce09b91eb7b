-- What bus calls push.
use Rattle.std.specs.Prelude.{◌≡◌, ℕ, ◌⊎◌, List, map, Result, MatchResult, All}
use Rattle.std.specs.declared.vec.Vec.{Vec}
use Rattle.air_expressions.specs.declared.error.AirError.{AirError}
use Rattle.air_expressions.specs.declared.error.AirError.TheVariants.{Memory}
use Rattle.lookup_record.specs.Interaction.{Branch, Interaction, global, exclusive}
use Rattle.lookup_record.specs.Negation.{IsNegation}

-- a builder's answer to one of these interactions, or out of memory before anything was pushed
abbrev pub PushesOne : {B M : Type 0} → (B → M → B → Type 0) → (B → M → AirError → B → Type 0) → (M → Type 0) → B → Result (Unit {0}) AirError → B → Type 0
PushesOne {B} {M} pushes refuses IsMeant before result after = MatchResult result
    (λ _. (m : M) × IsMeant m × pushes before m after)
    (λ e. ((e ≡ Memory) × (after ≡ before)) ⊎ ((m : M) × IsMeant m × refuses before m e after))

-- the message with these fields on a bus, with the negated count and this weight
pub record IsNegatedMessage {E S A : Type 0} (neg : A → A) (value : E → S → A) (degree : E → ℕ → ℕ) (name : List ℕ) (fields : List E) (count : E) (weight : ℕ) (m : Interaction E) : Type 0 where
  pub negated : E
  pub negation : IsNegation neg (value negated) (value count) (degree negated) (degree count)
  pub message : m ≡ global (record { bus_name = name; fields = fields; count = negated; weight = weight })

-- a branch that counts one query if its flag is set
pub record IsUnitQuery {E S A : Type 0} (one : A) (value : E → S → A) (degree : E → ℕ → ℕ) (branch : Branch E) : Type 0 where
  pub means : (s : S) → value branch.count s ≡ one
  pub degree_is : (t : ℕ) → degree branch.count t ≡ 0
  pub weight_is : branch.weight ≡ 1

-- the flag and the message of a branch
abbrev pub flag_and_fields : {E : Type 0} → Branch E → E × List E
flag_and_fields b = (b.flag, b.fields)

-- the flag and the key that are passed for a branch
abbrev pub flag_and_key : {E Z : Type 0} → E × Vec E Z → E × List E
flag_and_key g = (g.0, g.1.items)

-- the group of these flags and keys on a bus, in order; each branch counts one query
pub record IsExclusiveQuery {E S A Z : Type 0} (one : A) (value : E → S → A) (degree : E → ℕ → ℕ) (name : List ℕ) (given : List (E × Vec E Z)) (m : Interaction E) : Type 0 where
  pub branches : List (Branch E)
  pub message : m ≡ exclusive (record { bus_name = name; branches = branches })
  pub flags_and_fields : map flag_and_fields branches ≡ map flag_and_key given
  pub queries : All (IsUnitQuery one value degree) branches
