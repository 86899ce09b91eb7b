-- What an evaluation does to a builder: constraints asserted one after the other.
use Rattle.std.specs.Prelude.{◌≡◌, ℕ, ◌≤◌, ◌⊎◌, List, [], ◌∷◌, Result, MatchResult}
use Rattle.air_expressions.specs.Window.{ExtWindow}
use Rattle.air_expressions.specs.declared.error.AirError.{AirError}
use Rattle.air_expressions.specs.declared.error.AirError.TheVariants.{Memory}
use Rattle.air_expressions.specs.declared.view.BuilderView.{Ghosts as BuilderView}
use Rattle.lookup_model.specs.Constraints.{Constraint}

-- An expression of a builder means a constraint at the windows that the builder stands for, and has
-- at most its degree.
pub record IsConstraint {X F K : Type 0} (value : X → ExtWindow F K → K) (degree : X → ℕ → ℕ) (stands_for : ExtWindow F K → Type 0) (constraint : Constraint F K) (x : X) : Type 0 where
  pub means : (w : ExtWindow F K) → stands_for w → value x w ≡ constraint.meaning w
  pub within : (t : ℕ) → degree x t ≤ constraint.degree t

module _ {B X C : Type 0} (accepts : B → X → B → Type 0) (is : C → X → Type 0) where
  -- Expressions of these constraints, asserted in order and each accepted, lead from one state to
  -- another.
  unfoldable pub Asserts : B → List C → B → Type 0
  Asserts b [] c = c ≡ b
  Asserts b (k ∷ ks) c = (d : B) × (x : X) × is k x × accepts b x d × Asserts d ks c

module _ {B X C : Type 0} (accepts : B → X → B → Type 0) (refuses : B → X → AirError → B → Type 0) (stops : B → AirError → Type 0) (is : C → X → Type 0) where
  -- Some of the constraints are accepted in order. Then either the next expression can't be made
  -- and the state stays, or that expression is refused.
  unfoldable pub FailsAtConstraint : B → List C → AirError → B → Type 0
  FailsAtConstraint b [] e c = ⊥
  FailsAtConstraint b (k ∷ ks) e c =
      ((c ≡ b) × stops b e) ⊎ (((x : X) × is k x × refuses b x e c) ⊎ ((d : B) × (x : X) × is k x × accepts b x d × FailsAtConstraint d ks e c))

  -- The answer of an evaluation that asserts these constraints, from the state before to the one
  -- after.
  abbrev pub Evaluates : B → List C → Result (Unit {0}) AirError → B → Type 0
  Evaluates b ks result c = MatchResult result (λ _. Asserts accepts is b ks c) (λ e. FailsAtConstraint b ks e c)

module _ {B F K X : Type 0} (members : BuilderView B F K X) where
  -- An expression of a builder means a constraint, as above.
  abbrev pub IsConstraintOn : B → Constraint F K → X → Type 0
  IsConstraintOn builder = IsConstraint members.means members.degree (members.stands_for_ext builder)

  -- The same evaluation on a builder, over what its expressions mean at the windows that it stands
  -- for: an expression can't be made where memory runs out, or where the builder refuses to hand out a
  -- window.
  abbrev pub EvaluatesOn : B → List (Constraint F K) → Result (Unit {0}) AirError → B → Type 0
  EvaluatesOn before ks result after =
      Evaluates members.accepts_ext members.refuses_ext (λ b e. (e ≡ Memory) ⊎ members.window_refuses b e) (IsConstraintOn before) before ks result after
