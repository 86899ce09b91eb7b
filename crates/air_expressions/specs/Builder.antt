-- What builders provide and what happens to assertions.
use Rattle.std.specs.Prelude.{◌≡◌, ℕ, List, [], ◌∷◌, length, map, ◌⊎◌, Some, slice_get}
use Rattle.air_expressions.specs.declared.error.AirError.{AirError}

-- As many variables as the width. At each window that the builder stands for, they mean the cells
-- of a row.
pub record MeansRow {V W A : Type 0} (stands_for : W → Type 0) (meaning : V → W → A) (width : ℕ) (cells : W → List A) (variables : List V) : Type 0 where
  pub len : length variables ≡ width
  pub reads : (w : W) → stands_for w → map (λ v. meaning v w) variables ≡ cells w

-- each expression that a variable of a row converts into stays within a layout
abbrev pub RowWithin : {V E L : Type 0} → (V → E → Type 0) → (L → E → Type 0) → L → List V → Type 0
RowWithin {V} {E} converts within layout variables =
    (i : ℕ) (v : V) (e : E) → slice_get variables i ≡ Some v → converts v e → within layout e

-- expressions that are asserted in order, each accepted, lead from one state to another
abbrev pub AcceptsAll : {B X : Type 0} → (B → X → B → Type 0) → B → List X → B → Type 0
AcceptsAll {B} accepts b [] c = c ≡ b
AcceptsAll {B} accepts b (x ∷ xs) c = (d : B) × accepts b x d × AcceptsAll accepts d xs c

-- some of the expressions are accepted in order, and the next one is refused
abbrev pub RefusesOne : {B X : Type 0} → (B → X → B → Type 0) → (B → X → AirError → B → Type 0) → B → List X → AirError → B → Type 0
RefusesOne {B} accepts refuses b [] e c = ⊥
RefusesOne {B} accepts refuses b (x ∷ xs) e c =
    refuses b x e c ⊎ ((d : B) × accepts b x d × RefusesOne accepts refuses d xs e c)
