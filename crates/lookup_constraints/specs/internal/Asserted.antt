-- An assertion under a selector.
use Rattle.std.specs.Prelude.{◌≡◌, ℕ, ◌+◌, ◌≤◌, ◌⊎◌, Bool, Result, MatchResult}
use Rattle.field.specs.Extension.{Extension}
use Rattle.field.specs.Ring.{of_bool}
use Rattle.air_expressions.specs.Window.{ExtWindow, Window}
use Rattle.air_expressions.specs.declared.error.AirError.{AirError}
use Rattle.air_expressions.specs.declared.error.AirError.TheVariants.{Memory}
use Rattle.air_expressions.specs.declared.view.BuilderView.{Ghosts as BuilderView}

module _ {B F K X : Type 0} (members : BuilderView B F K X) (E : Extension F K) (selector : Window F → Bool) (selector_degree : ℕ → ℕ) where
  -- An expression is another one where a selector is set, and zero elsewhere. Its degree is at most the
  -- sum of both degrees.
  abbrev pub IsUnderSelector : B → X → X → Type 0
  IsUnderSelector builder x p =
      ((w : ExtWindow F K) → members.stands_for_ext builder w → members.means p w ≡ E.ring.mul (E.embed (of_bool E.base (selector w.base))) (members.means x w))
      × ((t : ℕ) → members.degree p t ≤ selector_degree t + members.degree x t)

  -- The answer of an assertion of an expression under a selector: what is accepted or refused is the
  -- selected expression, unless memory runs out and nothing changes.
  abbrev pub AnswersSelected : X → B → Result (Unit {0}) AirError → B → Type 0
  AnswersSelected x before result after =
      MatchResult result
      (λ _. (p : X) × members.accepts_ext before p after × IsUnderSelector before x p)
      (λ e. ((e ≡ Memory) × (after ≡ before)) ⊎ ((p : X) × members.refuses_ext before p e after × IsUnderSelector before x p))
