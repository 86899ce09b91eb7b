-- The accumulator's constraints, one after the other.
use Rattle.std.proofs.Common.{◌≡◌, ◌⊎◌, ◌↔◌, ℕ, ◌+◌, ◌≤◌, ◌<◌, max, Bool, true, false, eqb, All, List, [], ◌∷◌, length, Result, Ok, Err, inl, inr, ◌∙◌, arith}
use Rattle.std.proofs.lemmas.Bool.{eqb-false}
use Rattle.field.specs.Extension.{Extension}
use Rattle.field.specs.Ring.{IsEmbedding, of_bool}
use Rattle.air_expressions.specs.Window.{ExtWindow, Window}
use Rattle.air_expressions.specs.declared.error.AirError.{AirError}
use Rattle.air_expressions.specs.declared.error.AirError.TheVariants.{Memory}
use Rattle.air_expressions.specs.declared.view.BuilderView.{Ghosts as BuilderView}
use Rattle.lookup_constraints.specs.Asserted.{Evaluates, EvaluatesOn, IsConstraintOn}
use Rattle.lookup_constraints.specs.declared.accumulator.AccumulatorSides.{AccumulatorSides}
use Rattle.lookup_constraints.specs.internal.Accumulators.{AreSides}
use Rattle.lookup_constraints.specs.internal.Asserted.{AnswersSelected, IsUnderSelector}
use Rattle.lookup_constraints.specs.internal.Meanings.{Meaning, MeansOn}
use Rattle.lookup_constraints.proofs.AssertedLaws.{asserts_none, evaluates_front, fails_here}
use Rattle.lookup_model.specs.Constraints.{Constraint, accumulator_constraints, first_constraint, last_constraint, selected, transition_constraint}
use Rattle.lookup_model.specs.declared.types.Lookup.{Lookup}
use Rattle.lookup_model.proofs.ConstraintLaws.{accumulator_constraints-some}

module _ {B F K X : Type 0} (view : BuilderView B F K X) (E : Extension F K) (embeds : IsEmbedding E.base E.ring E.embed) (b : B) where
  -- constraints at the windows of one state, asserted from another
  abbrev EvaluatesFrom : B → List (Constraint F K) → Result (Unit {0}) AirError → B → Type 0
  EvaluatesFrom = Evaluates view.accepts_ext view.refuses_ext (λ d e. (e ≡ Memory) ⊎ view.window_refuses d e) (IsConstraintOn view b)

  -- an embedded selector is the selector
  embedded_bool : (s : Bool) → E.embed (of_bool E.base s) ≡ of_bool E.ring s
  embedded_bool true = embeds.one
  embedded_bool false = embeds.zero

  -- One constraint: an expression of its left side is asserted under its selector, in a state that stands
  -- for the same windows.
  module _ (selector : Window F → Bool) (selector_degree : ℕ → ℕ) (left : Meaning (ExtWindow F K) K) (left_degree : ℕ → ℕ) (below : (t : ℕ) → left.degree t ≤ left_degree t) (x : X) (is : MeansOn view b left x) (d : B) (kept : (w : ExtWindow F K) → view.stands_for_ext b w → view.stands_for_ext d w) where
    abbrev constraint : Constraint F K
    constraint = selected E (λ w. selector w.base) selector_degree left.means left_degree

    -- the selected expression is one of the constraint
    under_selector : (p : X) → IsUnderSelector view E selector selector_degree d x p → IsConstraintOn view b constraint p
    under_selector p under = record {
      means = λ w s. under.0 w (kept w s) ∙ (λ i. E.ring.mul (embedded_bool (selector w.base) i) (is.means w s i));
      within = λ t. omega (arith, is.within t, below t, under.1 t);
    }

    -- accepted, with the answer of the rest
    evaluates_next : (rest : List (Constraint F K)) (c after : B) (u : Unit {0}) (r : Result (Unit {0}) AirError) → AnswersSelected view E selector selector_degree x d (Ok u) c → EvaluatesFrom c rest r after → EvaluatesFrom d (constraint ∷ rest) r after
    evaluates_next rest c after u r (p, taken, under) answer = evaluates_front _ _ _ _ _ rest d c after p r (under_selector p under) taken answer

    -- refused
    fails_under : (rest : List (Constraint F K)) (c : B) (e : AirError) → AnswersSelected view E selector selector_degree x d (Err e) c → EvaluatesFrom d (constraint ∷ rest) (Err e) c
    fails_under rest c e answer = fails_here _ _ _ _ _ rest d c e (elim answer [
      | inl memory ↦ inl (inl memory.0, memory.1)
      | inr why ↦ inr (why.0, under_selector why.0 why.2, why.1)
    ])

    -- the last one, accepted or refused
    evaluates_last : (c : B) (r : Result (Unit {0}) AirError) → AnswersSelected view E selector selector_degree x d r c → EvaluatesFrom d (constraint ∷ []) r c
    evaluates_last c (Ok u) answer = evaluates_next [] c c u (Ok u) answer (asserts_none _ _ c)
    evaluates_last c (Err e) answer = fails_under [] c e answer

  module _ (lookups : List (Lookup F)) (filled : eqb (length lookups) 0 ≡ false) (terminal : Meaning (ExtWindow F K) K) where
    -- the answer for all three constraints, where there are lookups
    abbrev AnswersAll : Result (Unit {0}) AirError → B → Type 0
    AnswersAll = EvaluatesOn view b (accumulator_constraints E lookups terminal.means terminal.degree)

    all_are : accumulator_constraints E lookups terminal.means terminal.degree ≡ first_constraint E ∷ transition_constraint E lookups ∷ last_constraint E lookups terminal.means terminal.degree ∷ []
    all_are = accumulator_constraints-some E lookups terminal.means terminal.degree (omega (arith, eqb-false (length lookups) 0 filled))

    module _ (sides : AccumulatorSides X) (are : AreSides view E b lookups terminal sides) where
      -- where the first constraint is refused
      pub fails_first : (c : B) (e : AirError) → AnswersSelected view E (λ w. w.is_first) (λ t. 1) sides.first b (Err e) c → AnswersAll (Err e) c
      fails_first c e answer = rw all_are (fails_under (λ w. w.is_first) (λ t. 1) _ (λ t. 1) (λ t. omega arith) sides.first are.first b (λ w s. s) _ c e answer)

      module _ (keeps : (s : B) (x : X) (c : B) (w : ExtWindow F K) → view.accepts_ext s x c → view.stands_for_ext s w ↔ view.stands_for_ext c w) (d : B) (u : Unit {0}) (first : AnswersSelected view E (λ w. w.is_first) (λ t. 1) sides.first b (Ok u) d) where
        kept : (w : ExtWindow F K) → view.stands_for_ext b w → view.stands_for_ext d w
        kept w = (keeps b first.0 d w first.1).0

        -- where the second one is refused
        pub fails_transition : (c : B) (e : AirError) → AnswersSelected view E (λ w. w.is_transition) (λ t. t) sides.transition d (Err e) c → AnswersAll (Err e) c
        fails_transition c e answer =
            rw all_are (evaluates_next (λ w. w.is_first) (λ t. 1) _ (λ t. 1) (λ t. omega arith) sides.first are.first b (λ w s. s) _ d c u (Err e) first
            (fails_under (λ w. w.is_transition) (λ t. t) _ (λ t. 1) (λ t. omega arith) sides.transition are.transition d kept _ c e answer))

        -- where the first two are accepted
        pub evaluates_all : (f : B) (v : Unit {0}) → AnswersSelected view E (λ w. w.is_transition) (λ t. t) sides.transition d (Ok v) f → (c : B) (r : Result (Unit {0}) AirError) → AnswersSelected view E (λ w. w.is_last) (λ t. 1) sides.last f r c → AnswersAll r c
        evaluates_all f v second c r answer =
            rw all_are (evaluates_next (λ w. w.is_first) (λ t. 1) _ (λ t. 1) (λ t. omega arith) sides.first are.first b (λ w s. s) _ d c u r first
            (evaluates_next (λ w. w.is_transition) (λ t. t) _ (λ t. 1) (λ t. omega arith) sides.transition are.transition d kept _ f c v r second
            (evaluates_last (λ w. w.is_last) (λ t. 1) _ (λ t. max (terminal.degree t) 1) (λ t. omega arith) sides.last are.last f (λ w s. (keeps d second.0 f w second.1).0 (kept w s)) c r answer)))

-- where there is a lookup whose fraction has a cell, the row has one for the accumulator
pub row_from_cells : {F : Type 0} (lookups : List (Lookup F)) (width : ℕ) → 0 < length lookups → All (λ lookup. lookup.column + 1 < width) lookups → 0 < width
row_from_cells [] width some cells = absurd (omega (arith, some))
row_from_cells (l ∷ ls) width some cells = omega (arith, cells 0 l some)
