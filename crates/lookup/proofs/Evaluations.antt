-- What an evaluation keeps of a builder.
use Rattle.std.proofs.Common.{◌≡◌, ◌↔◌, ℕ, List, [], ◌∷◌, ◌++◌, Result, refl, ap, ◌∙◌, arith}
use Rattle.field.specs.Ring.{of_bool, sub_in}
use Rattle.air_expressions.specs.Window.{ExtWindow}
use Rattle.air_expressions.specs.declared.error.AirError.{AirError}
use Rattle.air_expressions.specs.declared.layout.AirLayout.{AirLayout}
use Rattle.lookup_constraints.specs.Asserted.{Asserts, Evaluates, IsConstraint}
use Rattle.lookup_model.specs.Constraints.{Constraint, accumulator_at, accumulator_constraints, fractions_at}
use Rattle.field.specs.Extension.{Extension}
use Rattle.lookup_model.specs.declared.types.Lookup.{Lookup}
use Rattle.lookup_constraints.proofs.AssertedLaws.{Reads, asserts_keep, evaluates_read, evaluates_then, fewer_windows}

module _ {B X C : Type 0} (accepts : B → X → B → Type 0) (is : C → X → Type 0) where
  -- the layout stays where each assertion keeps it
  pub layout_kept : (layout : B → AirLayout) → ((b : B) (x : X) (c : B) → accepts b x c → layout c ≡ layout b) → (b : B) (ks : List C) (c : B) → Asserts accepts is b ks c → layout c ≡ layout b
  layout_kept layout keeps b ks c done =
      asserts_keep accepts is (λ s. layout s ≡ layout b) (λ d x e taken same. keeps d x e taken ∙ same) b ks c done refl

  -- so do the windows that are stood for
  windows_kept : {W : Type 0} (stands : B → W → Type 0) → ((b : B) (x : X) (c : B) (w : W) → accepts b x c → stands b w ↔ stands c w) → (b : B) (ks : List C) (c : B) → Asserts accepts is b ks c → (w : W) → stands b w → stands c w
  windows_kept stands keeps b ks c done w s =
      asserts_keep accepts is (λ d. stands d w) (λ d x e taken here. (keeps d x e w taken).0 here) b ks c done s

-- The accumulator's constraints read with a terminal that means the permutation value.
pub terminal_reads : {X F K : Type 0} (E : Extension F K) (value : X → ExtWindow F K → K) (degree : X → ℕ → ℕ) (stands : ExtWindow F K → Type 0) (lookups : List (Lookup F)) (terminal given : ExtWindow F K → K) (terminal_degree : ℕ → ℕ)
    → ((w : ExtWindow F K) → stands w → terminal w ≡ given w) → ((t : ℕ) → terminal_degree t ≡ 0)
    → Reads (IsConstraint value degree stands) (IsConstraint value degree stands) (accumulator_constraints E lookups terminal terminal_degree) (accumulator_constraints E lookups given (λ t. 0))
terminal_reads E value degree stands [] terminal given terminal_degree same none = tt
terminal_reads E value degree stands (l ∷ ls) terminal given terminal_degree same none =
    (λ x is. is, (λ x is. is, (λ x is. record { means = λ w s. is.means w s ∙ ap (λ v. E.ring.mul (of_bool E.ring w.base.is_last) (sub_in E.ring (sub_in E.ring v (accumulator_at E w)) (fractions_at E (l ∷ ls) w))) (same w s); within = λ t. omega (arith, is.within t, none t) }, tt)))

-- An expression that means a constraint at the windows of a later state means it at those of an earlier one.
later_reads : {X F K : Type 0} (value : X → ExtWindow F K → K) (degree : X → ℕ → ℕ) (later earlier : ExtWindow F K → Type 0) → ((w : ExtWindow F K) → earlier w → later w) → (ks : List (Constraint F K)) → Reads (IsConstraint value degree later) (IsConstraint value degree earlier) ks ks
later_reads value degree later earlier within [] = tt
later_reads value degree later earlier within (k ∷ ks) =
    (fewer_windows value degree later earlier within k, later_reads value degree later earlier within ks)

module _ {B F K X : Type 0} (value : X → ExtWindow F K → K) (degree : X → ℕ → ℕ) (stands : B → ExtWindow F K → Type 0) (accepts : B → X → B → Type 0) (refuses : B → X → AirError → B → Type 0) (stops : B → AirError → Type 0) (keeps : (b : B) (x : X) (c : B) (w : ExtWindow F K) → accepts b x c → stands b w ↔ stands c w) where
  -- After constraints that were asserted, an evaluation of others goes on: its answer is that for all of
  -- them, from the first state.
  pub evaluates_after : (b : B) (ks ms : List (Constraint F K)) (d c : B) (r : Result (Unit {0}) AirError) → Asserts accepts (IsConstraint value degree (stands b)) b ks d → Evaluates accepts refuses stops (IsConstraint value degree (stands d)) d ms r c → Evaluates accepts refuses stops (IsConstraint value degree (stands b)) b (ks ++ ms) r c
  evaluates_after b ks ms d c r done answer =
      evaluates_then accepts refuses stops (IsConstraint value degree (stands b)) b ks ms d c r done
      (evaluates_read accepts refuses stops (IsConstraint value degree (stands d)) (IsConstraint value degree (stands b)) ms ms (later_reads value degree (stands d) (stands b) (windows_kept accepts (IsConstraint value degree (stands b)) stands keeps b ks d done) ms) d r c answer)
