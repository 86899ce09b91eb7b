-- Constraints asserted one after the other.
use Rattle.std.proofs.Common.{◌≡◌, ◌⊎◌, ℕ, List, [], ◌∷◌, ◌++◌, Result, Ok, Err, MatchResult, refl, sym, inl, inr, subst}
use Rattle.air_expressions.specs.Window.{ExtWindow}
use Rattle.air_expressions.specs.declared.error.AirError.{AirError}
use Rattle.std.specs.List.{AllZip}
use Rattle.lookup_constraints.specs.Asserted.{Asserts, Evaluates, FailsAtConstraint, IsConstraint}
use Rattle.lookup_model.specs.Constraints.{Constraint}

-- an expression that is a constraint at some windows is one at fewer windows, too
pub fewer_windows : {X F K : Type 0} (value : X → ExtWindow F K → K) (degree : X → ℕ → ℕ) (more fewer : ExtWindow F K → Type 0) → ((w : ExtWindow F K) → fewer w → more w) → (k : Constraint F K) (x : X) → IsConstraint value degree more k x → IsConstraint value degree fewer k x
fewer_windows value degree more fewer within k x is = record { means = λ w stands. is.means w (within w stands); within = is.within }

-- An expression of each of these constraints is an expression of the one at the same index in the
-- other list.
abbrev pub Reads : {X C : Type 0} → (C → X → Type 0) → (C → X → Type 0) → List C → List C → Type 0
Reads {X} is also ks ms = AllZip (λ k m. (x : X) → is k x → also m x) ks ms

module _ {B X C : Type 0} (accepts : B → X → B → Type 0) where
  -- so assertions of the first constraints are assertions of the others
  pub asserts_read : (is also : C → X → Type 0) (ks ms : List C) → Reads is also ks ms → (b c : B) → Asserts accepts is b ks c → Asserts accepts also b ms c
  unfolding Asserts
  asserts_read is also [] [] reads b c done = done
  asserts_read is also [] (m ∷ ms) reads b c done = elim reads [ ]
  asserts_read is also (k ∷ ks) [] reads b c done = elim reads [ ]
  asserts_read is also (k ∷ ks) (m ∷ ms) reads b c (d, x, means, taken, rest) =
      (d, x, reads.0 x means, taken, asserts_read is also ks ms reads.1 d c rest)

  -- assertions of the remaining constraints continue from where the first ones led
  pub asserts_then : (is : C → X → Type 0) (b : B) (ks ms : List C) (c d : B) → Asserts accepts is b ks c → Asserts accepts is c ms d → Asserts accepts is b (ks ++ ms) d
  unfolding Asserts
  asserts_then is b [] ms c d done rest = subst (λ (s : B). Asserts accepts is s ms d) done rest
  asserts_then is b (k ∷ ks) ms c d (s, x, means, taken, more) rest =
      (s, x, means, taken, asserts_then is s ks ms c d more rest)

  -- what every accepted assertion keeps is kept by all of them
  pub asserts_keep : (is : C → X → Type 0) (P : B → Type 0) → ((b : B) (x : X) (c : B) → accepts b x c → P b → P c) → (b : B) (ks : List C) (c : B) → Asserts accepts is b ks c → P b → P c
  unfolding Asserts
  asserts_keep is P keeps b [] c done holds = subst P (sym done) holds
  asserts_keep is P keeps b (k ∷ ks) c (d, x, means, taken, rest) holds =
      asserts_keep is P keeps d ks c rest (keeps b x d taken holds)

  -- one more constraint in front: its expression is accepted, and the rest goes on from there
  pub asserts_front : (is : C → X → Type 0) (k : C) (ks : List C) (b d c : B) (x : X) → is k x → accepts b x d → Asserts accepts is d ks c → Asserts accepts is b (k ∷ ks) c
  unfolding Asserts
  asserts_front is k ks b d c x means taken rest = (d, x, means, taken, rest)

  pub asserts_none : (is : C → X → Type 0) (s : B) → Asserts accepts is s [] s
  unfolding Asserts
  asserts_none is s = refl

module _ {B X C : Type 0} (accepts : B → X → B → Type 0) (refuses : B → X → AirError → B → Type 0) (stops : B → AirError → Type 0) where
  -- one assertion
  pub evaluates_one : (is : C → X → Type 0) (k : C) (b c : B) (x : X) (r : Result (Unit {0}) AirError) → is k x → MatchResult r (λ _. accepts b x c) (λ e. refuses b x e c) → Evaluates accepts refuses stops is b (k ∷ []) r c
  unfolding Asserts FailsAtConstraint
  evaluates_one is k b c x (Ok u) means answer = (c, x, means, answer, refl)
  evaluates_one is k b c x (Err e) means answer = inr (inl (x, means, answer))

  pub fails_read : (is also : C → X → Type 0) (ks ms : List C) → Reads is also ks ms → (b : B) (e : AirError) (c : B) → FailsAtConstraint accepts refuses stops is b ks e c → FailsAtConstraint accepts refuses stops also b ms e c
  unfolding FailsAtConstraint
  fails_read is also [] [] reads b e c none = none
  fails_read is also [] (m ∷ ms) reads b e c none = elim reads [ ]
  fails_read is also (k ∷ ks) [] reads b e c failed = elim reads [ ]
  fails_read is also (k ∷ ks) (m ∷ ms) reads b e c (inl why) = inl why
  fails_read is also (k ∷ ks) (m ∷ ms) reads b e c (inr (inl (x, means, why))) = inr (inl (x, reads.0 x means, why))
  fails_read is also (k ∷ ks) (m ∷ ms) reads b e c (inr (inr (d, x, means, taken, rest))) =
      inr (inr (d, x, reads.0 x means, taken, fails_read is also ks ms reads.1 d e c rest))

  pub evaluates_read : (is also : C → X → Type 0) (ks ms : List C) → Reads is also ks ms → (b : B) (r : Result (Unit {0}) AirError) (c : B) → Evaluates accepts refuses stops is b ks r c → Evaluates accepts refuses stops also b ms r c
  evaluates_read is also ks ms reads b (Ok u) c answer = asserts_read accepts is also ks ms reads b c answer
  evaluates_read is also ks ms reads b (Err e) c answer = fails_read is also ks ms reads b e c answer

  pub fails_then : (is : C → X → Type 0) (b : B) (ks ms : List C) (c d : B) (e : AirError) → Asserts accepts is b ks c → FailsAtConstraint accepts refuses stops is c ms e d → FailsAtConstraint accepts refuses stops is b (ks ++ ms) e d
  unfolding Asserts FailsAtConstraint
  fails_then is b [] ms c d e done rest = subst (λ (s : B). FailsAtConstraint accepts refuses stops is s ms e d) done rest
  fails_then is b (k ∷ ks) ms c d e (s, x, means, taken, more) rest =
      inr (inr (s, x, means, taken, fails_then is s ks ms c d e more rest))

  pub evaluates_then : (is : C → X → Type 0) (b : B) (ks ms : List C) (c d : B) (r : Result (Unit {0}) AirError) → Asserts accepts is b ks c → Evaluates accepts refuses stops is c ms r d → Evaluates accepts refuses stops is b (ks ++ ms) r d
  evaluates_then is b ks ms c d (Ok u) so_far rest = asserts_then accepts is b ks ms c d so_far rest
  evaluates_then is b ks ms c d (Err e) so_far rest = fails_then is b ks ms c d e so_far rest

  -- a refusal stays a refusal if more constraints were to follow
  pub fails_early : (is : C → X → Type 0) (b : B) (ks ms : List C) (e : AirError) (c : B) → FailsAtConstraint accepts refuses stops is b ks e c → FailsAtConstraint accepts refuses stops is b (ks ++ ms) e c
  unfolding FailsAtConstraint
  fails_early is b [] ms e c none = elim none [ ]
  fails_early is b (k ∷ ks) ms e c (inl why) = inl why
  fails_early is b (k ∷ ks) ms e c (inr (inl why)) = inr (inl why)
  fails_early is b (k ∷ ks) ms e c (inr (inr (d, x, means, taken, rest))) =
      inr (inr (d, x, means, taken, fails_early is d ks ms e c rest))

  pub fails_front : (is : C → X → Type 0) (k : C) (ks : List C) (b d c : B) (e : AirError) (x : X) → is k x → accepts b x d → FailsAtConstraint accepts refuses stops is d ks e c → FailsAtConstraint accepts refuses stops is b (k ∷ ks) e c
  unfolding FailsAtConstraint
  fails_front is k ks b d c e x means taken rest = inr (inr (d, x, means, taken, rest))

  -- an evaluation fails at its first constraint: there is no expression, or it is refused
  pub fails_here : (is : C → X → Type 0) (k : C) (ks : List C) (b c : B) (e : AirError) → (stops b e × (c ≡ b)) ⊎ ((x : X) × is k x × refuses b x e c) → FailsAtConstraint accepts refuses stops is b (k ∷ ks) e c
  unfolding FailsAtConstraint
  fails_here is k ks b c e (inl (why, same)) = inl (same, why)
  fails_here is k ks b c e (inr why) = inr (inl why)

  pub evaluates_front : (is : C → X → Type 0) (k : C) (ks : List C) (b d c : B) (x : X) (r : Result (Unit {0}) AirError) → is k x → accepts b x d → Evaluates accepts refuses stops is d ks r c → Evaluates accepts refuses stops is b (k ∷ ks) r c
  evaluates_front is k ks b d c x (Ok u) means taken rest = asserts_front accepts is k ks b d c x means taken rest
  evaluates_front is k ks b d c x (Err e) means taken rest = fails_front is k ks b d c e x means taken rest
