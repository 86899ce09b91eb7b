-- What an AIR that only pushes leaves when it is refused.
use Rattle.std.proofs.Common.{inl, inr, ℕ, List, [], ◌∷◌, ◌++◌, Result, Ok, Err, MatchResult, OnOk, refl, subst, sym}
use Rattle.air.specs.Cell.{IsCellsRefusal}
use Rattle.air_expressions.specs.declared.error.AirError.{AirError}
use Rattle.air_expressions.specs.declared.layout.AirLayout.{AirLayout}
use Rattle.lookup_record.specs.Messages.{PushesOne}
use Rattle.example_memory.specs.Pushes.{AcceptedAll, IsRefusedAfter}

module _ {B M : Type 0} (pushes : B → M → B → Type 0) where
  -- one more interaction is accepted
  pub accepted_more : (ms : List M) (before next after : B) (m : M) → AcceptedAll pushes before ms next → pushes next m after → AcceptedAll pushes before (ms ++ m ∷ []) after
  accepted_more [] before next after m stays pushed = (after, subst (λ (b : B). pushes b m after) (sym stays) pushed, refl)
  accepted_more (n ∷ ms) before next after m (mid, first, stays) pushed = (mid, first, accepted_more ms mid next after m stays pushed)

  module _ (refuses : B → M → AirError → B → Type 0) (window_refuses : B → AirError → Type 0) (layout : B → AirLayout) (columns : ℕ) (before : B) (ms : List M) (reached : B) (stays : AcceptedAll pushes before ms reached) (e : AirError) where
    -- a cell is refused, or memory
    pub refused_cell : IsCellsRefusal window_refuses layout columns reached e → IsRefusedAfter pushes refuses window_refuses layout columns before e reached
    refused_cell refusal = record { accepted = ms; reached = reached; stays = stays; refusal = inl (refl, refusal) }

    -- an interaction is refused
    pub refused_push : (after : B) (m : M) → refuses reached m e after → IsRefusedAfter pushes refuses window_refuses layout columns before e after
    refused_push after m refusal = record { accepted = ms; reached = reached; stays = stays; refusal = inr (m, refusal) }

    -- or memory, or one of these interactions
    pub refused_one : (after : B) (IsMeant : M → Type 0) → PushesOne pushes refuses IsMeant reached (Err e) after → IsRefusedAfter pushes refuses window_refuses layout columns before e after
    refused_one after IsMeant (inl h) = record { accepted = ms; reached = reached; stays = stays; refusal = inl (h.1, inl h.0) }
    refused_one after IsMeant (inr h) = record { accepted = ms; reached = reached; stays = stays; refusal = inr (h.0, h.2) }

  module _ (refuses : B → M → AirError → B → Type 0) (window_refuses : B → AirError → Type 0) (layout : B → AirLayout) (columns : ℕ) (before : B) (ms : List M) (reached : B) (stays : AcceptedAll pushes before ms reached) (after : B) where
    -- the answer to the last interaction, with what follows where it is accepted
    pub answered_this : (m : M) (answer : Result (Unit {0}) AirError) (P Q R : Type 0) → MatchResult answer (λ _. pushes reached m after) (λ e. refuses reached m e after) → OnOk answer P → OnOk answer Q → (P → Q → R)
        → MatchResult answer (λ _. R) (λ e. IsRefusedAfter pushes refuses window_refuses layout columns before e after)
    answered_this m (Ok u) P Q R pushed first second so = so first second
    answered_this m (Err e) P Q R refused first second so = refused_push refuses window_refuses layout columns before ms reached stays e after m refused

    pub answered_one : (IsMeant : M → Type 0) (answer : Result (Unit {0}) AirError) (P Q R : Type 0) → PushesOne pushes refuses IsMeant reached answer after → OnOk answer P → OnOk answer Q → (P → Q → R)
        → MatchResult answer (λ _. R) (λ e. IsRefusedAfter pushes refuses window_refuses layout columns before e after)
    answered_one IsMeant (Ok u) P Q R pushed first second so = so first second
    answered_one IsMeant (Err e) P Q R refused first second so = refused_one refuses window_refuses layout columns before ms reached stays e after IsMeant refused
