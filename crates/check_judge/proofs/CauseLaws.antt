-- Refusals of the first item that is refused, found one by one.
use Rattle.std.proofs.Common.{◌≡◌, ◌≢◌, ◌⊎◌, ◌↔◌, ◌+◌, ◌≤◌, ◌++◌, inl, inr, ℕ, List, ◌∷◌, Result, Err, ap, drop, length, refl, subst, subst₂, sym, ◌∙◌, take}
use Rattle.std.proofs.lemmas.List.{length-map, length-take-le, take-append-drop}
use Rattle.std.specs.List.{AllZip}
use Rattle.batch.specs.declared.error.BatchError.{BatchError}
use Rattle.batch.specs.declared.error.BatchError.TheVariants as batch
use Rattle.lookup_debug.specs.Contributions.{Traced}
use Rattle.language_meaning.specs.Shapes.{Shape}
use Rattle.language_meaning.specs.Tables.{TablesOf}
use Rattle.language_meaning.specs.Faults.{IsNameRefusalOrMemory}
use Rattle.language_meaning.specs.Lookups.{Said}
use Rattle.language_meaning.specs.declared.name_fault.NameFault.{NameFault}
use Rattle.language_meaning.specs.declared.name_fault.NameFault.TheVariants as faults
use Rattle.language_meaning.specs.declared.name_fault.NameRefusal.{NameRefusal}
use Rattle.language_meaning.specs.Traces.{HasWholeRows}
use Rattle.language.specs.Batches.{Air, Section}
use Rattle.language.specs.Tables.{table_of}
use Rattle.language.specs.declared.table.Table.{Table}
use Rattle.check_judge.specs.Causes.{AreItemsRefused, IsAirRefusal, IsFirstAirRefusal, IsFirstNameRefusal, IsFirstRefused}
use Rattle.check_judge.specs.Refusals.{of_batch, of_name}
use Rattle.check_judge.specs.Said.{IsSaid, IsWhole, SaysOver}
use Rattle.check_judge.specs.declared.fault.JudgeFault.{JudgeFault}
use Rattle.check_judge.specs.declared.fault.JudgeFault.TheVariants.{Batch, Element, Fit, Lookups, Memory, Name, Rows, Tables}

-- the first item that is refused, behind those to which these are given
pub first_refused : {X Y : Type 0} (Gives : X → Y → Type 0) (Refuses : ℕ → X → Type 0) (xs : List X) (ys : List Y) (i : ℕ) (x : X)
    → i ≤ length xs → drop i xs ≡ x ∷ drop (i + 1) xs → AllZip Gives (take i xs) ys → Refuses i x → IsFirstRefused Gives Refuses xs
first_refused Gives Refuses xs ys i x within next given refused = record {
  before = take i xs;
  item = x;
  after = drop (i + 1) xs;
  split = sym (take-append-drop i xs) ∙ ap (λ rest. take i xs ++ rest) next;
  good = (ys, given);
  fault = subst (λ n. Refuses n x) (sym (length-take-le i xs within)) refused;
}

-- a table of the program is whole just as its numbers are
pub whole_table : (t : Table) → HasWholeRows (length t.names.items) (length t.cells.items) ↔ IsWhole (table_of t)
whole_table t =
    let long = length-map t.names.items (λ name. name.items) in
    (subst (λ n. HasWholeRows n (length t.cells.items)) (sym long), subst (λ n. HasWholeRows n (length t.cells.items)) long)

-- a fault of names is that of the look-up, unless memory ran out
pub name_fault : {X : Type 0} (fault : NameFault) (read : Result X NameRefusal) → IsNameRefusalOrMemory fault read → (of_name fault ≡ Memory) ⊎ ((refusal : NameRefusal) × (read ≡ Err refusal) × (of_name fault ≡ Name refusal))
name_fault faults.Memory read fails = inl refl
name_fault (faults.Refused refusal) read fails = inr (refusal, fails, refl)

-- memory ran out, or it did not
pub memory_or_not : (e : JudgeFault) → (e ≡ Memory) ⊎ (e ≢ Memory)
memory_or_not Memory = inl refl
memory_or_not (Name refusal) = inr (λ is. absurd (cc is))
memory_or_not (Element refusal) = inr (λ is. absurd (cc is))
memory_or_not (Tables airs tables) = inr (λ is. absurd (cc is))
memory_or_not (Rows air preprocessed) = inr (λ is. absurd (cc is))
memory_or_not (Fit air fault) = inr (λ is. absurd (cc is))
memory_or_not (Lookups air error) = inr (λ is. absurd (cc is))
memory_or_not (Batch error) = inr (λ is. absurd (cc is))

-- the refusal of a batch keeps its name, but for want of memory
pub kept_refusal : (error : BatchError) → (of_batch error ≡ Memory) ⊎ ((error ≢ batch.Memory) × (of_batch error ≡ Batch error))
kept_refusal batch.Memory = inl refl
kept_refusal (batch.Lookup e) = inr (λ is. absurd (cc is), refl)
kept_refusal (batch.LengthMismatch expected actual) = inr (λ is. absurd (cc is), refl)
kept_refusal (batch.TooManyIds ids) = inr (λ is. absurd (cc is), refl)
kept_refusal batch.UnlawfulIds = inr (λ is. absurd (cc is), refl)
kept_refusal (batch.TraceMismatch air) = inr (λ is. absurd (cc is), refl)
kept_refusal batch.RepeatedChallenge = inr (λ is. absurd (cc is), refl)
kept_refusal (batch.Air air e) = inr (λ is. absurd (cc is), refl)
kept_refusal batch.CountOverflow = inr (λ is. absurd (cc is), refl)

module _ (text : List ℕ) (sections : List Section) (whole : ℕ) where
  -- what refuses the AIRs that are left over their shapes refuses all
  abbrev pub RefusesNames : List Air → List Shape → ℕ → ℕ → Type 0
  RefusesNames airs ss i room = (e : JudgeFault) → IsFirstNameRefusal text sections room (drop i airs) (drop i ss) e → IsFirstNameRefusal text sections whole airs ss e

  -- with an AIR that says something behind it
  pub refuses_names : (airs : List Air) (ss : List Shape) (i room : ℕ) (a : Air) (s : Shape) (x : Said)
      → drop i airs ≡ a ∷ drop (i + 1) airs → drop i ss ≡ s ∷ drop (i + 1) ss
      → SaysOver text sections a s.columns s.preprocessed room x → RefusesNames airs ss i room → RefusesNames airs ss (i + 1) x.room
  refuses_names airs ss i room a s x first second says before = λ e later.
      before e (subst₂ (λ bs us. IsFirstNameRefusal text sections room bs us e) (sym first) (sym second) (inr (x, says, later)))

  -- the next AIR is refused
  pub name_refused : (airs : List Air) (ss : List Shape) (i room : ℕ) (a : Air) (s : Shape) (e : JudgeFault)
      → drop i airs ≡ a ∷ drop (i + 1) airs → drop i ss ≡ s ∷ drop (i + 1) ss
      → AreItemsRefused text sections a s.columns s.preprocessed room e → RefusesNames airs ss i room → IsFirstNameRefusal text sections whole airs ss e
  name_refused airs ss i room a s e first second refused before =
      before e (subst₂ (λ bs us. IsFirstNameRefusal text sections room bs us e) (sym first) (sym second) (inl refused))

  module _ {F : Type 0} (element : ℕ → F) where
    -- what refuses the AIRs that are left over their tables refuses all
    abbrev pub RefusesAirs : List Air → List TablesOf → ℕ → ℕ → Type 0
    RefusesAirs airs ts i room = (e : JudgeFault) → IsFirstAirRefusal text sections element i room (drop i airs) (drop i ts) e → IsFirstAirRefusal text sections element 0 whole airs ts e

    -- with an AIR of which something is said behind it
    pub refuses_airs : (airs : List Air) (ts : List TablesOf) (i room left : ℕ) (a : Air) (t : TablesOf) (x : Traced F)
        → drop i airs ≡ a ∷ drop (i + 1) airs → drop i ts ≡ t ∷ drop (i + 1) ts
        → (said : Said) × (left ≡ said.room) × IsSaid element text sections a t room said x → RefusesAirs airs ts i room → RefusesAirs airs ts (i + 1) left
    refuses_airs airs ts i room left a t x first second said before = λ e later.
        let next = subst (λ n. IsFirstAirRefusal text sections element (i + 1) n (drop (i + 1) airs) (drop (i + 1) ts) e) said.1 later in
        before e (subst₂ (λ bs us. IsFirstAirRefusal text sections element i room bs us e) (sym first) (sym second) (inr (said.0, x, said.2, next)))

    -- the next AIR is refused
    pub air_refused : (airs : List Air) (ts : List TablesOf) (i room : ℕ) (a : Air) (t : TablesOf) (e : JudgeFault)
        → drop i airs ≡ a ∷ drop (i + 1) airs → drop i ts ≡ t ∷ drop (i + 1) ts
        → IsAirRefusal text sections element i a t room e → RefusesAirs airs ts i room → IsFirstAirRefusal text sections element 0 whole airs ts e
    air_refused airs ts i room a t e first second refused before =
        before e (subst₂ (λ bs us. IsFirstAirRefusal text sections element i room bs us e) (sym first) (sym second) (inl refused))
