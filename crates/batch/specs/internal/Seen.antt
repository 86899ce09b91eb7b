-- Ids that a plan is given, while they are seen.
use Rattle.std.specs.Prelude.{◌≡◌, ◌≢◌, ◌↔◌, ◌<◌, ℕ, All, Bool, true, false, not, nat_eq, IsTrue, List, MatchOption, length}
use Rattle.std.specs.Borrow.{Bor}
use Rattle.std.specs.List.{HoldsAt, list_any}
use Rattle.std.specs.Map.{lookup}
use Rattle.indexmap.specs.IndexMap.{insert_entry}
use Rattle.indexmap.specs.IndexSet.{insert_key}
use Rattle.lookup_model.specs.declared.types.Lookup.{Lookup}
use Rattle.lookup_model.specs.Names.{same_name}
use Rattle.batch.specs.Order.{AreByBus}
use Rattle.batch.specs.internal.Numbering.{IsKnown}
use Rattle.batch.specs.declared.assigned.SeenIds.{SeenIds}

-- whether an id is among these
abbrev pub is_among : ℕ → List ℕ → Bool
is_among id ids = list_any (nat_eq id) ids

-- an id was new, and now it is kept; or it was not, as the answer says
pub record IsNewId (before after : List ℕ) (id : ℕ) (answer : Bool) : Type 0 where
  pub answer_is : answer ≡ not (is_among id before)
  pub keys : after ≡ insert_key nat_eq before id

-- whether an id is that of its name, or else a new one; and what is seen then
pub record IsSeenOnBus (name : Bor (List ℕ)) (before after : SeenIds) (id : ℕ) (answer : Bool) : Type 0 where
  pub names : after.names.entries ≡ insert_entry (λ a b. same_name a.now b.now) before.names.entries name id
  pub answer_is : MatchOption (lookup (λ k. same_name name.now k.now) before.names.entries)
      (IsNewId before.ids.keys after.ids.keys id answer)
      (λ known. (after.ids.keys ≡ before.ids.keys) × (IsTrue answer ↔ (known ≡ id)))

module _ {F : Type 0} where
  -- whether a lookup has this id
  abbrev pub IsUsed : List (ℕ × Lookup F) → ℕ → Bool → Type 0
  IsUsed all id true = (k : ℕ) × (k < length all) × HoldsAt (λ a. a.0 ≡ id) all k
  IsUsed all id false = All (λ a. a.0 ≢ id) all

  -- The ids of these lookups are below m and shared by bus, they are the ids that are kept, and the id
  -- of each name is known.
  pub record AreSeen (m : ℕ) (all : List (ℕ × Lookup F)) (seen : SeenIds) : Type 0 where
    pub by_bus : AreByBus all m
    pub ids : (id : ℕ) → IsUsed all id (is_among id seen.ids.keys)
    pub names : (name : List ℕ) → IsKnown all name (lookup (λ k. same_name name k.now) seen.names.entries)

  -- the answer for these lookups: they are seen, or else their ids are not below m and shared by bus
  abbrev pub Sees : ℕ → List (ℕ × Lookup F) → SeenIds → Bool → Type 0
  Sees m all seen answer = (IsTrue answer → AreSeen m all seen) × (AreByBus all m → IsTrue answer)
