-- Lookups with their ids, as the test of ids goes through them.
use Rattle.std.specs.Prelude.{◌≡◌, ◌↔◌, ◌<◌, ◌≤◌, ℕ, List, All, length, slice_index_or}
use Rattle.std.specs.List.{AllPairs}
use Rattle.lookup_model.specs.declared.types.Lookup.{Lookup}
use Rattle.lookup_model.specs.Batches.Ids.{HaveOneWidth, ShareBus}
use Rattle.checker_batches.specs.declared.ids.Identified.{Identified}

module _ {F : Type 0} where
  -- an id and its lookup
  abbrev pub identified_of : Identified F → ℕ × Lookup F
  identified_of one = (one.id, one.lookup.now)

  -- the id is below m, and no tuple is wider than W
  abbrev pub IsWithinBounds : ℕ → ℕ → Identified F → Type 0
  IsWithinBounds W m one = (one.id < m) × All (λ tuple. length tuple.items ≤ W) one.lookup.now.elements.items

  -- if the ids are the same, so are the widths
  abbrev pub AgreeOnWidthOfId : Identified F → Identified F → Type 0
  AgreeOnWidthOfId one other = one.id ≡ other.id → HaveOneWidth one.lookup.now other.lookup.now

  -- the ids are the same exactly if both are on one bus
  abbrev pub AgreeOnBuses : Identified F → Identified F → Type 0
  AgreeOnBuses one other = (one.id ≡ other.id) ↔ ShareBus one.lookup.now other.lookup.now

  -- so it is of the one at an index and of each later one below index n
  abbrev pub AgreesBelow : List (Identified F) → ℕ → ℕ → Type 0
  AgreesBelow all index n = (j : ℕ) (d : Identified F) → index < j → j < n → AgreeOnBuses (slice_index_or all index d) (slice_index_or all j d)

  -- ids that are lawful
  abbrev pub AreLawful : ℕ → ℕ → ℕ → List (Identified F) → Type 0
  AreLawful W m p all =
      (0 < W) × (m ≤ p) × All (IsWithinBounds W m) all × All (λ one. All (AgreeOnWidthOfId one) all) all × AllPairs AgreeOnBuses all
