-- Which ids of lookups are lawful.
use Rattle.std.specs.Prelude.{◌≡◌, ◌↔◌, ◌<◌, ◌≤◌, ℕ, List, Some, All, length}
use Rattle.std.specs.List.{AllPairs, flat_map, zip}
use Rattle.lookup_model.specs.Outline.{bus_of}
use Rattle.lookup_model.specs.declared.types.Lookup.{Lookup}
use Rattle.lookup_model.specs.Batches.Instances.{Instance}

module _ {F : Type 0} where
  -- every lookup of a batch with its id, AIR by AIR
  abbrev pub batch_lookups_with_ids : List (Instance F) → List (ℕ × Lookup F)
  batch_lookups_with_ids instances = flat_map (λ i. zip i.ids i.lookups) instances

  -- both lookups are sent on one bus
  abbrev pub ShareBus : Lookup F → Lookup F → Type 0
  ShareBus a b = (name : List ℕ) × (bus_of a.kind ≡ Some name) × (bus_of b.kind ≡ Some name)

  -- all tuples of both lookups have the same width
  abbrev pub HaveOneWidth : Lookup F → Lookup F → Type 0
  HaveOneWidth a b = All (λ tuple. All (λ other. length tuple.items ≡ length other.items) b.elements.items) a.elements.items

  -- Ids below m are lawful for tuples of at most W elements, over a field of characteristic p: two
  -- lookups have the same id exactly if they share a bus, so each local one has its own; m is at most
  -- p; all tuples under one id have the same width; W is at least 1 and at least every width.
  pub record AreLawfulIds (W m p : ℕ) (instances : List (Instance F)) : Type 0 where
    pub buses : AllPairs (λ a b. (a.0 ≡ b.0) ↔ ShareBus a.1 b.1) (batch_lookups_with_ids instances)
    pub below : All (λ a. a.0 < m) (batch_lookups_with_ids instances)
    pub few : m ≤ p
    pub widths : All (λ a. All (λ b. a.0 ≡ b.0 → HaveOneWidth a.1 b.1) (batch_lookups_with_ids instances)) (batch_lookups_with_ids instances)
    pub narrow : All (λ a. All (λ tuple. length tuple.items ≤ W) a.1.elements.items) (batch_lookups_with_ids instances)
    pub positive : 1 ≤ W
