-- Batches under other ids.
use Rattle.std.specs.Prelude.{◌≡◌, ℕ, map}
use Rattle.lookup_model.specs.Batches.Instances.{Instance}

-- a renaming keeps different ids apart
abbrev pub IsInjective : (ℕ → ℕ) → Type 0
IsInjective rename = (i j : ℕ) → rename i ≡ rename j → i ≡ j

-- an AIR with each of its ids renamed
abbrev pub renamed_instance : {F : Type 0} → (ℕ → ℕ) → Instance F → Instance F
renamed_instance rename instance = record { lookups = instance.lookups; traces = instance.traces; ids = map rename instance.ids }
