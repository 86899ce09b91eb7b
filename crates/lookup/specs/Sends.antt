-- What a pushed interaction sends on a row, in which order lookups are extracted, and which buses
-- and weights they have.
use Rattle.std.specs.Prelude.{ℕ, Bool, List, [], ◌∷◌, ◌++◌, Option, None, Some, map}
use Rattle.std.specs.List.{sum_by}
use Rattle.field.specs.Ring.{Ring}
use Rattle.lookup_model.specs.LookupDegree.{greatest}
use Rattle.lookup_model.specs.Message.{Message}
use Rattle.lookup_model.specs.Outline.{bus_of}
use Rattle.lookup_model.specs.Sent.{Sent, sent}
use Rattle.lookup_model.specs.declared.types.Lookup.{Lookup}
use Rattle.lookup_record.specs.Interaction.{ExclusiveInteraction, GlobalInteraction, Interaction, Tuple, exclusive, global, local}

-- the message of a tuple with its count under an id, where each expression has a value
abbrev pub message_under : {E F : Type 0} → (E → F) → ℕ → List E → E → Message F
message_under value id fields count = record { key = record { id = id; tuple = map value fields }; multiplicity = value count }

module _ {E F : Type 0} (R : Ring F) (eq : F → F → Bool) (value : E → F) where
  -- What an interaction sends under an id: a message on a bus sends itself, a local lookup all of
  -- its tuples, and a group the branches whose flag is set.
  abbrev pub interaction_sends : ℕ → Interaction E → Sent F
  interaction_sends id (global m) = sent R eq None (message_under value id m.fields m.count ∷ [])
  interaction_sends id (local tuples) = sent R eq None (map (λ t. message_under value id t.fields t.count) tuples)
  interaction_sends id (exclusive m) =
      sent R eq (Some (map (λ b. value b.flag) m.branches)) (map (λ b. message_under value id b.fields b.count) m.branches)

module _ {E : Type 0} where
  -- local lookups, then messages on buses, then groups: the order in which lookups are extracted
  abbrev pub in_order : List (List (Tuple E)) → List (GlobalInteraction E) → List (ExclusiveInteraction E) → List (Interaction E)
  in_order locals globals exclusives = map local locals ++ (map global globals ++ map exclusive exclusives)

  -- the bus of an interaction, unless it is local, and its weight: that of a message, the sum over
  -- the tuples of a local lookup, and the greatest of a group's branches
  abbrev pub bus_and_weight : Interaction E → Option (List ℕ) × ℕ
  bus_and_weight (global m) = (Some m.bus_name, m.weight)
  bus_and_weight (local tuples) = (None, sum_by (λ t. t.weight) tuples)
  bus_and_weight (exclusive m) = (Some m.bus_name, greatest (map (λ b. b.weight) m.branches))

  -- the tuples of an interaction
  abbrev pub interaction_tuples : Interaction E → List (List E)
  interaction_tuples (global m) = m.fields ∷ []
  interaction_tuples (local tuples) = map (λ t. t.fields) tuples
  interaction_tuples (exclusive m) = map (λ b. b.fields) m.branches

-- the bus and the weight of a lookup
abbrev pub lookup_bus_and_weight : {F : Type 0} → Lookup F → Option (List ℕ) × ℕ
lookup_bus_and_weight lookup = (bus_of lookup.kind, lookup.count_weight)
