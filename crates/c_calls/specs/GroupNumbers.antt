-- What the debug check finds, as lists of numbers.
use Rattle.std.specs.Prelude.{ℕ, ◌++◌, ◌∷◌, [], List, None, Option, Some, length, map}
use Rattle.std.specs.List.{flat_map}
use Rattle.std.specs.String.{string_bytes}
use Rattle.field.specs.Residue.{Residue}
use Rattle.lookup_debug.specs.declared.first_unbalanced.Mismatch.{Mismatch}
use Rattle.lookup_debug.specs.declared.group_table.BusGroup.{BusGroup}
use Rattle.lookup_debug.specs.declared.named_group.GroupName.{GroupName}
use Rattle.lookup_debug.specs.declared.named_group.GroupName.TheVariants.{Bus, Local}
use Rattle.lookup_debug.specs.declared.unbalanced.Place.{Place}
use Rattle.lookup_debug.specs.declared.unbalanced.UnbalancedTuple.{UnbalancedTuple}

-- the name of a group: 0, the AIR and the lookup; or 1, and the length and the bytes of the name of a bus
abbrev pub name_numbers : GroupName → List ℕ
name_numbers (Local instance lookup) = 0 ∷ instance ∷ lookup ∷ []
name_numbers (Bus name) = 1 ∷ length (string_bytes name) ∷ string_bytes name

module _ {p : ℕ} where
  -- the number of an element
  abbrev pub element_number : Residue p → ℕ
  element_number x = x.value

  -- a place: the AIR, the lookup, the row, and how much is sent there
  abbrev pub place_numbers : Place (Residue p) → List ℕ
  place_numbers place = place.location.instance ∷ place.location.lookup ∷ place.location.row ∷ element_number place.count ∷ []

  -- a tuple that does not balance: its length and its elements, its net, the number of all its places and of those
  -- that follow, and these
  abbrev pub tuple_numbers : UnbalancedTuple (Residue p) → List ℕ
  tuple_numbers u =
      length u.tuple.items ∷ (map element_number u.tuple.items
      ++ (element_number u.net ∷ u.place_count ∷ length u.places.items ∷ flat_map place_numbers u.places.items))

  -- a group: its name, what is sent and received, how many distinct tuples there are, how many of them do not
  -- balance, how many of those follow, and these
  abbrev pub group_numbers : BusGroup (Residue p) → List ℕ
  group_numbers g =
      name_numbers g.name
      ++ (g.sent ∷ g.received ∷ g.distinct ∷ g.unbalanced ∷ length g.first.items ∷ flat_map tuple_numbers g.first.items)

  -- a table: how many groups there are, and each of them
  abbrev pub table_numbers : List (BusGroup (Residue p)) → List ℕ
  table_numbers groups = length groups ∷ flat_map group_numbers groups

  -- a mismatch: 0 if there is none, else 1, and its group and its tuple
  abbrev pub mismatch_numbers : Option (Mismatch (Residue p)) → List ℕ
  mismatch_numbers None = 0 ∷ []
  mismatch_numbers (Some m) = 1 ∷ (name_numbers m.group ++ tuple_numbers m.unbalanced)
