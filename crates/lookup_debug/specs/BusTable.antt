-- The table of groups: what is sent in each, how many tuples there are, and which do not balance.
use Rattle.std.specs.Prelude.{ℕ, ◌-◌, ◌^◌, Bool, List, length, map, min, not, take}
use Rattle.std.specs.Cmp.Lexicographic.{pointwise}
use Rattle.std.specs.List.{filter}
use Rattle.std.specs.String.{string_bytes}
use Rattle.field.specs.Ring.{Ring}
use Rattle.lookup_model.specs.Net.{first_seen}
use Rattle.lookup_debug.specs.Contributions.{Contribution, SentLocation, location_of}
use Rattle.lookup_debug.specs.Groups.{Group, bus_label, local_label}
use Rattle.lookup_debug.specs.Mismatch.{net_amount, of_tuple}
use Rattle.lookup_debug.specs.declared.group_table.BusGroup.{BusGroup}
use Rattle.lookup_debug.specs.declared.named_group.GroupName.{GroupName}
use Rattle.lookup_debug.specs.declared.named_group.GroupName.TheVariants.{Bus, Local}
use Rattle.lookup_debug.specs.declared.unbalanced.Place.{Place}
use Rattle.lookup_debug.specs.declared.unbalanced.UnbalancedTuple.{UnbalancedTuple}

-- a number, but at most the greatest `usize`
abbrev pub saturated_usize : ℕ → ℕ
saturated_usize n = min n (2 ^ 64 - 1)

-- the label of the group of this name; different names have different labels
abbrev pub label_of : GroupName → List ℕ
label_of (Local instance lookup) = local_label instance lookup
label_of (Bus name) = bus_label (string_bytes name)

-- a tuple with its net, the number of its contributions, and some of these: where each is sent, and
-- how much of the tuple is sent there
pub record TupleEntry (F : Type 0) : Type 0 where
  pub tuple : List F
  pub net : F
  pub place_count : ℕ
  pub places : List (SentLocation × F)

-- what a row of the table says: the label of a group, how many of its contributions are sent and how
-- many are received, how many distinct tuples they have and how many of those do not balance, and
-- some of these
pub record GroupRow (F : Type 0) : Type 0 where
  pub label : List ℕ
  pub sent : ℕ
  pub received : ℕ
  pub distinct : ℕ
  pub unbalanced : ℕ
  pub first : List (TupleEntry F)

module _ {F : Type 0} where
  -- what values of the program hold
  abbrev pub location_and_count_of : Place F → SentLocation × F
  location_and_count_of p = (location_of p.location, p.count)

  abbrev pub entry_of : UnbalancedTuple F → TupleEntry F
  entry_of u = record { tuple = u.tuple.items; net = u.net; place_count = u.place_count; places = map location_and_count_of u.places.items }

  abbrev pub row_of : BusGroup F → GroupRow F
  row_of g = record {
    label = label_of g.name;
    sent = g.sent;
    received = g.received;
    distinct = g.distinct;
    unbalanced = g.unbalanced;
    first = map entry_of g.first.items;
  }

  -- how many of some contributions have an amount that is negative, and how many one that is not
  abbrev pub received_count : (F → Bool) → List (Contribution F) → ℕ
  received_count negative cs = length (filter negative (map (λ c. c.amount) cs))

  abbrev pub sent_count : (F → Bool) → List (Contribution F) → ℕ
  sent_count negative cs = length (filter (λ a. not (negative a)) (map (λ c. c.amount) cs))

module _ {F : Type 0} (R : Ring F) (eq : F → F → Bool) where
  -- the tuples of some contributions, each once, in the order of their first contributions
  abbrev pub distinct_tuples : List (Contribution F) → List (List F)
  distinct_tuples cs = first_seen (pointwise eq) (map (λ c. c.tuple) cs)

  -- those whose net is not zero
  abbrev pub unbalanced_tuples : List (Contribution F) → List (List F)
  unbalanced_tuples cs = filter (λ tuple. not (eq (net_amount R eq cs tuple) R.zero)) (distinct_tuples cs)

  -- where a tuple is sent, each with how much of it is sent there
  abbrev pub tuple_places : List (Contribution F) → List F → List (SentLocation × F)
  tuple_places cs tuple = map (λ c. (c.location, c.amount)) (of_tuple R eq cs tuple)

  module _ (limit : ℕ) where
    -- the entry of a tuple, with the first of its contributions, at most as many as the limit
    abbrev pub tuple_entry : List (Contribution F) → List F → TupleEntry F
    tuple_entry cs tuple = record {
      tuple = tuple;
      net = net_amount R eq cs tuple;
      place_count = saturated_usize (length (tuple_places cs tuple));
      places = take limit (tuple_places cs tuple);
    }

    -- the row of a group, with the first of its tuples that do not balance
    abbrev pub group_row : (F → Bool) → Group F → GroupRow F
    group_row negative group =
        let cs = group.contributions in record {
          label = group.label;
          sent = saturated_usize (sent_count negative cs);
          received = saturated_usize (received_count negative cs);
          distinct = length (distinct_tuples cs);
          unbalanced = length (unbalanced_tuples cs);
          first = map (tuple_entry cs) (take limit (unbalanced_tuples cs));
        }
