-- What packing keeps: the weight of all lookups, the widths of tuples, lawful flags, and every message, and
-- so the keys and their nets.
use Rattle.std.specs.Prelude.{◌≡◌, ℕ, Bool, List, Option, None, Some, length, map, not}
use Rattle.std.specs.List.{AllByRecursion, filter, flat_map, sum_by}
use Rattle.std.specs.List.Sorted.{IsPermutation}
use Rattle.field.specs.Ring.{Ring}
use Rattle.air_expressions.specs.Window.{Window}
use Rattle.air.specs.Traces.{AirTraces}
use Rattle.field.specs.Extension.{Extension}
use Rattle.lookup_model.specs.Batches.Messages.{HasLawfulFlags}
use Rattle.lookup_model.specs.Message.{Key, Message}
use Rattle.lookup_model.specs.Net.{keys, net, unbalanced_keys}
use Rattle.lookup_model.specs.Outline.{bus_of, fields_of}
use Rattle.lookup_model.specs.Plain.{plain_terminal, trace_messages}
use Rattle.lookup_model.specs.Trace.{sent_row_under, sent_rows_under}
use Rattle.lookup_model.specs.declared.types.Lookup.{Lookup}
use Rattle.lookup.specs.Packing.{is_additive}

module _ {F : Type 0} where
  -- the weight of all lookups is that of before
  abbrev pub KeepsTotalWeight : List (Lookup F) → List (Lookup F) → Type 0
  KeepsTotalWeight before after = sum_by (λ l. l.count_weight) after ≡ sum_by (λ l. l.count_weight) before

  -- the widths of the tuples of all lookups
  abbrev pub widths_of : List (Lookup F) → List ℕ
  widths_of lookups = flat_map (λ l. map (λ tuple. length tuple.items) l.elements.items) lookups

  -- the tuples have the widths of before, each as often, in some order
  abbrev pub KeepsWidths : List (Lookup F) → List (Lookup F) → Type 0
  KeepsWidths before after = IsPermutation (widths_of before) (widths_of after)

  -- the buses of the lookups that may not be joined, in their order; none of a local one
  abbrev pub unjoined_buses : List (Lookup F) → List (Option (List ℕ))
  unjoined_buses lookups = map (λ l. bus_of l.kind) (filter (λ l. not (is_additive (fields_of l))) lookups)

  -- these are on the buses of before
  abbrev pub KeepsUnjoinedBuses : List (Lookup F) → List (Lookup F) → Type 0
  KeepsUnjoinedBuses before after = unjoined_buses after ≡ unjoined_buses before

  -- a lookup that may be joined has the id of its bus
  abbrev pub HasIdOfBus : (List ℕ → ℕ) → (Lookup F → ℕ) → Lookup F → Type 0
  HasIdOfBus bus_id id l = (name : List ℕ) → bus_of l.kind ≡ Some name → l.flags ≡ None → id l ≡ bus_id name

  -- the ids of the other lookups, in their order
  abbrev pub unjoined_ids : (Lookup F → ℕ) → List (Lookup F) → List ℕ
  unjoined_ids id lookups = map id (filter (λ l. not (is_additive (fields_of l))) lookups)

  -- The lookups after have the ids of those before: one id for each bus, which is that of all lookups
  -- on it that may be joined, and the same ids for the others, in the same order.
  pub record HaveSameIds (id_before : Lookup F → ℕ) (before : List (Lookup F)) (id_after : Lookup F → ℕ) (after : List (Lookup F)) : Type 0 where
    pub bus_id : List ℕ → ℕ
    pub by_bus_before : AllByRecursion (HasIdOfBus bus_id id_before) before
    pub by_bus_after : AllByRecursion (HasIdOfBus bus_id id_after) after
    pub others : unjoined_ids id_before before ≡ unjoined_ids id_after after

  module _ (R : Ring F) (eq : F → F → Bool) where
    -- the messages that lookups send at a window
    abbrev pub row_messages : (Lookup F → ℕ) → Window F → List (Lookup F) → List (Message F)
    row_messages id w lookups = flat_map (λ sent. sent.messages) (sent_row_under R eq id w lookups)

    -- Under the same ids the lookups after send at each window the messages of those before, each as
    -- often, in some order.
    abbrev pub KeepsMessages : List (Lookup F) → List (Lookup F) → Type 0
    KeepsMessages before after =
        (id_before id_after : Lookup F → ℕ) → HaveSameIds id_before before id_after after
        → (w : Window F) → IsPermutation (row_messages id_before w before) (row_messages id_after w after)

    -- At each window the flags of the lookups after are lawful if those of the lookups before are.
    abbrev pub KeepsLawfulFlags : List (Lookup F) → List (Lookup F) → Type 0
    KeepsLawfulFlags before after =
        (id_before id_after : Lookup F → ℕ) (w : Window F)
        → AllByRecursion (HasLawfulFlags R eq) (sent_row_under R eq id_before w before)
        → AllByRecursion (HasLawfulFlags R eq) (sent_row_under R eq id_after w after)

    -- Under the same ids the net of each key over the traces of an AIR is that of before.
    abbrev pub KeepsNets : List (Lookup F) → List (Lookup F) → Type 0
    KeepsNets before after =
        (id_before id_after : Lookup F → ℕ) → HaveSameIds id_before before id_after after
        → (traces : AirTraces F) (key : Key F)
        → net R eq (trace_messages (sent_rows_under R eq id_after traces after)) key
        ≡ net R eq (trace_messages (sent_rows_under R eq id_before traces before)) key

    -- The distinct keys of messages are those of others, in some order, and so are those whose net is
    -- not zero.
    pub record HaveSameKeys (before after : List (Message F)) : Type 0 where
      pub all : IsPermutation (keys eq before) (keys eq after)
      pub unbalanced : IsPermutation (unbalanced_keys R eq before) (unbalanced_keys R eq after)

    -- Under the same ids the traces of an AIR have the keys of before, and as many of them are
    -- unbalanced.
    abbrev pub KeepsKeys : List (Lookup F) → List (Lookup F) → Type 0
    KeepsKeys before after =
        (id_before id_after : Lookup F → ℕ) → HaveSameIds id_before before id_after after
        → (traces : AirTraces F)
        → HaveSameKeys (trace_messages (sent_rows_under R eq id_before traces before))
        (trace_messages (sent_rows_under R eq id_after traces after))

    -- What packing keeps of all that lookups send.
    pub record KeepsSent (before after : List (Lookup F)) : Type 0 where
      pub weight : KeepsTotalWeight before after
      pub widths : KeepsWidths before after
      pub other_buses_are : KeepsUnjoinedBuses before after
      pub flags : KeepsLawfulFlags before after
      pub messages : KeepsMessages before after
      pub nets : KeepsNets before after
      pub keys : KeepsKeys before after

-- Under the same ids the traces of an AIR have the terminal of before, whatever the denominators.
abbrev pub KeepsTerminal : {F K : Type 0} → Extension F K → List (Lookup F) → List (Lookup F) → Type 0
KeepsTerminal {F} {K} E before after =
    (id_before id_after : Lookup F → ℕ) → HaveSameIds id_before before id_after after
    → (traces : AirTraces F) (denominator : Key F → K)
    → plain_terminal E denominator (sent_rows_under E.base E.base_eq id_after traces after)
    ≡ plain_terminal E denominator (sent_rows_under E.base E.base_eq id_before traces before)
