-- What the AIRs of a batch send, each lookup under its id.
use Rattle.std.specs.Prelude.{◌≢◌, ℕ, Bool, List, IfSome, slice_index_or}
use Rattle.std.specs.List.{AllByRecursion, flat_map}
use Rattle.field.specs.Ring.{Ring}
use Rattle.lookup_model.specs.Challenges.{ChallengeTable, table_key_denominator}
use Rattle.field.specs.Extension.{Extension}
use Rattle.lookup_model.specs.Fault.{IsLawfulSelection}
use Rattle.lookup_model.specs.Message.{Key, Message}
use Rattle.lookup_model.specs.Plain.{trace_messages}
use Rattle.lookup_model.specs.Sent.{Sent}
use Rattle.lookup_model.specs.Trace.{sent_rows_under}
use Rattle.lookup_model.specs.declared.types.Lookup.{Lookup}
use Rattle.lookup_model.specs.Batches.Instances.{Instance}

-- the id of a lookup, where ids are listed by columns
abbrev pub id_of : {F : Type 0} → List ℕ → Lookup F → ℕ
id_of ids lookup = slice_index_or ids lookup.column 0

module _ {F : Type 0} (R : Ring F) (eq : F → F → Bool) where
  -- what the lookups of an AIR send on each row of its traces, each under its id
  abbrev pub sent_rows_of : Instance F → List (List (Sent F))
  sent_rows_of i = sent_rows_under R eq (id_of i.ids) i.traces i.lookups

  -- all messages of a batch, AIR by AIR
  abbrev pub batch_messages : List (Instance F) → List (Message F)
  batch_messages instances = flat_map (λ i. trace_messages (sent_rows_of i)) instances

  -- the flags of a lookup are lawful, if it has flags
  abbrev pub HasLawfulFlags : Sent F → Type 0
  HasLawfulFlags sent = IfSome sent.flags (IsLawfulSelection R eq)

  -- so are those of all lookups on all rows of all AIRs
  abbrev pub AreFlagsLawful : List (Instance F) → Type 0
  AreFlagsLawful instances = AllByRecursion (λ i. AllByRecursion (AllByRecursion HasLawfulFlags) (sent_rows_of i)) instances

-- no message has denominator zero, whatever its multiplicity
abbrev pub NoneVanishes : {F K : Type 0} → Extension F K → (Key F → K) → List (Message F) → Type 0
NoneVanishes E denominator messages = AllByRecursion (λ m. denominator m.key ≢ E.ring.zero) messages

-- A batch is regular at a challenge table: its flags are lawful, and no denominator vanishes.
pub record IsRegular {F K : Type 0} (E : Extension F K) (table : ChallengeTable K) (instances : List (Instance F)) : Type 0 where
  pub flags : AreFlagsLawful E.base E.base_eq instances
  pub denominators : NoneVanishes E (table_key_denominator E table) (batch_messages E.base E.base_eq instances)
