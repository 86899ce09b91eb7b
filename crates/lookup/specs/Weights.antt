-- Weights: how much the queries of a trace can add to a count, in whole numbers.
use Rattle.std.specs.Prelude.{◌≡◌, ◌≢◌, ◌≤◌, ℕ, ℤ, pos, Bool, cond, List, [], ◌∷◌, Option, None, Some, IfSome, map, nat_abs, ◌+ℤ◌}
use Rattle.std.specs.List.{AllZip, flat_map, sum_by, zip}
use Rattle.field.specs.Distinct.{IsAmong}
use Rattle.field.specs.Ring.{Ring, of_int}
use Rattle.air.specs.Traces.{height_of}
use Rattle.lookup_model.specs.Message.{Key, Message, same_key}
use Rattle.lookup_model.specs.Net.{IsBalanced}
use Rattle.lookup_model.specs.Sent.{Sent}
use Rattle.lookup_model.specs.declared.types.Lookup.{Lookup}
use Rattle.lookup_model.specs.Batches.Instances.{Instance}
use Rattle.lookup_model.specs.Batches.Messages.{batch_messages, sent_rows_of}

-- what a message is said to be: a provided entry, or a query of a signed whole number
abbrev pub Role : Type 0
Role = Option ℤ

-- the absolute value of a query, 0 of a provided entry
abbrev pub size_of_role : Role → ℕ
size_of_role None = 0
size_of_role (Some z) = nat_abs z

module _ {F : Type 0} (R : Ring F) where
  -- the multiplicity of a query is its number times 1
  abbrev pub HasRole : Message F → Role → Type 0
  HasRole m role = IfSome role (λ z. m.multiplicity ≡ of_int R z)

  -- The messages of a lookup on a row have such roles, and the absolute values of the queries
  -- add up to at most its weight.
  pub record KeepsWeight (lookup : Lookup F) (sent : Sent F) (roles : List Role) : Type 0 where
    pub divided : AllZip HasRole sent.messages roles
    pub within : sum_by size_of_role roles ≤ lookup.count_weight

  -- so those of all lookups of an AIR do on a row, and on all rows of its traces
  abbrev pub RowKeepsWeights : List (Lookup F) → List (Sent F) → List (List Role) → Type 0
  RowKeepsWeights lookups row roles = AllZip (λ t ps. KeepsWeight t.0 t.1 ps) (zip lookups row) roles

  abbrev pub TraceKeepsWeights : (F → F → Bool) → Instance F → List (List (List Role)) → Type 0
  TraceKeepsWeights eq instance division = AllZip (RowKeepsWeights instance.lookups) (sent_rows_of R eq instance) division

-- the roles of all messages of a batch, in their order
abbrev pub all_roles : List (List (List (List Role))) → List Role
all_roles divisions = flat_map (λ division. flat_map (λ row. flat_map (λ roles. roles) row) division) divisions

-- the sum of the query numbers of a key
abbrev pub query_sum : {F : Type 0} → (F → F → Bool) → Key F → List (Message F × Role) → ℤ
query_sum eq key [] = pos 0
query_sum eq key ((m, None) ∷ ms) = query_sum eq key ms
query_sum eq key ((m, Some z) ∷ ms) = cond (same_key eq key m.key) (z +ℤ query_sum eq key ms) (query_sum eq key ms)

-- the keys of the provided entries
abbrev pub provided_keys : {F : Type 0} → List (Message F × Role) → List (Key F)
provided_keys [] = []
provided_keys ((m, None) ∷ ms) = m.key ∷ provided_keys ms
provided_keys ((m, Some z) ∷ ms) = provided_keys ms

module _ {F : Type 0} (R : Ring F) (eq : F → F → Bool) where
  -- If the traces of a batch keep their weights, however its messages divide, and its messages balance,
  -- then each key whose query numbers do not sum to zero is the key of a provided entry.
  abbrev pub HeightLaw : List (Instance F) → Type 0
  HeightLaw instances =
      (divisions : List (List (List (List Role)))) → AllZip (TraceKeepsWeights R eq) instances divisions
      → IsBalanced R eq (batch_messages R eq instances)
      → (key : Key F) → query_sum eq key (zip (batch_messages R eq instances) (all_roles divisions)) ≢ pos 0
      → IsAmong key (provided_keys (zip (batch_messages R eq instances) (all_roles divisions)))

  -- the law of every batch whose AIRs have these lookups and traces of these heights
  abbrev pub HeightLaws : List (List (Lookup F)) → List ℕ → Type 0
  HeightLaws airs heights =
      (instances : List (Instance F)) → map (λ i. i.lookups) instances ≡ airs → map (λ i. height_of i.traces) instances ≡ heights
      → HeightLaw instances
