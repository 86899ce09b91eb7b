-- Batches of AIRs whose constraints enforce the weights of their lookups, and what they provide.
use Rattle.std.specs.Prelude.{◌≡◌, Bool, List, map}
use Rattle.std.specs.List.{AllZip, range_with_len, zip}
use Rattle.std.specs.Option.{is_some}
use Rattle.air.specs.Traces.{height_of, window_of}
use Rattle.air_constraints.specs.Hold.{HoldOn}
use Rattle.air_expressions.specs.Window.{Window}
use Rattle.air_expressions.specs.declared.base_expression.SymbolicExpression.{SymbolicExpression}
use Rattle.field.specs.Ring.{Ring}
use Rattle.lookup.specs.Weights.{HeightLaw, Role, TraceKeepsWeights}
use Rattle.lookup_enforced.specs.Enforced.{EnforcesWeight, sent_items}
use Rattle.lookup_model.specs.Batches.Instances.{Instance}
use Rattle.lookup_model.specs.Sent.{flags_at}
use Rattle.lookup_model.specs.declared.types.Lookup.{Lookup}

-- which messages are queries, by their roles: AIR by AIR, row by row, lookup by lookup
abbrev pub marked_queries : List (List (List (List Role))) → List (List (List (List Bool)))
marked_queries divisions = map (λ division. map (λ row. map (λ roles. map is_some roles) row) division) divisions

module _ {F : Type 0} (R : Ring F) (eq : F → F → Bool) where
  -- The constraints of an AIR, with a list of queries for each of its lookups, which says of each tuple whether it
  -- is a query: they enforce the weight of each lookup at the height of the traces, and are zero on each row.
  pub record HasEnforcedWeights (instance : Instance F) (given : List (SymbolicExpression F) × List (List Bool)) : Type 0 where
    pub enforces : AllZip (EnforcesWeight R eq (height_of instance.traces) given.0) instance.lookups given.1
    pub hold : HoldOn R instance.traces given.0

  -- so it is with each AIR of a batch
  abbrev pub HaveEnforcedWeights : List (List (SymbolicExpression F)) → List (List (List Bool)) → List (Instance F) → Type 0
  HaveEnforcedWeights constraints queries instances = AllZip HasEnforcedWeights instances (zip constraints queries)

  -- which messages of a row are queries, lookup by lookup
  abbrev pub row_queries : Window F → List (Lookup F) → List (List Bool) → List (List Bool)
  row_queries w lookups queries = map (λ t. sent_items R eq (flags_at R w t.0) t.1) (zip lookups queries)

  -- those of an AIR, row by row
  abbrev pub trace_queries : Instance F → List (List Bool) → List (List (List Bool))
  trace_queries i queries = map (λ r. row_queries (window_of i.traces r) i.lookups queries) (range_with_len 0 (height_of i.traces))

  -- those of a batch
  abbrev pub batch_queries : List (Instance F) → List (List (List Bool)) → List (List (List (List Bool)))
  batch_queries instances queries = map (λ t. trace_queries t.0 t.1) (zip instances queries)

  -- The messages of a batch have roles, which are those of queries just where it is said so, and with which its
  -- traces keep their weights. However the messages divide into queries and provided entries of such weights, if
  -- they balance, each key whose query numbers do not sum to zero is the key of a provided entry.
  pub record ProvidesQueries (instances : List (Instance F)) (queries : List (List (List Bool))) : Type 0 where
    pub divisions : List (List (List (List Role)))
    pub told : marked_queries divisions ≡ batch_queries instances queries
    pub kept : AllZip (TraceKeepsWeights R eq) instances divisions
    pub provided : HeightLaw R eq instances
