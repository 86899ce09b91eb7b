-- What joined lookups send is what their members send.
use Rattle.std.proofs.Common.{◌≡◌, ℕ, Bool, true, ◌&&◌, not, List, [], ◌∷◌, ◌++◌, Option, None, Some, Result, map, refl, sym, ap, ◌∙◌, arith}
use Rattle.std.proofs.lemmas.List.{map-append}
use Rattle.std.specs.List.{AllByRecursion, flat_map, zip}
use Rattle.std.specs.Option.{is_some, option_map, option_map_or}
use Rattle.list_laws.proofs.Zips.{zip-append}
use Rattle.list_laws.proofs.Each.{all_weaker, all_with}
use Rattle.list_laws.proofs.Parts.{flat_same}
use Rattle.field.specs.Ring.{Ring}
use Rattle.air_expressions.specs.Window.{Window}
use Rattle.air_expressions.specs.declared.base_expression.SymbolicExpression.{SymbolicExpression}
use Rattle.lookup_model.specs.Message.{Message}
use Rattle.lookup_model.specs.Outline.{Outline, fields_of}
use Rattle.lookup_model.specs.Sent.{branch_at, sent, sent_at, values}
use Rattle.lookup_model.specs.declared.error.LookupError.{LookupError}
use Rattle.lookup_model.specs.declared.types.Lookup.{Lookup}
use Rattle.lookup.specs.Buses.{on_bus}
use Rattle.lookup_model.specs.Names.{is_named}
use Rattle.lookup.specs.Cuts.{part_items}
use Rattle.lookup.specs.Packing.{AreFilled, additive_lookups, is_additive, joined_lookup}
use Rattle.lookup.proofs.Columns.{columns_give}
use Rattle.lookup.proofs.Extracted.{sent_by_fields}
use Rattle.lookup.proofs.FewestColumns.{IsOn, members_on}
use Rattle.lookup.specs.internal.TrialDegrees.{IsPlain}
use Rattle.lookup_model.proofs.Names.{same_name-Decides}

-- the id of a bus by its name, and 0 without one
abbrev pub own_id : {E : Type 0} → (List ℕ → ℕ) → Outline E → ℕ
own_id bus_id o = option_map_or bus_id o.bus 0

-- an additive lookup has a bus and no flags
pub on_some_bus : {E : Type 0} (o : Outline E) → is_additive o ≡ true → (name : List ℕ) × (o.bus ≡ Some name) × (o.flags ≡ None)
on_some_bus o e = by_fields o.bus o.flags e
  where
    by_fields : {A : Type 0} (bus : Option (List ℕ)) (flags : Option A) → (is_some bus && not (is_some flags)) ≡ true → (name : List ℕ) × (bus ≡ Some name) × (flags ≡ None)
    by_fields (Some name) None h = (name, refl, refl)
    by_fields bus flags h = grind (arith, h)

own_named : (bus_id : List ℕ → ℕ) (name : List ℕ) (bus : Option (List ℕ)) → is_named name bus ≡ true → option_map_or bus_id bus 0 ≡ bus_id name
own_named bus_id name bus e = grind (arith, e, same_name-Decides name)

module _ {F : Type 0} (R : Ring F) (eq : F → F → Bool) (w : Window F) where
  -- the branches of a lookup by its fields, and the messages that it sends
  abbrev pub branches_of : ℕ → Outline (SymbolicExpression F) → List (Message F)
  branches_of id o = map (λ b. branch_at R w id b.0 b.1) (zip o.elements o.multiplicities)

  abbrev pub messages_of : ℕ → Outline (SymbolicExpression F) → List (Message F)
  messages_of id o = (sent R eq (option_map (values R w) o.flags) (branches_of id o)).messages

  pub seen_messages : (id : ℕ) (l : Lookup F) → (sent_at R eq w id l).messages ≡ messages_of id (fields_of l)
  seen_messages id l = ap (λ s. s.messages) (sent_by_fields R eq w id l)

  branches_joined : (id : ℕ) (os : List (Outline (SymbolicExpression F))) → AllByRecursion IsPlain os
      → map (λ b. branch_at R w id b.0 b.1) (zip (flat_map (λ o. o.elements) os) (flat_map (λ o. o.multiplicities) os)) ≡ flat_map (branches_of id) os
  branches_joined id [] plain = refl
  branches_joined id (o ∷ os) plain =
      ap (map (λ b. branch_at R w id b.0 b.1)) (zip-append o.elements (flat_map (λ p. p.elements) os) o.multiplicities (flat_map (λ p. p.multiplicities) os) (plain.0).lengths)
      ∙ map-append (λ b. branch_at R w id b.0 b.1) (zip o.elements o.multiplicities) (zip (flat_map (λ p. p.elements) os) (flat_map (λ p. p.multiplicities) os))
      ∙ ap (λ t. branches_of id o ++ t) (branches_joined id os plain.1)

  module _ (bus_id : List ℕ → ℕ) where
    -- what a lookup sends under the id of its bus
    abbrev pub own_messages : Outline (SymbolicExpression F) → List (Message F)
    own_messages o = messages_of (own_id bus_id o) o

    -- a lookup without flags sends its branches
    all_branches : (name : List ℕ) (o : Outline (SymbolicExpression F)) → o.flags ≡ None → is_named name o.bus ≡ true → own_messages o ≡ branches_of (bus_id name) o
    all_branches name o none named =
        ap (λ flags. (sent R eq (option_map (values R w) flags) (branches_of (own_id bus_id o) o)).messages) none
        ∙ ap (λ id. branches_of id o) (own_named bus_id name o.bus named)

    -- a part sends what its members send
    part_messages : (name : List ℕ) (part : Outline (SymbolicExpression F) × List (Outline (SymbolicExpression F))) → AllByRecursion (λ o. IsPlain o × IsOn name o) (part_items part)
        → own_messages (joined_lookup part) ≡ flat_map own_messages (part_items part)
    part_messages name part each =
        all_branches name (joined_lookup part) (each.0.0).no_flags (each.0.1).named
        ∙ branches_joined (bus_id name) (part_items part) (all_weaker (λ o. IsPlain o × IsOn name o) IsPlain (λ o both. both.0) (part_items part) each)
        ∙ sym (flat_same own_messages (branches_of (bus_id name)) (part_items part) (all_weaker (λ o. IsPlain o × IsOn name o) (λ o. own_messages o ≡ branches_of (bus_id name) o) (λ o both. all_branches name o (both.0).no_flags (both.1).named) (part_items part) each))

    -- the columns of all buses send what the lookups on them send
    pub columns_messages : (answers : Outline (SymbolicExpression F) → Result ℕ LookupError → Type 0) (most : ℕ) (os : List (Outline (SymbolicExpression F))) (names : List (List ℕ)) (cuts : List (List (Outline (SymbolicExpression F) × List (Outline (SymbolicExpression F)))))
        → ((name : List ℕ) → AllByRecursion IsPlain (on_bus name (additive_lookups os))) → AreFilled answers most (additive_lookups os) names cuts
        → flat_map own_messages (flat_map (λ cut. map joined_lookup cut) cuts) ≡ flat_map (λ name. flat_map own_messages (on_bus name (additive_lookups os))) names
    columns_messages answers most os names cuts plain =
        columns_give answers most (additive_lookups os) (λ name o. IsPlain o × IsOn name o)
        (λ name. all_with IsPlain (IsOn name) (λ o. IsPlain o × IsOn name o) (λ o is on. (is, on)) (on_bus name (additive_lookups os)) (plain name) (members_on name os)) own_messages part_messages names cuts
