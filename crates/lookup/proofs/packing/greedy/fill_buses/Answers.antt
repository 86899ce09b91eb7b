use Rattle.std.proofs.lemmas.List.{append-nil, nil_from_length}
use Rattle.std.specs.Vec.Iter.{into_iter_items}
use Rattle.std.proofs.Common.{◌≡◌, true, false, not, ◌∷◌, ◌++◌, [], map, arith, List, All, sym, ap, subst, ◌∙◌}
use Rattle.std.proofs.lemmas.List.Elements.{All-head, All-push, All-tail}
use Rattle.std.specs.List.{AllZip}
use Rattle.std.specs.Map.{values_of}
use Rattle.air_expressions.specs.declared.base_expression.SymbolicExpression.{SymbolicExpression}
use Rattle.lookup_model.specs.Outline.{Outline, fields_of}
use Rattle.lookup_model.specs.Records.{HasEqualLengths}
use Rattle.lookup_model.specs.declared.types.Lookup.{Lookup}
use Rattle.lookup.specs.Buses.{bus_groups}
use Rattle.lookup.specs.Packing.{additive_lookups, is_additive, passing}
use Rattle.lookup.specs.internal.Fillings.{IsFilled}
use Rattle.lookup.proofs.BusLaws.{values_hold}
use Rattle.lookup.proofs.ListLaws.{kept_more, kept_pushed, left_out}
use Rattle.lookup.proofs.StepLaws.{additive_member, among_all}
use Rattle.lookup.proofs.packing.greedy.fill_buses.Goals as goal

pub push_on_bus-requires-clause-next : goal.push_on_bus-requires-clause-next
push_on_bus-requires-clause-next g c =
    let left = subst (λ (t : List (Lookup g.row.F.Denot)). All HasEqualLengths t) c.in-Some.ensures.steps.0 c.loop-lookup.invariant.left in
    additive_member c.in-Some.lookup (sym c.may_be_joined.ensures ∙ c.if-may_be_joined.true) (All-head HasEqualLengths _ _ left)

pub push_on_bus-requires-clause-seen : goal.push_on_bus-requires-clause-seen
push_on_bus-requires-clause-seen g c =
    let inv = c.loop-lookup.invariant in
    let test : is_additive (fields_of c.in-Some.lookup) ≡ true = sym c.may_be_joined.ensures ∙ c.if-may_be_joined.true in
    let all = kept_more fields_of is_additive inv.seen _ _ _ c.in-Some.lookup c.in-Some.ensures.steps.0 test inv.all in
    (inv.seen, inv.buses, λ name lookup is. c.requires.callable lookup (name, among_all (inv.seen ++ fields_of c.in-Some.lookup ∷ []) _ _ name lookup all is))

pub loop-lookup-preserved-in-Continue-1 : goal.loop-lookup-preserved-in-Continue-1
loop-lookup-preserved-in-Continue-1 g c =
    let inv = c.loop-lookup.invariant in
    let left = subst (λ (t : List (Lookup g.row.F.Denot)). All HasEqualLengths t) c.in-Some.ensures.steps.0 inv.left in
    let test : is_additive (fields_of c.in-Some.lookup) ≡ true = sym c.may_be_joined.ensures ∙ c.if-may_be_joined.true in record {
      left = All-tail HasEqualLengths _ _ left;
      pass = left_out fields_of (λ o. not (is_additive o)) _ _ _ _ c.in-Some.lookup c.in-Some.ensures.steps.0 (ap not test) inv.pass;
      lengths = inv.lengths;
      seen = inv.seen ++ fields_of c.in-Some.lookup ∷ [];
      all = kept_more fields_of is_additive inv.seen _ _ _ c.in-Some.lookup c.in-Some.ensures.steps.0 test inv.all;
      buses = c.in_ok-push_on_bus.ensures inv.seen inv.buses;
    }

pub loop-lookup-preserved : goal.loop-lookup-preserved
loop-lookup-preserved g c =
    let inv = c.loop-lookup.invariant in
    let left = subst (λ (t : List (Lookup g.row.F.Denot)). All HasEqualLengths t) c.in-Some.ensures.steps.0 inv.left in
    let test : is_additive (fields_of c.in-Some.lookup) ≡ false = sym c.may_be_joined.ensures ∙ c.if-may_be_joined.false in record {
      left = All-tail HasEqualLengths _ _ left;
      pass = kept_pushed fields_of (λ o. not (is_additive o)) c.loop-lookup.columns.items _ _ _ _ c.in-Some.lookup c.in_ok-push.ensures.items c.in-Some.ensures.steps.0 (ap not test) inv.pass;
      lengths = subst (λ (t : List (Lookup g.row.F.Denot)). All HasEqualLengths t) (sym c.in_ok-push.ensures.items) (All-push HasEqualLengths _ _ inv.lengths (All-head HasEqualLengths _ _ left));
      seen = inv.seen;
      all = left_out fields_of is_additive _ _ _ _ c.in-Some.lookup c.in-Some.ensures.steps.0 test inv.all;
      buses = inv.buses;
    }

pub returns : goal.returns
returns g c =
    let inv = c.loop-lookup.invariant in
    let columns = c.loop-lookup.columns.items in
    let none = nil_from_length (into_iter_items c.loop-lookup.lookup-iterator) (omega (arith, c.in-None.ensures.steps.0, c.loop-lookup.lookup-iterator.rest.ok.0)) in
    let all = sym (append-nil inv.seen) ∙ ap (λ t. inv.seen ++ additive_lookups (map fields_of t)) (sym none) ∙ inv.all in
    let held = values_hold (IsFilled (g.T.TrialDegrees.keeps c.args.degrees.now) (g.T.TrialDegrees.answers c.args.degrees.now) c.args.max_degree) (bus_groups inv.seen) c.loop-lookup.buses.entries inv.buses in (
      sym (append-nil (map fields_of columns)) ∙ ap (λ t. map fields_of columns ++ passing (map fields_of t)) (sym none) ∙ inv.pass,
      inv.lengths,
      subst (λ t. AllZip (IsFilled (g.T.TrialDegrees.keeps c.args.degrees.now) (g.T.TrialDegrees.answers c.args.degrees.now) c.args.max_degree) (map (λ g. g.1) (bus_groups (additive_lookups (map fields_of c.args.lookups.items)))) t) (sym c.in_ok-buses.ensures)
          (subst (λ (os : List (Outline (SymbolicExpression g.row.F.Denot))). AllZip (IsFilled (g.T.TrialDegrees.keeps c.args.degrees.now) (g.T.TrialDegrees.answers c.args.degrees.now) c.args.max_degree) (map (λ g. g.1) (bus_groups os)) (values_of c.loop-lookup.buses.entries)) all held),
    )
