use Rattle.std.proofs.Common.{rules, ◌≡◌, List, ℕ, None, Some, is_some, option_map, ap, refl, sym, subst, ◌∙◌}
use Rattle.std.specs.List.{AllZip}
use Rattle.lookup_model.specs.Outline.{Outline, bus_of, fields_of}
use Rattle.air_expressions.specs.declared.base_expression.SymbolicExpression.{SymbolicExpression}
use Rattle.lookup.specs.internal.Fillings.{IsFilled}
use Rattle.lookup.specs.Buses.{on_bus}
use Rattle.lookup.specs.Trials.{IsTrialAmong}
use Rattle.lookup.proofs.BusLaws.{IsEntry, bus_grown, bus_opened, held_at}
use Rattle.lookup.proofs.GroupLaws.{groups-skip, on_bus-own}
use Rattle.lookup.proofs.packing.greedy.push_on_bus.Goals as goal

pub returns-in_default : goal.returns-in_default
returns-in_default g c = λ seen filled.
    let none : c.bus_name.result ≡ None = search rules in
    subst (λ (gs : List (List ℕ × List (Outline (SymbolicExpression g.row.F.Denot)))). AllZip (IsEntry (IsFilled (g.T.TrialDegrees.keeps c.args.degrees.now) (g.T.TrialDegrees.answers c.args.degrees.now) c.args.max_degree)) gs c.args.buses.now.entries) (sym (groups-skip seen (fields_of c.args.next) (sym c.bus_name.ensures ∙ ap (option_map (λ name. name.now)) none))) filled

pub push_on-requires-clause-members : goal.push_on-requires-clause-members
push_on-requires-clause-members g c =
    let on : bus_of c.args.next.kind ≡ Some c.in-Some.name.now = sym c.bus_name.ensures ∙ ap (option_map (λ name. name.now)) c.in-Some.is in
    let (seen, filled, callable) = c.requires.seen in (
      on_bus c.in-Some.name.now seen,
      held_at (IsFilled (g.T.TrialDegrees.keeps c.args.degrees.now) (g.T.TrialDegrees.answers c.args.degrees.now) c.args.max_degree) seen c.in-Some.name.now c.args.buses.now.entries filled c.in-Some-get_index_of.index (sym c.get_index_of.ensures.index ∙ c.in-Some-get_index_of.is) c.index_mut.result.now c.index_mut.ensures.value,
      λ lookup is. callable c.in-Some.name.now lookup (subst (λ (os : List (Outline (SymbolicExpression g.row.F.Denot))). IsTrialAmong os lookup) (sym (on_bus-own seen (fields_of c.args.next) c.in-Some.name.now on)) is),
    )

pub returns-in-Some-get_index_of : goal.returns-in-Some-get_index_of
returns-in-Some-get_index_of g c = λ seen filled.
    let on : bus_of c.args.next.kind ≡ Some c.in-Some.name.now = sym c.bus_name.ensures ∙ ap (option_map (λ name. name.now)) c.in-Some.is in
    let at = sym c.get_index_of.ensures.index ∙ c.in-Some-get_index_of.is in
    let held = held_at (IsFilled (g.T.TrialDegrees.keeps c.args.degrees.now) (g.T.TrialDegrees.answers c.args.degrees.now) c.args.max_degree) seen c.in-Some.name.now c.args.buses.now.entries filled c.in-Some-get_index_of.index at c.index_mut.result.now c.index_mut.ensures.value in
    bus_grown (IsFilled (g.T.TrialDegrees.keeps c.args.degrees.now) (g.T.TrialDegrees.answers c.args.degrees.now) c.args.max_degree) seen c.in-Some.name.now c.args.buses.now.entries filled c.in-Some-get_index_of.index at c.index_mut.result.now c.index_mut.ensures.value
    (fields_of c.args.next) _ c.push_on.new.bus on (c.push_on.ensures.filled (on_bus c.in-Some.name.now seen) held) refl

pub returns-in_ok-insert-in-None : goal.returns-in_ok-insert-in-None
returns-in_ok-insert-in-None g c = λ seen filled.
    let on : bus_of c.args.next.kind ≡ Some c.in-Some.name.now = sym c.bus_name.ensures ∙ ap (option_map (λ name. name.now)) c.in-Some.is in
    bus_opened (IsFilled (g.T.TrialDegrees.keeps c.args.degrees.now) (g.T.TrialDegrees.answers c.args.degrees.now) c.args.max_degree) seen c.in-Some.name.now c.args.buses.now.entries filled (fields_of c.args.next) c.insert.new.self.entries c.in_ok-name-in-None.name c.open_bus-bus.result on
    c.in_ok-name-in-None.ensures.ok (ap is_some (sym c.in-None.is) ∙ c.get_index_of.ensures.found) (c.open_bus-bus.ensures.filled c.args.max_degree) c.in_ok-insert-in-None.ensures.entries
