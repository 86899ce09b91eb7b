use Rattle.std.proofs.Common.{◌≡◌, ◌∷◌, [], ℕ, List, length, map, take, inl, inr, sym, ap, subst, ◌∙◌, arith}
use Rattle.std.proofs.lemmas.List.{length-map, take_all}
use Rattle.std.proofs.lemmas.Result.{err_from_is_err_and}
use Rattle.std.specs.List.{AllByRecursion, flat_map}
use Rattle.list_laws.proofs.Each.{all_both}
use Rattle.air_expressions.specs.declared.base_expression.SymbolicExpression.{SymbolicExpression}
use Rattle.lookup_model.specs.Outline.{Outline, fields_of}
use Rattle.lookup.specs.Buses.{bus_names, group_of, on_bus}
use Rattle.lookup.specs.BusWidths.{HasOneWidth, bus_widths, widths_of}
use Rattle.lookup.specs.TupleWidths.{HasOtherWidth}
use Rattle.lookup.proofs.PackLaws.{at_index, bus_here}
use Rattle.lookup.proofs.WidthLaws.{all_buses}
use Rattle.lookup.proofs.tuple_widths.assert_bus_widths.Goals as goal

pub returns-in_err-assert_bus_width : goal.returns-in_err-assert_bus_width
returns-in_err-assert_bus_width g c =
    let os = map fields_of c.args.lookups.now in
    let (name_at, members_are) = bus_here os c.in_ok-buses.buses.entries c.loop-index.index c.bus_at.result.0 c.bus_at.result.1.now c.in_ok-buses.ensures c.bus_at.ensures in
    let (later, whole, next) = at_index (bus_names os) c.loop-index.index c.bus_at.result.0.now name_at in
    let p = err_from_is_err_and c.from_residual-in_err-assert_bus_width.result c.from_residual-in_err-assert_bus_width.ensures.1 in
    rw (p.1, p.2) (elim c.in_err-assert_bus_width.ensures [
      | inl memory ↦ inl memory
      | inr w ↦ inr (record {
        before = take c.loop-index.index (bus_names os);
        item = c.bus_at.result.0.now;
        after = later;
        split = whole;
        good = c.loop-index.invariant;
        fault = record {
          width = w.width;
          other = w.other;
          differ = subst (λ (t : List (Outline (SymbolicExpression g.row.F.Denot))). HasOtherWidth (flat_map widths_of t) w.width w.other) (ap (map (λ r. fields_of r.now)) c.deref.ensures.value ∙ members_are) w.differ;
          refusal = w.refusal;
        };
      })
    ])

pub loop-index-preserved : goal.loop-index-preserved
loop-index-preserved g c =
    let os = map fields_of c.args.lookups.now in
    let P = λ (name : List ℕ). HasOneWidth (bus_widths name (map fields_of c.args.lookups.now)) in
    let (name_at, members_are) = bus_here os c.in_ok-buses.buses.entries c.loop-index.index c.bus_at.result.0 c.bus_at.result.1.now c.in_ok-buses.ensures c.bus_at.ensures in
    let (later, whole, next) = at_index (bus_names os) c.loop-index.index c.bus_at.result.0.now name_at in
    let one : HasOneWidth (bus_widths c.bus_at.result.0.now (map fields_of c.args.lookups.now)) = subst (λ (t : List (Outline (SymbolicExpression g.row.F.Denot))). HasOneWidth (flat_map widths_of t)) (ap (map (λ r. fields_of r.now)) c.deref.ensures.value ∙ members_are) c.in_ok-assert_bus_width.ensures in
    subst (λ (t : List (List ℕ)). AllByRecursion P t) (sym next) (all_both P (take c.loop-index.index (bus_names os)) (c.bus_at.result.0.now ∷ []) c.loop-index.invariant (one, tt))

pub returns : goal.returns
returns g c =
    let os = map fields_of c.args.lookups.now in
    let long : length (bus_names os) ≡ length c.in_ok-buses.buses.entries = sym (length-map {B = List ℕ × List (Outline (SymbolicExpression g.row.F.Denot))} (bus_names os) (λ name. (name, on_bus name os))) ∙ sym (ap length c.in_ok-buses.ensures) ∙ length-map c.in_ok-buses.buses.entries group_of in
    subst (λ (t : List (List ℕ)). AllByRecursion (λ name. HasOneWidth (bus_widths name (map fields_of c.args.lookups.now))) t) (take_all c.loop-index.index (bus_names os) (omega (arith, long, c.loop-index-test.false, c.len-index-end.ensures.len))) c.loop-index.invariant

pub returns-then-have_one_width : goal.returns-then-have_one_width
returns-then-have_one_width g c = all_buses (map fields_of c.args.lookups.now) (c.have_one_width.ensures c.if-have_one_width.true)
