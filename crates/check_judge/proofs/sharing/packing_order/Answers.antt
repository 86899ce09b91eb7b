use Rattle.std.proofs.Common.{rules, ◌≡◌, ◌++◌, ◌∷◌, [], ℕ, List, Some, Bor, ◌&&◌, is_some, option_map, unwrap_or, Vec, Global, true, false, not, map, length, take, flat_map, sym, ap, ◌∙◌, arith}
use Rattle.std.proofs.lemmas.List.{length-map, map-append, take_all}
use Rattle.std.specs.Map.{lookup, values_of}
use Rattle.check_judge.specs.declared.sharing.LookupTuples.{LookupTuples}
use Rattle.lookup.specs.Buses.{bus_groups, bus_names, on_bus}
use Rattle.lookup.specs.Packing.{additive_lookups, is_additive, passing}
use Rattle.check_judge.specs.internal.Sharing.{tuples_of}
use Rattle.lookup_model.specs.Outline.{bus_of, fields_of}
use Rattle.check_judge.proofs.OrderLaws.{flat_kept, flat_values, grown_group, kept_group, kept_next, left_next, one_more_kept}
use Rattle.lookup_model.specs.Names.{same_name}
use Rattle.check_judge.proofs.sharing.packing_order.Goals.{in-Global+in_ok-buses-in-Global+in_ok-push-in-Global, in_default+in_ok-push-in_default, in_default-via-in-Global+else-may_be_joined, in_default-via-in_default}
use Rattle.check_judge.proofs.sharing.packing_order.Goals as goal

pub loop-lookup-preserved : goal.loop-lookup-preserved
loop-lookup-preserved g c =
    let inv = c.loop-lookup.invariant in
    let ls = c.args.lookups.now in
    let i = c.loop-lookup.lookup-index in
    let x = c.lookup-item.result in
    let before = map fields_of (take i ls) in
    let member : LookupTuples = record { number = x.column; tuples = c.len.result } in
    let same : member ≡ tuples_of (fields_of x) = let n : c.len.result ≡ length (fields_of x).elements = omega (arith, c.len.ensures, length-map x.elements.items (λ tuple. tuple.items)) in λ j. record { number = x.column; tuples = n j } in
    elim c.match-lookup.branch [
      | in-Global+in_ok-buses-in-Global+in_ok-push-in-Global w ↦
          let test : is_additive (fields_of x) ≡ true = sym w.may_be_joined.ensures ∙ w.if-may_be_joined.true in
          record {
            passing = ap (λ o. o.items) w.order-is ∙ inv.passing ∙ ap (map tuples_of) (sym (left_next fields_of (λ o. not (is_additive o)) ls i x c.loop-lookup-test.true c.lookup-item.is (ap not test)));
            buses = one_more_kept tuples_of (λ (b : Bor (List ℕ)). b.now) (λ (v : Vec LookupTuples Global). v.items) (additive_lookups before) (fields_of x) c.loop-lookup.buses.entries c.match-lookup.buses.entries w.as_str.result w.push.new.self inv.buses (ap bus_of w.in-Global.is ∙ ap Some (sym w.as_str.ensures.value))
                (grown_group (lookup (λ (j : Bor (List ℕ)). same_name w.as_str.result.now j.now) c.loop-lookup.buses.entries) w.or_insert-bus.result.now w.new.result w.push.new.self member (tuples_of (fields_of x)) (w.or_insert-bus.ensures.value ∙ ap (λ o. unwrap_or o w.new.result) w.in_ok-buses-in-Global.ensures.value) w.new.ensures.items w.in_ok-push-in-Global.ensures.items same)
                (search rules)
                ∙ ap (λ os. map (kept_group tuples_of) (bus_groups os)) (sym (kept_next fields_of is_additive ls i x c.loop-lookup-test.true c.lookup-item.is test));
          }
      | in_default+in_ok-push-in_default w ↦
          let test : is_additive (fields_of x) ≡ false = elim w.in_default.branch [
            | in_default-via-in-Global+else-may_be_joined v ↦ sym v.may_be_joined.ensures ∙ v.if-may_be_joined.false
            | in_default-via-in_default v ↦ ap (λ k. is_some (bus_of k) && not (is_some (option_map (λ flags. flags.items) x.flags))) v.in_default.is
          ] in
          record {
            passing = ap (λ o. o.items) w.order-is ∙ w.in_ok-push-in_default.ensures.items ∙ (λ j. inv.passing j ++ same j ∷ []) ∙ sym (map-append tuples_of (passing before) (fields_of x ∷ [])) ∙ ap (map tuples_of) (sym (kept_next fields_of (λ o. not (is_additive o)) ls i x c.loop-lookup-test.true c.lookup-item.is (ap not test)));
            buses = rw (w.buses-is) (inv.buses ∙ ap (λ os. map (kept_group tuples_of) (bus_groups os)) (sym (left_next fields_of is_additive ls i x c.loop-lookup-test.true c.lookup-item.is test)));
          }
    ]

pub returns : goal.returns
returns g c =
    let inv = c.loop-lookup.invariant in
    let ls = c.args.lookups.now in
    let os = map fields_of ls in
    let all = take_all c.loop-lookup.lookup-index ls c.loop-lookup-test.false in
    let values : c.in_ok-groups.groups.items ≡ values_of c.loop-lookup.buses.entries = search rules in
    let alone = inv.passing ∙ ap (λ t. map tuples_of (passing (map fields_of t))) all in
    let joined =
    ap (flat_map (λ (v : Vec LookupTuples Global). v.items)) (take_all c.loop-group.group-index c.deref-group-items.result.now c.loop-group-test.false ∙ c.deref-group-items.ensures.value ∙ values)
    ∙ flat_values (λ (b : Bor (List ℕ)). b.now) (λ (v : Vec LookupTuples Global). v.items) c.loop-lookup.buses.entries
    ∙ ap (flat_map (λ (group : List ℕ × List LookupTuples). group.1)) (inv.buses ∙ ap (λ t. map (kept_group tuples_of) (bus_groups (additive_lookups (map fields_of t)))) all)
    ∙ flat_kept tuples_of (additive_lookups os) (bus_names (additive_lookups os)) in
    c.loop-group.invariant ∙ (λ j. alone j ++ joined j) ∙ sym (map-append tuples_of (passing os) (flat_map (λ name. on_bus name (additive_lookups os)) (bus_names (additive_lookups os))))
