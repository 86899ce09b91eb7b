use Rattle.std.proofs.Common.{◌∷◌, ◌++◌, [], List, map, inl, inr, refl, sym, ap, subst, ◌∙◌, arith, All}
use Rattle.std.proofs.lemmas.List.{append-nil, append_assoc, map-append, nil_from_length}
use Rattle.std.proofs.lemmas.List.Elements.{All-append, All-push}
use Rattle.std.proofs.lemmas.Result.{err_from_is_err_and}
use Rattle.std.proofs.lemmas.Slice.Zip.{all_zipped_more}
use Rattle.std.specs.List.{AllZip}
use Rattle.std.specs.Vec.Iter.{into_iter_items}
use Rattle.list_laws.proofs.Zips.{AllZip-next, AllZip-none}
use Rattle.air_expressions.specs.declared.base_expression.SymbolicExpression.{SymbolicExpression}
use Rattle.lookup_model.specs.Outline.{Outline, fields_of}
use Rattle.lookup_model.specs.Records.{HasEqualLengths}
use Rattle.lookup_model.specs.declared.types.Lookup.{Lookup}
use Rattle.lookup.specs.Buses.{bus_groups}
use Rattle.lookup.specs.BusWidths.{HaveBusWidths}
use Rattle.lookup.specs.internal.Fillings.{IsFilled}
use Rattle.lookup.specs.Packing.{IsFilling, IsStuck, additive_lookups, joined_lookup, passing}
use Rattle.lookup.specs.Trials.{IsMember}
use Rattle.lookup.proofs.KeptLaws.{kept_flags, kept_messages, kept_nets, kept_other_buses, kept_weight, kept_widths}
use Rattle.lookup.proofs.ListLaws.{columns_behind}
use Rattle.lookup.proofs.PackLaws.{AreColumnsAdded, all_packed, fill_refusal, groups_of}
use Rattle.lookup.proofs.SameKeys.{kept_keys}
use Rattle.lookup.proofs.StepLaws.{free_bus, stuck_bus}
use Rattle.lookup.proofs.packing.greedy.pack_by.Goals as goal

pub loop-bus-init : goal.loop-bus-init
loop-bus-init g c =
    let gives = c.into_iter-bus-iterator.ensures.into_iter_gives.0 in
    let filled = c.in_ok-columns.ensures in record {
      lengths = filled.1;
      earlier = [];
      later = map (λ g. g.1) (bus_groups (additive_lookups (map fields_of c.args.lookups.items)));
      split = refl;
      left = subst (λ t. AllZip (IsFilled (g.T.TrialDegrees.keeps c.args.degrees.now) (g.T.TrialDegrees.answers c.args.degrees.now) c.args.max_degree) (map (λ g. g.1) (bus_groups (additive_lookups (map fields_of c.args.lookups.items)))) t) (sym gives) filled.2;
      added = ([], tt, filled.0 ∙ sym (append-nil (passing (map fields_of c.args.lookups.items))));
    }

pub loop-bus-preserved : goal.loop-bus-preserved
loop-bus-preserved g c =
    let inv = c.loop-bus.invariant in
    let bus = c.in-Some.bus in
    let answers = g.T.TrialDegrees.answers c.args.degrees.now in
    let (members, later, later_is, filled, left) = AllZip-next (IsFilled (g.T.TrialDegrees.keeps c.args.degrees.now) (g.T.TrialDegrees.answers c.args.degrees.now) c.args.max_degree) inv.later bus _ (subst (λ t. AllZip (IsFilled (g.T.TrialDegrees.keeps c.args.degrees.now) (g.T.TrialDegrees.answers c.args.degrees.now) c.args.max_degree) inv.later t) c.in-Some.ensures.steps.0 inv.left) in
    let appended = c.in_ok-append_columns.ensures in
    let columns_are = appended.1 ∙ append_assoc c.loop-bus.columns.items bus.closed.items (bus.last ∷ []) in
    let (is_open, columns) = free_bus (g.T.TrialDegrees.keeps c.args.degrees.now) (g.T.TrialDegrees.answers c.args.degrees.now) c.args.max_degree members bus filled appended.0 in
    let all = All-push IsMember bus.closed.items bus.last is_open.closed is_open.member in record {
      lengths = subst (λ (t : List (Lookup g.row.F.Denot)). All HasEqualLengths t) (sym columns_are) (All-append HasEqualLengths _ _ inv.lengths (λ k d lt. (all k d lt).lengths));
      earlier = inv.earlier ++ members ∷ [];
      later = later;
      split = append_assoc inv.earlier (members ∷ []) later ∙ ap (λ t. inv.earlier ++ t) (sym later_is) ∙ inv.split;
      left = left;
      added = (
        inv.added.0 ++ columns.cut ∷ [],
        all_zipped_more (λ group cut. IsFilling answers c.args.max_degree cut group) inv.earlier inv.added.0 members columns.cut inv.added.1 columns.filling,
        columns_behind fields_of joined_lookup (passing (map fields_of c.args.lookups.items)) _ _ _ inv.added.0 columns.cut columns_are inv.added.2 (map-append fields_of bus.closed.items (bus.last ∷ []) ∙ columns.columns_are),
      );
    }

pub returns-in_err-append_columns-clause-packs : goal.returns-in_err-append_columns-clause-packs
returns-in_err-append_columns-clause-packs g c =
    let inv = c.loop-bus.invariant in
    let before = map fields_of c.args.lookups.items in
    let bus = c.in-Some.bus in
    let e = c.in_err-append_columns.field-0.0 in
    let (members, later, later_is, filled, left) = AllZip-next (IsFilled (g.T.TrialDegrees.keeps c.args.degrees.now) (g.T.TrialDegrees.answers c.args.degrees.now) c.args.max_degree) inv.later bus _ (subst (λ t. AllZip (IsFilled (g.T.TrialDegrees.keeps c.args.degrees.now) (g.T.TrialDegrees.answers c.args.degrees.now) c.args.max_degree) inv.later t) c.in-Some.ensures.steps.0 inv.left) in
    let p = err_from_is_err_and c.from_residual-in_err-append_columns.result c.from_residual-in_err-append_columns.ensures.1 in
    let widths = subst (λ (t : List (Lookup g.row.F.Denot)). HaveBusWidths (map fields_of t)) c.deref.ensures.value c.in_ok-assert_bus_widths.ensures in
    let first = λ (stuck : IsStuck (g.T.TrialDegrees.answers c.args.degrees.now) c.args.max_degree members e). fill_refusal (g.T.TrialDegrees.answers c.args.degrees.now) c.args.max_degree before (map (λ g. g.1) (bus_groups (additive_lookups before))) e (groups_of (additive_lookups before)) (record {
      before = inv.earlier;
      item = members;
      after = later;
      split = sym inv.split ∙ ap (λ t. inv.earlier ++ t) later_is;
      good = (inv.added.0, inv.added.1);
      fault = stuck;
    }) in
    rw (p.1, p.2) (elim c.in_err-append_columns.ensures [
      | inl memory ↦ inl memory
      | inr refused ↦ elim (stuck_bus (g.T.TrialDegrees.keeps c.args.degrees.now) (g.T.TrialDegrees.answers c.args.degrees.now) c.args.max_degree members bus e filled refused) [
        | inl memory ↦ inl memory
        | inr stuck ↦ inr (inr (widths, first stuck))
      ]
    ])

pub returns-clause-packs : goal.returns-clause-packs
returns-clause-packs g c =
    let inv = c.loop-bus.invariant in
    let before = map fields_of c.args.lookups.items in
    let none = nil_from_length (into_iter_items c.loop-bus.bus-iterator) (omega (arith, c.in-None.ensures.steps.0, c.loop-bus.bus-iterator.rest.ok.0)) in
    let no_later = AllZip-none (IsFilled (g.T.TrialDegrees.keeps c.args.degrees.now) (g.T.TrialDegrees.answers c.args.degrees.now) c.args.max_degree) inv.later _ none inv.left in
    let whole = sym (append-nil inv.earlier) ∙ ap (λ t. inv.earlier ++ t) (sym no_later) ∙ inv.split in
    let answers = g.T.TrialDegrees.answers c.args.degrees.now in (
      subst (λ (t : List (Lookup g.row.F.Denot)). HaveBusWidths (map fields_of t)) c.deref.ensures.value c.in_ok-assert_bus_widths.ensures,
      all_packed answers c.args.max_degree before (map (λ g. g.1) (bus_groups (additive_lookups before))) (passing before) _ _ (groups_of (additive_lookups before)) refl
          (subst (λ (t : List (List (Outline (SymbolicExpression g.row.F.Denot)))). AreColumnsAdded answers c.args.max_degree t (passing before) (map fields_of c.loop-bus.columns.items)) whole inv.added)
          c.in_columns.ensures.fields,
    )

pub returns-clause-kept : goal.returns-clause-kept
returns-clause-kept g c =
    let before = c.args.lookups.items in
    let after = c.in_columns.result.items in
    let packs = (returns-clause-packs g c).1 in
    let eq = g.F.PartialEq.eq in
    let answers = g.T.TrialDegrees.answers c.args.degrees.now in
    let most = c.args.max_degree in
    let messages = kept_messages answers most before after packs g.F.PrimeCharacteristicRing.ring eq c.requires.lengths in
    record {
      weight = kept_weight answers most before after packs;
      widths = kept_widths answers most before after packs;
      other_buses_are = kept_other_buses answers most before after packs;
      flags = kept_flags answers most before after packs g.F.PrimeCharacteristicRing.ring eq;
      messages = messages;
      nets = kept_nets g.F.PrimeCharacteristicRing.lawful eq before after messages;
      keys = kept_keys g.F.PrimeCharacteristicRing.lawful eq g.met.F.PrimeCharacteristicRing.eq_is before after messages;
    }
