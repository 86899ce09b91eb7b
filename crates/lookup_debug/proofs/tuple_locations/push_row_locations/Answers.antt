use Rattle.std.proofs.Common.{◌≡◌, ◌++◌, ◌+◌, List, arith, ap, map, sym, take, ◌∙◌}
use Rattle.std.proofs.lemmas.List.{append-nil, take_all}
use Rattle.std.specs.Cmp.Lexicographic.{pointwise}
use Rattle.lookup_messages.specs.TraceBuilder.{builder_layout, builder_window}
use Rattle.lookup_model.proofs.RecordLaws.{tuple_fits}
use Rattle.lookup_model.specs.Sent.{branches_at, flags_at, values}
use Rattle.lookup_debug.specs.Contributions.{Contribution, amounts, contributions_from, nonzero, location_of}
use Rattle.lookup_debug.specs.Mismatch.{tuple_locations}
use Rattle.lookup_debug.proofs.AmountLaws.{length-sized, size_there, sized_more}
use Rattle.lookup_debug.proofs.TupleLocationLaws.{other_step, own_step}
use Rattle.lookup_debug.proofs.tuple_locations.push_row_locations.Goals.{else-has_values, then-has_values+in_ok-push_nonzero}
use Rattle.lookup_debug.proofs.tuple_locations.push_row_locations.Goals as goal

pub has_values-requires : goal.has_values-requires
has_values-requires g c =
    tuple_fits (builder_layout c.args.builder.now) c.args.lookup.now c.requires.fits c.loop-branch.branch c.index-elements.result.now _ (omega arith) c.index-elements.ensures c.deref.ensures.value

pub loop-branch-init : goal.loop-branch-init
loop-branch-init g c = sym (append-nil (map location_of c.args.locations.now.items))

pub loop-branch-preserved : goal.loop-branch-preserved
loop-branch-preserved g c =
    let R = g.F.PrimeCharacteristicRing.ring in
    let eq = g.F.PartialEq.eq in
    let w = builder_window c.args.builder.now in
    let lookup = c.args.lookup.now in
    let location = location_of c.args.location in
    let tuple = c.args.tuple.now in
    let i = c.loop-branch.branch in
    let elements = c.index-elements.result.now in
    let branches = branches_at R w 0 lookup in
    let all = contributions_from location branches (amounts R (flags_at R w lookup) branches) in
    let front : List (Contribution _) = nonzero R eq (take i all) in
    let more : List (Contribution _) = nonzero R eq (take (i + 1) all) in
    let here = values R w elements.items in
    let same : pointwise eq tuple here ≡ c.has_values.result = ap (λ es. pointwise eq tuple (values R w es)) (sym c.deref.ensures.value) ∙ sym c.has_values.ensures in
    elim c.if-has_values.branch [
      | then-has_values+in_ok-push_nonzero k ↦
          let amount = k.amount_of-amount.result in
          let this : Contribution _ = record { tuple = here; amount = amount; location = location } in
          own_step R eq tuple this front more (sized_more R eq location w lookup c.requires.lengths i elements (omega arith) c.index-elements.ensures amount k.amount_of-amount.ensures)
          (map location_of c.args.locations.now.items) (map location_of c.loop-branch.locations.items) (map location_of c.if-has_values.locations.items) c.loop-branch.invariant (same ∙ k.if-has_values.true)
          (ap (λ l. map location_of l.items) k.locations-is ∙ k.in_ok-push_nonzero.ensures here)
      | else-has_values k ↦
          let amount = size_there R eq location w lookup c.requires.lengths i (omega arith) in
          let this : Contribution _ = record { tuple = here; amount = amount.0; location = location } in
          other_step R eq tuple this front more (sized_more R eq location w lookup c.requires.lengths i elements (omega arith) c.index-elements.ensures amount.0 amount.1)
          (map location_of c.args.locations.now.items) (map location_of c.loop-branch.locations.items) (map location_of c.if-has_values.locations.items) c.loop-branch.invariant (same ∙ k.if-has_values.false)
          (ap (λ l. map location_of l.items) k.locations-is)
    ]

pub returns : goal.returns
returns g c =
    let R = g.F.PrimeCharacteristicRing.ring in
    let eq = g.F.PartialEq.eq in
    let w = builder_window c.args.builder.now in
    let lookup = c.args.lookup.now in
    let location = location_of c.args.location in
    let branches = branches_at R w 0 lookup in
    let all = contributions_from location branches (amounts R (flags_at R w lookup) branches) in
    c.loop-branch.invariant
    ∙ ap (λ cs. map location_of c.args.locations.now.items ++ tuple_locations R eq c.args.tuple.now (nonzero R eq cs)) (take_all c.loop-branch.branch all (omega (arith, length-sized R eq location w lookup c.requires.lengths)))
