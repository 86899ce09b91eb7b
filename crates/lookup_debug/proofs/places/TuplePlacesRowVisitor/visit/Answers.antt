use Rattle.std.proofs.Common.{◌∷◌, [], List, arith, subst, sym, take}
use Rattle.std.proofs.lemmas.List.{take_all}
use Rattle.lookup_model.proofs.RecordLaws.{tuple_fits}
use Rattle.lookup_model.specs.Sent.{branches_at, flags_at, values}
use Rattle.lookup_messages.specs.TraceBuilder.{builder_layout, builder_window}
use Rattle.lookup_debug.specs.Contributions.{Contribution, amounts, contributions_from, location_of, nonzero}
use Rattle.lookup_debug.specs.internal.Places.{FindsPlaces, places_walk}
use Rattle.lookup_debug.proofs.AmountLaws.{length-sized, sized_more}
use Rattle.lookup_debug.proofs.places.TuplePlacesRowVisitor.visit.Goals as goal

pub push_branch-requires-clause-fits : goal.push_branch-requires-clause-fits
push_branch-requires-clause-fits g c =
    tuple_fits (builder_layout c.args.builder.now) c.args.lookup.now c.requires.fits c.loop-branch.branch c.index-tuple.result.now _ (omega arith) c.index-tuple.ensures c.deref.ensures.value

pub loop-branch-preserved : goal.loop-branch-preserved
loop-branch-preserved g c =
    let R = g.F.PrimeCharacteristicRing.ring in
    let eq = g.F.PartialEq.eq in
    let w = builder_window c.args.builder.now in
    let lookup = c.args.lookup.now in
    let location = location_of c.args.location in
    let i = c.loop-branch.branch in
    let elements = c.index-tuple.result.now in
    let amount = c.amount_of-amount.result in
    let branches = branches_at R w 0 lookup in
    let front = nonzero R eq (take i (contributions_from location branches (amounts R (flags_at R w lookup) branches))) in
    let before = c.args.self.now in
    let after = c.push_branch.new.self in
    subst (FindsPlaces R eq before after)
    (sym (sized_more R eq location w lookup c.requires.lengths i elements (omega arith) c.index-tuple.ensures amount c.amount_of-amount.ensures))
    ((places_walk R eq).joins before c.loop-branch.self after front (nonzero R eq (record { tuple = values R w elements.items; amount = amount; location = location } ∷ [])) c.loop-branch.invariant
    (subst (λ es. FindsPlaces R eq c.loop-branch.self after (nonzero R eq (record { tuple = values R w es; amount = amount; location = location } ∷ []))) c.deref.ensures.value c.in_ok-push_branch.ensures))

pub returns : goal.returns
returns g c =
    let R = g.F.PrimeCharacteristicRing.ring in
    let eq = g.F.PartialEq.eq in
    let w = builder_window c.args.builder.now in
    let lookup = c.args.lookup.now in
    let location = location_of c.args.location in
    let branches = branches_at R w 0 lookup in
    let all = contributions_from location branches (amounts R (flags_at R w lookup) branches) in
    subst (λ (cs : List (Contribution _)). FindsPlaces R eq c.args.self.now c.loop-branch.self (nonzero R eq cs)) (take_all c.loop-branch.branch all (omega (arith, length-sized R eq location w lookup c.requires.lengths))) c.loop-branch.invariant
