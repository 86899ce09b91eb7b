use Rattle.std.proofs.Common.{List, arith, subst}
use Rattle.std.proofs.lemmas.List.{take_all}
use Rattle.lookup_messages.specs.TraceBuilder.{builder_layout, builder_window}
use Rattle.lookup_model.proofs.RecordLaws.{tuple_fits}
use Rattle.lookup_model.specs.Sent.{branches_at, flags_at}
use Rattle.lookup_debug.specs.Contributions.{Contribution, amounts, contributions_from, nonzero}
use Rattle.lookup_debug.specs.internal.Appended.{Appends}
use Rattle.lookup_debug.proofs.AmountLaws.{length-sized, sized_step}
use Rattle.lookup_debug.proofs.SpanLaws.{appends-none}
use Rattle.lookup_debug.proofs.contributions.push_on_row.Goals as goal

pub push_branch-requires-clause-fits : goal.push_branch-requires-clause-fits
push_branch-requires-clause-fits g c =
    tuple_fits (builder_layout c.args.builder.now) c.args.lookup.now c.requires.fits c.loop-branch.branch c.index-tuple.result.now _ (omega arith) c.index-tuple.ensures c.deref.ensures.value

pub push_branch-requires-clause-within : goal.push_branch-requires-clause-within
push_branch-requires-clause-within g c = (c.loop-branch.invariant (record { instance = 0; lookup = 0; row = 0 })).0

pub loop-branch-init : goal.loop-branch-init
loop-branch-init g c location = appends-none c.args.contributions.now c.requires.within

pub loop-branch-preserved : goal.loop-branch-preserved
loop-branch-preserved g c location =
    sized_step g.F.PrimeCharacteristicRing.ring g.F.PartialEq.eq location (builder_window c.args.builder.now) c.args.lookup.now c.requires.lengths c.loop-branch.branch c.index-tuple.result.now (omega arith) c.index-tuple.ensures
    c.amount_of-amount.result c.amount_of-amount.ensures
    c.args.contributions.now c.loop-branch.contributions c.push_branch.new.contributions c.deref.result.now c.deref.ensures.value (c.loop-branch.invariant location) (c.in_ok-push_branch.ensures location)

pub returns : goal.returns
returns g c location =
    let R = g.F.PrimeCharacteristicRing.ring in
    let eq = g.F.PartialEq.eq in
    let w = builder_window c.args.builder.now in
    let lookup = c.args.lookup.now in
    let branches = branches_at R w 0 lookup in
    let all = contributions_from location branches (amounts R (flags_at R w lookup) branches) in
    subst (λ (cs : List (Contribution _)). Appends c.args.contributions.now c.loop-branch.contributions (nonzero R eq cs)) (take_all c.loop-branch.branch all (omega (arith, length-sized R eq location w lookup c.requires.lengths))) (c.loop-branch.invariant location)
