use Rattle.std.proofs.Common.{below_more, get_or, refl, subst, arith}
use Rattle.std.proofs.lemmas.List.{get_or_read}
use Rattle.list_laws.proofs.Each.{All-at}
use Rattle.lookup_model.specs.declared.types.Lookup.{Lookup}
use Rattle.checker_batches.specs.internal.SameIds.{AgreesWith}
use Rattle.checker_batches.proofs.same_ids.agree.Goals as goal

pub returns-then-not-agrees_with : goal.returns-then-not-agrees_with
returns-then-not-agrees_with g c =
    let Agrees = λ (l : Lookup g.row.F.Denot). AgreesWith c.args.ids.now c.args.other_ids.now c.args.others.now l in
    (λ e. absurd (cc e), λ all. cc (c.agrees_with.ensures.1 (All-at Agrees c.args.lookups.now c.loop-lookup.lookup-index c.lookup-item.result all c.loop-lookup-test.true c.lookup-item.is), c.if-not-agrees_with.true))

pub loop-lookup-preserved : goal.loop-lookup-preserved
loop-lookup-preserved g c = λ k d lt.
    let lookups = c.args.lookups.now in
    let Agrees = λ (l : Lookup g.row.F.Denot). AgreesWith c.args.ids.now c.args.other_ids.now c.args.others.now l in
    below_more (λ j. (e : Lookup g.row.F.Denot) → Agrees (get_or lookups j e)) _ (λ j within e. c.loop-lookup.invariant j e within)
    (λ e. subst Agrees (get_or_read lookups c.loop-lookup.lookup-index c.lookup-item.result c.loop-lookup-test.true c.lookup-item.is e) (c.agrees_with.ensures.0 (cc c.if-not-agrees_with.false))) k lt d

pub returns : goal.returns
returns g c = (λ e k d lt. c.loop-lookup.invariant k d (omega (arith, lt, c.loop-lookup-test.false)), λ all. refl)
