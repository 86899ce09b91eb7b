use Rattle.std.proofs.Common.{ℕ, List, ap, arith, inl, inr, map, take_all, subst, ◌∙◌}
use Rattle.std.proofs.lemmas.List.{length-map}
use Rattle.lookup_model.specs.LookupDegree.{greatest}
use Rattle.lookup.specs.NamedWidths.{AgreeOnWidths, seen_widths}
use Rattle.lookup.proofs.NamedWidthLaws.{widest_mismatch, widest_more}
use Rattle.lookup.proofs.bus_widths.widest.Goals as goal

pub returns-then-first-named : goal.returns-then-first-named
returns-then-first-named c =
    elim c.mismatch.ensures [
      | inl memory ↦ inl memory
      | inr is ↦ inr (widest_mismatch c.args.widths.now c.loop-index.index _ c.loop-index-test.true c.loop-index.firsts.entries c.loop-index.firsts.entries c.in_ok-first.first c.loop-index.invariant.held c.in_ok-first.ensures.0 _ c.loop-index.invariant.agree c.if-first-named.true is)
    ]

pub loop-index-preserved : goal.loop-index-preserved
loop-index-preserved c =
    let next = widest_more c.args.widths.now c.loop-index.index _ c.loop-index-test.true c.loop-index.firsts.entries _ c.in_ok-first.first c.loop-index.invariant.held c.in_ok-first.ensures.0 c.loop-index.widest c.max-widest.result c.in_ok-first.ensures.1 c.loop-index.invariant.agree c.if-first-named.false c.loop-index.invariant.greatest_is c.max-widest.ensures in
    record { held = next.0; agree = next.1; greatest_is = next.2 }

pub returns : goal.returns
returns c =
    let all = take_all c.loop-index.index (seen_widths c.args.widths.now) (omega (arith, length-map {B = List ℕ × ℕ} c.args.widths.now (λ w. (w.name.now, w.width)), c.loop-index-test.false)) in (
      subst (λ l. AgreeOnWidths l) all c.loop-index.invariant.agree,
      c.loop-index.invariant.greatest_is ∙ ap (λ l. greatest (map (λ w. w.1) l)) all,
    )
