use Rattle.std.proofs.Common.{take, add-zero, filter, ◌≡◌, ◌+◌, length, not, cond, ap, sym, ◌∙◌, arith}
use Rattle.std.proofs.lemmas.List.{length-map, take_all}
use Rattle.indexmap.specs.IndexMap.{values}
use Rattle.lookup_messages.proofs.NetEntries.{count-more}
use Rattle.std.proofs.lemmas.Option.{get_or_from_slice_get, slice_get_within}
use Rattle.lookup_messages.proofs.counts.nonzero_count.Goals.{then-not-eq, else-not-eq}
use Rattle.lookup_messages.proofs.counts.nonzero_count.Goals as goal

pub loop-index-preserved : goal.loop-index-preserved
loop-index-preserved g c =
    let R = g.F.PrimeCharacteristicRing.ring in
    let p = λ (v : _). not (g.F.PartialEq.eq v R.zero) in
    let vs = values c.args.nets.now in
    let i = c.loop-index.index in
    let v = c.index.result.now in
    let lt = slice_get_within vs i v c.index.ensures in
    let more = count-more p vs i v lt (sym (get_or_from_slice_get vs i v v c.index.ensures)) in
    let test : p v ≡ not c.eq.result = ap not (sym (c.eq.ensures ∙ ap (g.F.PartialEq.eq v) (c.ZERO.ensures ∙ g.met.F.PrimeCharacteristicRing.zero_is))) in
    elim c.if-not-eq.branch [
      | then-not-eq w ↦ record {
        small = omega (arith, w.count-is, c.loop-index.invariant.small);
        counted = w.count-is ∙ ap (λ n. n + 1) c.loop-index.invariant.counted ∙ sym (more ∙ ap (λ b. length (filter p (take i vs)) + cond b 1 0) (test ∙ ap not w.if-not-eq.true));
      }
      | else-not-eq w ↦ record {
        small = omega (arith, w.count-is, c.loop-index.invariant.small);
        counted = w.count-is ∙ c.loop-index.invariant.counted ∙ sym (more ∙ ap (λ b. length (filter p (take i vs)) + cond b 1 0) (test ∙ ap not w.if-not-eq.false) ∙ add-zero _);
      }
    ]

pub returns : goal.returns
returns g c =
    let R = g.F.PrimeCharacteristicRing.ring in
    let vs = values c.args.nets.now in
    c.loop-index.invariant.counted ∙ ap (λ t. length (filter (λ v. not (g.F.PartialEq.eq v R.zero)) t)) (take_all c.loop-index.index vs (omega (arith, c.loop-index-test.false, c.len-index-end.ensures.len, length-map c.args.nets.now.entries (λ e. e.1))))
