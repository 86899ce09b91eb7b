use Rattle.std.proofs.Common.{◌≡◌, length, take, ◌++◌, ◌∷◌, [], true, false, ap, sym, ◌∙◌, arith}
use Rattle.std.proofs.lemmas.List.{append-nil, length-take, take_all}
use Rattle.list_laws.proofs.Items.{take_item}
use Rattle.lookup_model.specs.Fault.{set_indices}
use Rattle.lookup_model.proofs.Lookups.Selections.{indices-more}
use Rattle.lookup_generation_tests.proofs.plain.indices_of_set.Goals.{then-eq+in_ok-push, else-eq}
use Rattle.lookup_generation_tests.proofs.plain.indices_of_set.Goals as goal

pub loop-index-preserved : goal.loop-index-preserved
loop-index-preserved g c =
    let R = g.F.PrimeCharacteristicRing.ring in
    let eq = g.F.PartialEq.eq in
    let flags = c.args.flags.now in
    let i = c.loop-index.index in
    let flag = c.index-flags-index.result in
    let front = take i flags in
    let at : length front ≡ i = omega (arith, length-take i flags, c.loop-index-test.true) in
    let longer = ap (set_indices R eq 0) (take_item flags i flag c.loop-index-test.true c.index-flags-index.is) in
    let test = c.eq.ensures ∙ ap (eq flag) (c.ONE.ensures ∙ g.met.F.PrimeCharacteristicRing.one_is) in
    elim c.if-eq.branch [
      | then-eq+in_ok-push w ↦
          ap (λ v. v.items) w.indices-is ∙ w.in_ok-push.ensures.items ∙ (λ k. c.loop-index.invariant k ++ sym at k ∷ [])
          ∙ sym (longer ∙ indices-more (λ f. eq f R.one) front flag true (sym test ∙ w.if-eq.true))
      | else-eq w ↦
          ap (λ v. v.items) w.indices-is ∙ c.loop-index.invariant ∙ sym (append-nil (set_indices R eq 0 front))
          ∙ sym (longer ∙ indices-more (λ f. eq f R.one) front flag false (sym test ∙ w.if-eq.false))
    ]

pub returns : goal.returns
returns g c =
    let flags = c.args.flags.now in
    c.loop-index.invariant ∙ ap (set_indices g.F.PrimeCharacteristicRing.ring g.F.PartialEq.eq 0) (take_all c.loop-index.index flags (omega (arith, c.loop-index-test.false)))
