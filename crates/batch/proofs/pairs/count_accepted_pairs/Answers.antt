use Rattle.std.proofs.Common.{◌+◌, ◌≤◌, ◌*◌, ◌^◌, List, map, take, sym, subst, arith}
use Rattle.std.proofs.lemmas.List.{take_all}
use Rattle.list_laws.proofs.Parts.{flat_next}
use Rattle.field.specs.laws.Extension.{of_laws}
use Rattle.lookup_model.specs.Batches.Instances.{instances_of}
use Rattle.lookup_model.specs.Batches.Grid.{AcceptsPair, IsNumberOf, grid}
use Rattle.lookup_model.proofs.Counting.Numbers.{mapped_number, number_of_both}
use Rattle.batch.proofs.pairs.count_accepted_pairs.Goals as goal

pub overflow_add-accepted : goal.overflow_add-accepted
overflow_add-accepted g c = omega (arith, c.loop-index.invariant.0, c.loop-index-test.true)

pub loop-index-preserved : goal.loop-index-preserved
loop-index-preserved g c =
    let P = AcceptsPair (of_laws g.met.EF.ExtensionField.lawful_fields) (instances_of c.args.instances.now) c.args.max_message_width in
    let alphas = c.args.alphas.now in
    let betas = c.args.betas.now in
    let index = c.loop-index.index in
    let beta = c.index-betas-index.result in
    let longer = flat_next (λ b. map (λ alpha. (alpha, b)) alphas) betas index beta c.loop-index-test.true c.index-betas-index.is in
    let most : c.loop-index.accepted + c.in_ok-accepting.accepting ≤ (index + 1) * 2 ^ 64 = omega (arith, c.loop-index.invariant.0) in (
      most,
      subst (λ (ps : List _). IsNumberOf P ps (c.loop-index.accepted + c.in_ok-accepting.accepting)) (sym longer)
          (number_of_both P (grid alphas (take index betas)) (map (λ alpha. (alpha, beta)) alphas) c.loop-index.accepted c.in_ok-accepting.accepting c.loop-index.invariant.1 (mapped_number (λ alpha. (alpha, beta)) P alphas c.in_ok-accepting.accepting c.in_ok-accepting.ensures)),
    )

pub returns : goal.returns
returns g c =
    let P = AcceptsPair (of_laws g.met.EF.ExtensionField.lawful_fields) (instances_of c.args.instances.now) c.args.max_message_width in
    subst (λ (bs : List _). IsNumberOf P (grid c.args.alphas.now bs) c.loop-index.accepted) (take_all c.loop-index.index c.args.betas.now (omega (arith, c.loop-index-test.false))) c.loop-index.invariant.1
