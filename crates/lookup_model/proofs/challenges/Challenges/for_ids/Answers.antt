use Rattle.std.proofs.Common.{◌+◌, ◌++◌, ◌∷◌, [], get_or, length, sym, ap, ◌∙◌, arith}
use Rattle.std.proofs.lemmas.List.{take_all}
use Rattle.field.specs.Ring.{of_nat}
use Rattle.lookup_model.specs.Challenges.{bus_table, column_challenges}
use Rattle.lookup_model.proofs.ColumnChallenges.{length-column_challenges, one_more_id}
use Rattle.lookup_model.proofs.Prefixes.{one_more_step}
use Rattle.lookup_model.proofs.challenges.Challenges.for_ids.Goals as goal

pub loop-id-preserved : goal.loop-id-preserved
loop-id-preserved g c =
    let S = g.EF.PrimeCharacteristicRing.ring in
    let met = g.met.EF.PrimeCharacteristicRing in
    let laws = g.EF.PrimeCharacteristicRing.lawful in
    let id = get_or c.args.ids.now c.loop-id.id-index 0 in
    let step = c.positive_power-step.result in
    let multiple = met.mul_is _ _ _ c.mul.ensures ∙ ap (λ n. S.mul n step) c.from_u64.ensures in
    let offset = met.add_is _ _ _ c.add.ensures ∙ ap (λ m. S.add m step) multiple in
    let prefix = met.add_is _ _ _ c.add-in-loop-id.ensures ∙ ap (S.add c.args.alpha) offset ∙ sym (laws.add_assoc c.args.alpha (S.mul (of_nat S id) step) step)
    ∙ one_more_step laws c.args.alpha step id ∙ ap (λ p. S.add c.args.alpha (S.mul (of_nat S (id + 1)) p)) c.positive_power-step.ensures in
    c.in_ok-push-2.ensures.items ∙ ap (λ xs. xs ++ c.args.beta ∷ []) c.in_ok-push.ensures.items
    ∙ one_more_id (bus_table S c.args.max_message_width c.args.beta c.args.alpha) c.args.ids.now c.loop-id.id-index c.loop-id-test.true c.loop-id.challenges.items c.loop-id.invariant c.add-in-loop-id.result prefix

pub returns-clause-challenges : goal.returns-clause-challenges
returns-clause-challenges g c =
    let table = bus_table g.EF.PrimeCharacteristicRing.ring c.args.max_message_width c.args.beta c.args.alpha in
    c.loop-id.invariant ∙ ap (column_challenges table) (take_all c.loop-id.id-index c.args.ids.now (omega arith))

pub returns-clause-len : goal.returns-clause-len
returns-clause-len g c =
    let table = bus_table g.EF.PrimeCharacteristicRing.ring c.args.max_message_width c.args.beta c.args.alpha in
    ap length (c.loop-id.invariant ∙ ap (column_challenges table) (take_all c.loop-id.id-index c.args.ids.now (omega arith))) ∙ length-column_challenges table c.args.ids.now
