use Rattle.std.proofs.lemmas.Result.{MatchResult-weaker}
use Rattle.batch.proofs.PlanCalls.{have_prefixes}
use Rattle.batch.proofs.pairs.accepts_pair.Goals as goal

pub some_witness-requires : goal.some_witness-requires
some_witness-requires g c =
    (c.requires.fit, have_prefixes g.EF.PrimeCharacteristicRing.ring c.args.max_message_width c.args.num_ids c.args.alpha c.args.beta c.in_ok-challenges.challenges c.args.instances.now c.in_ok-challenges.ensures.prefixes c.requires.ids)

pub returns : goal.returns
returns g c =
    let a = c.args in
    let challenges = c.in_ok-challenges.challenges in
    let made = c.in_ok-challenges.ensures in
    let have = have_prefixes g.EF.PrimeCharacteristicRing.ring a.max_message_width a.num_ids a.alpha a.beta challenges a.instances.now made.prefixes c.requires.ids in
    let same = c.accepted_is_accepting.ensures.values a.max_message_width a.num_ids a.alpha a.beta challenges a.instances.now (made.beta, made.prefixes) have in
    MatchResult-weaker c.some_witness.result c.some_witness.ensures
    (λ found says. ((λ held. same.0 (says.0 held)), (λ has. says.1 (same.1 has))))
    (λ e is. is)
