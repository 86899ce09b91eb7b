use Rattle.c_calls.proofs.ConstraintLaws.{answered_all, answered_more}
use Rattle.c_calls.proofs.enforced.answers_of.Goals as goal

pub loop-index-preserved : goal.loop-index-preserved
loop-index-preserved g c =
    answered_more g.F.PrimeCharacteristicRing.ring g.F.PartialEq.eq c.args.queries.now c.args.records.now c.args.lookups.now c.args.shown.now c.requires.records c.requires.shown
    c.loop-index.index _ c.index-lookups-index.result c.index-shown-index.result c.loop-index.answers.items _ c.answer_for.result c.loop-index-test.true
    c.index-lookups-index.is c.index-shown-index.is c.in_ok-push.ensures.items c.answer_for.ensures c.loop-index.invariant

pub returns : goal.returns
returns g c =
    answered_all g.F.PrimeCharacteristicRing.ring g.F.PartialEq.eq c.args.queries.now c.args.records.now c.args.lookups.now c.args.shown.now c.requires.records c.requires.shown
    c.loop-index.index c.loop-index.answers.items c.loop-index-test.false c.loop-index.invariant
