use Rattle.list_laws.proofs.Zips.{AllZip-more_right}
use Rattle.lookup_columns.specs.LookupSteps.{AreLookupSteps}
use Rattle.lookup_columns.proofs.lookup_steps.steps_of_lookups.Goals as goal

pub loop-lookup-preserved : goal.loop-lookup-preserved
loop-lookup-preserved g c =
    AllZip-more_right AreLookupSteps _ _ c.args.lookups.now c.loop-lookup.lookup-index _ _ c.loop-lookup-test.true c.lookup-item.is c.in_ok-push.ensures.items c.in_ok-steps_of_lookup.ensures c.loop-lookup.invariant
