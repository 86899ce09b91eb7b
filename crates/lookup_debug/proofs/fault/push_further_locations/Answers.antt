use Rattle.std.proofs.Common.{codes, refl}
use Rattle.lookup_debug.specs.Contributions.{location_of}
use Rattle.lookup_debug.specs.FaultText.{location_text}
use Rattle.lookup_debug.proofs.TextLaws.{one_more_part}
use Rattle.lookup_debug.proofs.fault.push_further_locations.Goals as goal

pub loop-location-preserved : goal.loop-location-preserved
loop-location-preserved c =
    one_more_part location_text location_of (codes "; ") c.args.locations.now c.loop-location.location-index _ (record { instance = 0; lookup = 0; row = 0 }) _ _ _ _ c.loop-location-test.true refl
    c.loop-location.invariant c.in_ok-push_str.ensures.bytes c.in_ok-push_location.ensures
