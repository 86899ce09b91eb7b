use Rattle.std.proofs.Common.{◌≡◌, ◌++◌, codes, string_bytes, map, take}
use Rattle.std.specs.List.{flat_map}
use Rattle.lookup_debug.specs.Contributions.{location_of}
use Rattle.lookup_debug.specs.FaultText.{location_text}
use Rattle.lookup_debug.proofs.fault.push_further_locations.Given as goal

abbrev pub invariant-loop-location : goal.invariant-loop-location
invariant-loop-location l =
    string_bytes l.line ≡ string_bytes l.fn.line ++ flat_map (λ p. codes "; " ++ location_text p) (map location_of (take l.location-index l.locations))
