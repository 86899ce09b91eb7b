use Rattle.lookup_model.specs.Outline.{fields_of}
use Rattle.lookup.proofs.ExtractionLaws.{extraction_of_three}
use Rattle.lookup.proofs.extraction.extract_lookups.Goals as goal

pub returns : goal.returns
returns g c =
    let one = c.in_ok-lookups.ensures in
    let two = c.in_ok-lookups-2.ensures in
    let three = c.in_ok-with_exclusives.ensures in
    (extraction_of_three fields_of _ _ _ _ _ _ one.0 two.0 three.0, one.1, three.1)
