use Rattle.std.proofs.Common.{◌∙◌, ap, map, sym}
use Rattle.std.proofs.lemmas.List.{take_all}
use Rattle.std.proofs.lemmas.Simd.{map-map}
use Rattle.language.specs.Items.{Part, group_part_of}
use Rattle.check_judge.specs.Counts.{count_of}
use Rattle.check_judge.proofs.counts.counts_of_parts.Goals as goal

pub returns : goal.returns
returns c =
    let parts = c.args.parts.now in
    c.loop-part.invariant ∙ (ap (map (λ p. count_of (group_part_of p).message)) (take_all c.loop-part.part-index parts c.loop-part-test.false) ∙ sym (map-map (λ (p : Part). count_of p.message) group_part_of parts))
