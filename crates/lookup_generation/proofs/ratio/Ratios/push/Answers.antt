use Rattle.std.proofs.Common.{ap, map, ◌∙◌}
use Rattle.std.proofs.lemmas.List.{map_push}
use Rattle.std.specs.List.{zip}
use Rattle.list_laws.proofs.Zips.{zip_push}
use Rattle.lookup_generation.specs.internal.Fraction.{ratio_of}
use Rattle.lookup_generation.proofs.ratio.Ratios.push.Goals as goal

pub returns-clause-pushed : goal.returns-clause-pushed
returns-clause-pushed g c =
    let ns = c.args.self.now.numerators.items in
    let ds = c.args.self.now.denominators.items in
    (λ i. map ratio_of (zip (c.in_ok-push.ensures.items i) (c.in_ok-push-2.ensures.items i)))
    ∙ ap (map ratio_of) (zip_push ns ds c.args.ratio.numerator c.args.ratio.denominator c.requires)
    ∙ map_push ratio_of (zip ns ds) (c.args.ratio.numerator, c.args.ratio.denominator)
