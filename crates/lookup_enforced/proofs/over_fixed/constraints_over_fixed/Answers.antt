use Rattle.std.proofs.Common.{map, ap, ◌∙◌, ◌++◌}
use Rattle.std.proofs.lemmas.List.{map-append}
use Rattle.air_expressions.specs.Tree.{tree_of}
use Rattle.lookup_enforced.proofs.FixedLaws.{follow_beside}
use Rattle.lookup_enforced.proofs.over_fixed.constraints_over_fixed.Goals as goal

pub returns-clause-follow : goal.returns-clause-follow
returns-clause-follow g c = follow_beside g.F.PrimeCharacteristicRing.ring c.args.preprocessed.now c.args.constraints.now c.in_ok-all.all.items c.in_ok-further.further.items _ c.in_ok-append.ensures.items c.in_ok-all.ensures c.in_ok-further.ensures

pub returns-clause-front : goal.returns-clause-front
returns-clause-front g c = (
  map tree_of c.in_ok-further.further.items,
  ap (map tree_of) c.in_ok-append.ensures.items
      ∙ (map-append tree_of c.in_ok-all.all.items c.in_ok-further.further.items
      ∙ ap (λ ts. ts ++ map tree_of c.in_ok-further.further.items) c.in_ok-all.ensures),
)
