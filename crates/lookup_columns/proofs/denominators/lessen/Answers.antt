use Rattle.std.proofs.Common.{◌≡◌, ◌<◌, ◌≤◌, ◌≢◌, ◌∷◌, ◌++◌, [], length, map, get_or, sym, ◌∙◌, arith, get_or-set_other}
use Rattle.std.specs.List.{zip}
use Rattle.std.proofs.lemmas.List.{length-set, take_all, take_more_set}
use Rattle.list_laws.proofs.Zips.{length-zipped, zipped_more}
use Rattle.field.specs.Ring.{sub_in}
use Rattle.lookup_columns.proofs.denominators.lessen.Goals as goal

pub loop-i-preserved : goal.loop-i-preserved
loop-i-preserved g c =
    let S = g.EF.PrimeCharacteristicRing.ring in
    let f = λ (p : g.row.EF.Denot × g.row.F.Denot). sub_in S p.0 (S.mul c.args.power (g.EF.ExtensionDomain.embed p.1)) in
    let old = c.args.elements.now in
    let column = c.args.column.now in
    let now = c.loop-i.elements in
    let i = c.loop-i.i in
    let x = c.index-elements-i.result in
    let y = c.index-column-i.result in
    let z = c.minus_scaled.result in
    let so_far = c.loop-i.invariant in
    let below : i < length old = omega (arith, c.loop-i-test.true) in
    let x_is : x ≡ get_or old i x = c.index-elements-i.is ∙ so_far.2 i x (omega arith) in (
      length-set now i z ∙ so_far.0,
      λ same.
          take_more_set now i z (omega (arith, so_far.0, below))
          ∙ (λ k. so_far.1 same k ++ c.minus_scaled.ensures k ∷ [])
          ∙ sym (zipped_more f old column (sym same) i x y below x_is c.index-column-i.is),
      λ j d le.
          let other : j ≢ i = λ e. absurd (omega (arith, le, e)) in
          get_or-set_other now i j z d other ∙ so_far.2 j d (omega (arith, le)),
    )

pub returns : goal.returns
returns g c = λ same.
    let S = g.EF.PrimeCharacteristicRing.ring in
    let f = λ (p : g.row.EF.Denot × g.row.F.Denot). sub_in S p.0 (S.mul c.args.power (g.EF.ExtensionDomain.embed p.1)) in
    let old = c.args.elements.now in
    let column = c.args.column.now in
    let i = c.loop-i.i in
    let so_far = c.loop-i.invariant in
    let end : length old ≤ i = omega (arith, c.loop-i-test.false, same) in
    sym (take_all i c.loop-i.elements (omega (arith, so_far.0, end)))
    ∙ so_far.1 same
    ∙ take_all i (map f (zip old column)) (omega (arith, end, length-zipped f old column (sym same)))
