use Rattle.std.proofs.Common.{◌≡◌, ◌∙◌, ◌++◌, ◌/◌, [], ℕ, List, ap, arith, length, map, subst}
use Rattle.std.proofs.lemmas.List.{length-map, take_all}
use Rattle.std.proofs.lemmas.List.Elements.{All-from_get_or}
use Rattle.field.specs.Residue.{residue_of}
use Rattle.c_tables.specs.internal.Numbers.{AreNumbersUpTo}
use Rattle.c_tables.proofs.GroupLaws.{AreFours, chunk_appended, groups_up_to, quartic_with}
use Rattle.c_tables.proofs.numbers.push_quartics.Goals as goal

pub returns-clause-pushed : goal.returns-clause-pushed
returns-clause-pushed g c =
    let groups = c.args.groups.now in
    let four : AreFours groups = All-from_get_or (λ group. length group ≡ 4) groups [] c.told-groups in
    let values_is : c.deref.result.now ≡ map (residue_of g.row.P g.K.MontyParameters.positive) c.as_flattened.result.now = c.deref.ensures.value ∙ c.in_ok-made.ensures.0 in
    let many : length c.deref.result.now / 4 ≡ length groups = omega (arith, ap length values_is ∙ (length-map c.as_flattened.result.now (residue_of g.row.P g.K.MontyParameters.positive) ∙ c.as_flattened.ensures.len)) in
    chunk_appended g.K.MontyParameters.positive groups c.as_flattened.result.now c.deref.result.now c.as_chunks.result.0.now (length c.deref.result.now / 4) c.args.values.now.items c.loop-four.values.items four c.as_flattened.ensures.value values_is c.as_chunks.ensures.front many
    (c.loop-four.invariant.values ∙ ap (λ xs. c.args.values.now.items ++ map (quartic_with g.K.MontyParameters.positive) xs) (take_all c.loop-four.four-index c.as_chunks.result.0.now c.loop-four-test.false))

pub returns-clause-most : goal.returns-clause-most
returns-clause-most g c =
    let groups = c.args.groups.now in
    let most = c.in_ok-made.made.most in
    groups_up_to most groups (All-from_get_or (λ group. length group ≡ 4) groups [] c.told-groups)
    (subst (λ (ns : List ℕ). AreNumbersUpTo most (length ns) ns) c.as_flattened.ensures.value c.in_ok-made.ensures.1)
