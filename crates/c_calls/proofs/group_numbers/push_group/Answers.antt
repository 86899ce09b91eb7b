use Rattle.std.proofs.Common.{◌≡◌, ◌++◌, ◌∙◌, ◌∷◌, [], ap, arith, length}
use Rattle.std.specs.List.{flat_map}
use Rattle.c_calls.specs.GroupNumbers.{name_numbers, tuple_numbers}
use Rattle.c_calls.proofs.WrittenLaws.{appended_twice}
use Rattle.c_calls.proofs.group_numbers.push_group.Goals as goal

pub returns : goal.returns
returns g c =
    let group = c.args.group.now in
    let tuples = flat_map tuple_numbers group.first.items in
    let listed : c.len-listed.result ≡ length group.first.items = omega (arith, c.len-listed.ensures, group.first.ok.0) in
    appended_twice _ (name_numbers group.name) (group.sent ∷ group.received ∷ group.distinct ∷ group.unbalanced ∷ length group.first.items ∷ tuples) _ _
    c.in_ok-push_name.ensures
    (appended_twice _ (group.sent ∷ group.received ∷ group.distinct ∷ group.unbalanced ∷ length group.first.items ∷ []) tuples _ _
    (c.in_ok-extend_from_slice.ensures.items ∙ ap (λ n. c.push_name.new.numbers.items ++ (group.sent ∷ group.received ∷ group.distinct ∷ group.unbalanced ∷ n ∷ [])) listed)
    (c.in_ok-push_tuples.ensures ∙ ap (λ ts. c.extend_from_slice.new.self.items ++ flat_map tuple_numbers ts) c.deref.ensures.value))
