use Rattle.std.proofs.Common.{◌≡◌, ◌++◌, ◌∙◌, ◌∷◌, [], ap, arith, length, map}
use Rattle.std.specs.List.{flat_map}
use Rattle.c_calls.specs.GroupNumbers.{element_number, place_numbers}
use Rattle.c_calls.proofs.WrittenLaws.{appended_twice}
use Rattle.c_calls.proofs.group_numbers.push_tuple.Goals as goal

pub returns : goal.returns
returns g c =
    let u = c.args.unbalanced.now in
    let elements = map element_number u.tuple.items in
    let places = flat_map place_numbers u.places.items in
    let long : c.len.result ≡ length u.tuple.items = omega (arith, c.len.ensures, u.tuple.ok.0) in
    let listed : c.len-listed.result ≡ length u.places.items = omega (arith, c.len-listed.ensures, u.places.ok.0) in
    appended_twice _ (length u.tuple.items ∷ elements) (element_number u.net ∷ u.place_count ∷ length u.places.items ∷ places) _ _
    (appended_twice _ (length u.tuple.items ∷ []) elements _ _ (c.in_ok-push.ensures.items ∙ ap (λ n. c.args.numbers.now.items ++ n ∷ []) long) (c.in_ok-push_elements.ensures ∙ ap (λ es. c.push.new.self.items ++ map element_number es) c.deref.ensures.value))
    (appended_twice _ (element_number u.net ∷ u.place_count ∷ length u.places.items ∷ []) places _ _
    (c.in_ok-extend_from_slice.ensures.items ∙ (λ k. c.push_elements.new.numbers.items ++ (c.as_canonical_u32-net.ensures.value k ∷ u.place_count ∷ listed k ∷ [])))
    (c.in_ok-push_places.ensures ∙ ap (λ ps. c.extend_from_slice.new.self.items ++ flat_map place_numbers ps) c.deref-2.ensures.value))
