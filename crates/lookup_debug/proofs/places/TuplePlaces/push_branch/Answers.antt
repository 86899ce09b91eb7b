use Rattle.std.proofs.Common.{◌≡◌, ◌<◌, ◌++◌, ◌∷◌, [], Bool, List, Some, ap, arith, cond, false, is_some, length, length-set, map, not, position, refl, slice_get, subst, sym, ◌∙◌}
use Rattle.std.proofs.lemmas.Option.{slice_get_read}
use Rattle.std.specs.Borrow.{Bor}
use Rattle.std.specs.Cmp.Lexicographic.{pointwise}
use Rattle.std.specs.Map.{lookup}
use Rattle.std.specs.Vec.{with_item}
use Rattle.lookup_model.specs.Sent.{values}
use Rattle.lookup_messages.specs.TraceBuilder.{builder_window}
use Rattle.lookup_debug.specs.Contributions.{Contribution, location_of}
use Rattle.lookup_debug.specs.declared.places.TuplePlaces.{TuplePlaces}
use Rattle.lookup_debug.specs.internal.Places.{FindsPlaces}
use Rattle.lookup_debug.proofs.PlaceLaws.{listed_step, unlisted_step}
use Rattle.lookup_debug.proofs.places.TuplePlaces.push_branch.Goals as goal

pub returns-in_ok-push : goal.returns-in_ok-push
returns-in_ok-push g c =
    let R = g.F.PrimeCharacteristicRing.ring in
    let eq = g.F.PartialEq.eq in
    let eq_is = g.met.F.PrimeCharacteristicRing.eq_is in
    let before = c.args.self.now in
    let us = before.tuples.items in
    let es = before.listed.entries in
    let i = c.in-Some.index in
    let now = c.push.new.self in
    let u = c.index_mut.result.now in
    let here = values R (builder_window c.args.builder.now) c.args.tuple.now in
    let this : Contribution _ = record { tuple = here; amount = c.args.amount; location = location_of c.args.location } in
    let counts : eq c.args.amount R.zero ≡ false = ap (eq c.args.amount) (sym (c.ZERO.ensures ∙ g.met.F.PrimeCharacteristicRing.zero_is)) ∙ (sym c.eq.ensures ∙ c.if-eq.false) in
    let made : c.as_slice.result.now ≡ here = c.as_slice.ensures.value ∙ c.in_ok-push_tuple.ensures ∙ ap (λ t. t ++ here) c.clear.ensures.items in
    let found : position (λ (k : Bor (List _)). pointwise eq here k.now) (map (λ e. e.0) es) ≡ Some i =
    subst (λ t. position (λ (k : Bor (List _)). pointwise eq t k.now) (map (λ e. e.0) es) ≡ Some i) made (sym c.in-Some.ensures.index) in
    let within : i < length us = omega (arith, c.in-Some.ensures.within, c.requires.entries) in
    let there : slice_get us i ≡ Some u = slice_get_read us (length us) i u refl within c.index_mut.ensures.value in
    let after : TuplePlaces _ = record {
      listed = before.listed;
      tuples = with_item before.tuples i now;
      limit = before.limit;
      scratch = c.push_tuple.new.elements;
    } in
    subst (λ (b : Bool). FindsPlaces R eq before after (cond (not b) (this ∷ []) [])) (sym counts) (record {
      entries = length-set us i now ∙ c.requires.entries;
      listed = refl;
      limit = refl;
      places = λ cs has. listed_step R eq eq_is before.limit cs this es us has c.in-Some.ensures.unique i found u now there c.in_ok-push.ensures.tuple c.in_ok-push.ensures.net (λ places kept. c.in_ok-push.ensures.place places kept);
    })

pub returns-in_default : goal.returns-in_default
returns-in_default g c =
    let R = g.F.PrimeCharacteristicRing.ring in
    let eq = g.F.PartialEq.eq in
    let before = c.args.self.now in
    let es = before.listed.entries in
    let here = values R (builder_window c.args.builder.now) c.args.tuple.now in
    let this : Contribution _ = record { tuple = here; amount = c.args.amount; location = location_of c.args.location } in
    let counts : eq c.args.amount R.zero ≡ false = ap (eq c.args.amount) (sym (c.ZERO.ensures ∙ g.met.F.PrimeCharacteristicRing.zero_is)) ∙ (sym c.eq.ensures ∙ c.if-eq.false) in
    let made : c.as_slice.result.now ≡ here = c.as_slice.ensures.value ∙ c.in_ok-push_tuple.ensures ∙ ap (λ t. t ++ here) c.clear.ensures.items in
    let none : is_some (lookup (λ (k : Bor (List _)). pointwise eq here k.now) es) ≡ false =
    subst (λ t. is_some (lookup (λ (k : Bor (List _)). pointwise eq t k.now) es) ≡ false) made (sym c.in_default.ensures.found) in
    let after : TuplePlaces _ = record {
      listed = before.listed;
      tuples = before.tuples;
      limit = before.limit;
      scratch = c.push_tuple.new.elements;
    } in
    subst (λ (b : Bool). FindsPlaces R eq before after (cond (not b) (this ∷ []) [])) (sym counts) (record {
      entries = c.requires.entries;
      listed = refl;
      limit = refl;
      places = λ cs has. unlisted_step R eq g.met.F.PrimeCharacteristicRing.eq_is before.limit cs this es before.tuples.items has none;
    })
