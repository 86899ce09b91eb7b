use Rattle.std.proofs.Common.{◌≡◌, ◌++◌, [], ◌∷◌, List, cond, map, not, true, false, ap, sym, ◌∙◌}
use Rattle.std.proofs.lemmas.List.{append-nil, map-append}
use Rattle.lookup_debug.specs.Contributions.{Contribution, location_of}
use Rattle.lookup_debug.proofs.tuple_locations.push_nonzero.Goals as goal

pub returns-then-eq : goal.returns-then-eq
returns-then-eq g c tuple =
    let R = g.F.PrimeCharacteristicRing.ring in
    let eq = g.F.PartialEq.eq in
    let one : List (Contribution _) = record { tuple = tuple; amount = c.args.amount; location = location_of c.args.location } ∷ [] in
    let old = map location_of c.args.locations.now.items in
    let none : eq c.args.amount R.zero ≡ true = ap (eq c.args.amount) (sym (c.ZERO.ensures ∙ g.met.F.PrimeCharacteristicRing.zero_is)) ∙ (sym c.eq.ensures ∙ c.if-eq.true) in
    sym (append-nil old) ∙ ap (λ b. old ++ map (λ d. d.location) (cond (not b) one [])) (sym none)

pub returns : goal.returns
returns g c tuple =
    let R = g.F.PrimeCharacteristicRing.ring in
    let eq = g.F.PartialEq.eq in
    let one : List (Contribution _) = record { tuple = tuple; amount = c.args.amount; location = location_of c.args.location } ∷ [] in
    let old = c.args.locations.now.items in
    let counts : eq c.args.amount R.zero ≡ false = ap (eq c.args.amount) (sym (c.ZERO.ensures ∙ g.met.F.PrimeCharacteristicRing.zero_is)) ∙ (sym c.eq.ensures ∙ c.if-eq.false) in
    ap (map location_of) c.in_ok-push.ensures.items
    ∙ map-append location_of old (c.args.location ∷ [])
    ∙ ap (λ b. map location_of old ++ map (λ d. d.location) (cond (not b) one [])) (sym counts)
