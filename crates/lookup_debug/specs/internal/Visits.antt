-- Both passes of the check are walks.
use Rattle.std.specs.Prelude.{◌≡◌, ◌++◌, Bool, List, map, refl, ⊤}
use Rattle.std.specs.Cmp.Lexicographic.{pointwise}
use Rattle.std.proofs.Common.{◌∙◌, ap, append_assoc, subst, sym}
use Rattle.std.proofs.lemmas.List.{append-nil, map-append}
use Rattle.std.proofs.lemmas.List.Elements.{filter-append}
use Rattle.field.specs.Ring.{Ring}
use Rattle.lookup_debug.specs.Contributions.{Contribution, location_of}
use Rattle.lookup_debug.specs.Mismatch.{of_tuple, tuple_locations}
use Rattle.lookup_debug.specs.declared.arena.Contributions.{Contributions}
use Rattle.lookup_debug.specs.internal.Appended.{AppendsLocations, Collects, FindsLocations, without_location}
use Rattle.lookup_debug.specs.internal.Arena.{AreWithin, amounts_in}
use Rattle.lookup_debug.specs.internal.Nets.{amount_nets}
use Rattle.lookup_debug.specs.internal.Walks.{IsWalk}

module _ {F : Type 0} (R : Ring F) (eq : F → F → Bool) where
  -- the nets of a list of contributions are those that the spans have
  abbrev HasNets : Contributions F → List (Contribution F) → Type 0
  HasNets spans cs = amount_nets R eq (amounts_in spans) ≡ amount_nets R eq (map without_location cs)

  -- the first pass, which collects
  pub collects_walk : IsWalk AreWithin (Collects R eq)
  collects_walk = record {
    leaves = λ a b xs done. done.0;
    rests = λ a within. (within, λ cs same. subst (HasNets a) (sym (append-nil cs)) same);
    joins = λ a b c xs ys first then. (
      then.0,
      λ cs same. subst (HasNets c) (append_assoc cs xs ys) (then.1 (cs ++ xs) (first.1 cs same)),
    );
  }

  -- the locations of two lists one after the other
  pub tuple_locations-append : (tuple : List F) (xs ys : List (Contribution F)) → tuple_locations R eq tuple (xs ++ ys) ≡ tuple_locations R eq tuple xs ++ tuple_locations R eq tuple ys
  tuple_locations-append tuple xs ys =
      ap (map (λ (c : Contribution F). c.location)) (filter-append (λ (c : Contribution F). pointwise eq tuple c.tuple) xs ys)
      ∙ map-append (λ (c : Contribution F). c.location) (of_tuple R eq xs tuple) (of_tuple R eq ys tuple)

  -- the second pass, which finds the locations of one tuple
  pub locations_walk : IsWalk (λ _. ⊤) (FindsLocations R eq)
  locations_walk = record {
    leaves = λ a b xs done. tt;
    rests = λ a ready. (refl, sym (append-nil (map location_of a.locations.items)));
    joins = λ a b c xs ys first then.
        let old = map location_of a.locations.items in
        let tuple = a.tuple.now in (
          then.0 ∙ first.0,
          subst (λ t. AppendsLocations R eq t b.locations c.locations ys) first.0 then.1
              ∙ ap (λ ps. ps ++ tuple_locations R eq tuple ys) first.1
              ∙ append_assoc old (tuple_locations R eq tuple xs) (tuple_locations R eq tuple ys)
              ∙ ap (λ ps. old ++ ps) (sym (tuple_locations-append tuple xs ys)),
        );
  }
