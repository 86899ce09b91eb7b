-- The locations of one tuple.
use Rattle.std.proofs.Common.{◌≡◌, Bool, true, false, List, [], ◌∷◌, ◌++◌, append_assoc, map, sym, ap, ◌∙◌, arith}
use Rattle.std.proofs.lemmas.List.{append-nil}
use Rattle.std.specs.Cmp.Lexicographic.{pointwise}
use Rattle.field.specs.Ring.{Ring}
use Rattle.lookup_debug.specs.Contributions.{Contribution, SentLocation, nonzero}
use Rattle.lookup_debug.specs.Mismatch.{tuple_locations}
use Rattle.lookup_debug.specs.internal.Visits.{tuple_locations-append}

module _ {F : Type 0} (R : Ring F) (eq : F → F → Bool) (tuple : List F) where
  module _ (c : Contribution F) where
    -- a contribution of the tuple is one of those of it
    pub tuple_locations-own : pointwise eq tuple c.tuple ≡ true → tuple_locations R eq tuple (nonzero R eq (c ∷ [])) ≡ map (λ d. d.location) (nonzero R eq (c ∷ []))
    tuple_locations-own is = grind (arith, is)

    -- and one of another tuple is not
    pub tuple_locations-other : pointwise eq tuple c.tuple ≡ false → tuple_locations R eq tuple (nonzero R eq (c ∷ [])) ≡ []
    tuple_locations-other is = grind (arith, is)

    -- the locations with one more contribution, which has the tuple or another one
    module _ (front more : List (Contribution F)) (more_is : more ≡ front ++ nonzero R eq (c ∷ [])) (old now after : List SentLocation) (so_far : now ≡ old ++ tuple_locations R eq tuple front) where
      pub own_step : pointwise eq tuple c.tuple ≡ true → after ≡ now ++ map (λ d. d.location) (nonzero R eq (c ∷ [])) → after ≡ old ++ tuple_locations R eq tuple more
      own_step is this =
          this
          ∙ (λ k. so_far k ++ sym (tuple_locations-own is) k)
          ∙ append_assoc old (tuple_locations R eq tuple front) (tuple_locations R eq tuple (nonzero R eq (c ∷ [])))
          ∙ ap (λ t. old ++ t) (sym (ap (tuple_locations R eq tuple) more_is ∙ tuple_locations-append R eq tuple front (nonzero R eq (c ∷ []))))

      pub other_step : pointwise eq tuple c.tuple ≡ false → after ≡ now → after ≡ old ++ tuple_locations R eq tuple more
      other_step is this =
          this
          ∙ so_far
          ∙ ap (λ t. old ++ t) (sym (ap (tuple_locations R eq tuple) more_is ∙ tuple_locations-append R eq tuple front (nonzero R eq (c ∷ [])) ∙ ap (λ t. tuple_locations R eq tuple front ++ t) (tuple_locations-other is) ∙ append-nil (tuple_locations R eq tuple front)))
