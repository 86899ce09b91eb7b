-- The row of a group: what the map of nets says of its tuples.
use Rattle.std.proofs.Common.{◌≡◌, Bool, List, ℕ, length, map, not, refl, sym, take, ap, ◌∙◌}
use Rattle.std.proofs.lemmas.List.{length-map, take-map}
use Rattle.std.specs.Borrow.{Bor}
use Rattle.std.specs.List.{filter}
use Rattle.list_laws.proofs.Images.{filter_images, map-map}
use Rattle.field.specs.Ring.{Ring}
use Rattle.lookup_debug.specs.BusTable.{TupleEntry, saturated_usize, tuple_entry, tuple_places}
use Rattle.lookup_debug.specs.Contributions.{Contribution}
use Rattle.lookup_debug.specs.Mismatch.{net_amount}
use Rattle.lookup_debug.specs.internal.Nets.{tuple_entries}
use Rattle.lookup_debug.specs.internal.Places.{placed_entry}

module _ {F : Type 0} (R : Ring F) (eq : F → F → Bool) (cs : List (Contribution F)) where
  -- a tuple with its net
  abbrev pub with_net : List F → List F × F
  with_net tuple = (tuple, net_amount R eq cs tuple)

  abbrev pass : F → Bool
  pass net = not (eq net R.zero)

  abbrev view : Bor (List F) × F → List F × F
  view e = (e.0.now, e.1)

  module _ (es : List (Bor (List F) × F)) (tuples : List (List F)) (is : tuple_entries es ≡ map with_net tuples) where
    -- there are as many entries as tuples
    pub entry_count : length es ≡ length tuples
    entry_count = sym (length-map es view) ∙ ap length is ∙ length-map tuples with_net

    -- the entries whose net is not zero
    pub kept_entries : tuple_entries (filter (λ e. pass e.1) es) ≡ map with_net (filter (λ tuple. pass (net_amount R eq cs tuple)) tuples)
    kept_entries =
        sym (filter_images view (λ e. pass e.1) (λ (p : List F × F). pass p.1) (λ e. refl) es)
        ∙ ap (filter (λ (p : List F × F). pass p.1)) is
        ∙ filter_images with_net (λ tuple. pass (net_amount R eq cs tuple)) (λ (p : List F × F). pass p.1) (λ tuple. refl) tuples

    -- the first of the entries, with their places
    module _ (limit : ℕ) where
      abbrev from_pair : List F × F → TupleEntry F
      from_pair p = record {
        tuple = p.0;
        net = p.1;
        place_count = saturated_usize (length (tuple_places R eq cs p.0));
        places = take limit (tuple_places R eq cs p.0);
      }

      pub first_entries : map (placed_entry R eq limit cs) (take limit es) ≡ map (tuple_entry R eq limit cs) (take limit tuples)
      first_entries =
          sym (take-map (placed_entry R eq limit cs) limit es)
          ∙ ap (take limit) (sym (map-map from_pair view es) ∙ ap (map from_pair) is ∙ map-map from_pair with_net tuples)
          ∙ take-map (tuple_entry R eq limit cs) limit tuples
