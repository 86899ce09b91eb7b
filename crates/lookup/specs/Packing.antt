-- Packing: the lookups of each bus in as few columns as a greedy filling takes.
use Rattle.std.specs.Prelude.{◌≡◌, ◌<◌, ◌≤◌, ◌+◌, ◌⊎◌, ◌&&◌, ℕ, Bool, not, List, [], ◌∷◌, ◌++◌, map, Result, Ok, Err, MatchResult}
use Rattle.std.specs.List.{AllZip, enumerate_from, filter, flat_map, sum_by}
use Rattle.std.specs.Option.{is_some}
use Rattle.air_expressions.specs.Faults.{SplitsAtFault}
use Rattle.lookup_model.specs.Outline.{Outline}
use Rattle.lookup_model.specs.Weight.{weight_bound}
use Rattle.lookup_model.specs.declared.error.LookupError.{LookupError}
use Rattle.lookup_model.specs.declared.error.LookupError.TheVariants.{Memory, CountWeightOverflow}
use Rattle.lookup.specs.Buses.{bus_names, on_bus}
use Rattle.lookup.specs.BusWidths.{HaveBusWidths, IsWidthRefusal}
use Rattle.lookup.specs.Cuts.{AreGreedy, IsGreedyCut, part_items}

module _ {E : Type 0} where
  -- whether a lookup is sent on a bus and has no flags
  abbrev pub is_additive : Outline E → Bool
  is_additive o = is_some o.bus && not (is_some o.flags)

  -- the lookups that may be joined, and those that pass through: local ones and those with flags
  abbrev pub additive_lookups : List (Outline E) → List (Outline E)
  additive_lookups os = filter is_additive os

  abbrev pub passing : List (Outline E) → List (Outline E)
  passing os = filter (λ o. not (is_additive o)) os

  -- the lookup that a part makes: the tuples of all members, and the sum of their weights
  abbrev pub joined_lookup : Outline E × List (Outline E) → Outline E
  joined_lookup part = record part.0 {
    elements = flat_map (λ o. o.elements) (part_items part);
    multiplicities = flat_map (λ o. o.multiplicities) (part_items part);
    count_weight = sum_by (λ o. o.count_weight) (part_items part);
  }

  -- The trial of a lookup with a further one: the tuples of both, in the column and with the weight
  -- of the first alone.
  abbrev pub trial : Outline E → Outline E → Outline E
  trial open_column next = record open_column {
    elements = open_column.elements ++ next.elements;
    multiplicities = open_column.multiplicities ++ next.multiplicities;
  }

  -- the lookups in the columns from n upwards
  abbrev pub numbered_from : ℕ → List (Outline E) → List (Outline E)
  numbered_from n os = map (λ p. record p.1 { column = p.0 }) (enumerate_from n os)

  -- the lookups in the columns 0, 1, 2, …
  abbrev pub numbered_lookups : List (Outline E) → List (Outline E)
  numbered_lookups os = numbered_from 0 os

  -- what a closure answers to a lookup: a degree, or a refusal
  module _ (answers : Outline E → Result ℕ LookupError → Type 0) (max_degree : ℕ) where
    -- an answer to the trial of a part with a further lookup is within the degree, or above it
    abbrev pub IsWithinDegree : Outline E × List (Outline E) → Outline E → Type 0
    IsWithinDegree part next = (n : ℕ) × answers (trial (joined_lookup part) next) (Ok n) × (n ≤ max_degree)

    abbrev pub IsAbove : Outline E × List (Outline E) → Outline E → Type 0
    IsAbove part next = (n : ℕ) × answers (trial (joined_lookup part) next) (Ok n) × (max_degree < n)

    -- A lookup joins a part: the trial is within the degree, and the weights have a sum that fits.
    abbrev pub Joins : Outline E × List (Outline E) → Outline E → Type 0
    Joins part next = IsWithinDegree part next × ((joined_lookup part).count_weight + next.count_weight < weight_bound)

    -- A greedy cut of the lookups of one bus, by the answers to its trials.
    abbrev pub IsFilling : List (Outline E × List (Outline E)) → List (Outline E) → Type 0
    IsFilling parts members = IsGreedyCut Joins IsAbove parts members

    -- The greedy filling of these lookups comes to a part and a lookup whose trial is refused: by
    -- the closure, or since it is within the degree and the weights have no sum that fits.
    pub record IsStuck (members : List (Outline E)) (e : LookupError) : Type 0 where
      pub closed : List (Outline E × List (Outline E))
      pub part : Outline E × List (Outline E)
      pub next : Outline E
      pub rest : List (Outline E)
      pub members_are : members ≡ flat_map part_items (closed ++ part ∷ []) ++ next ∷ rest
      pub greedy : AreGreedy Joins IsAbove (closed ++ part ∷ [])
      pub refusal : answers (trial (joined_lookup part) next) (Err e)
          ⊎ ((e ≡ CountWeightOverflow) × IsWithinDegree part next × (weight_bound ≤ (joined_lookup part).count_weight + next.count_weight))

    -- each bus has its greedy cut
    abbrev pub AreFilled : List (Outline E) → List (List ℕ) → List (List (Outline E × List (Outline E))) → Type 0
    AreFilled os names cuts = AllZip (λ name cut. IsFilling cut (on_bus name os)) names cuts

    -- A packing: what passes through, then the parts of each bus in turn, each joined, in the columns
    -- 0, 1, 2, …
    pub record IsPacking (before after : List (Outline E)) : Type 0 where
      pub cuts : List (List (Outline E × List (Outline E)))
      pub filled : AreFilled (additive_lookups before) (bus_names (additive_lookups before)) cuts
      pub columns : after ≡ numbered_lookups (passing before ++ flat_map (λ cut. map joined_lookup cut) cuts)

    -- The refusal of the first bus whose filling is refused.
    abbrev pub IsFillRefusal : List (Outline E) → LookupError → Type 0
    IsFillRefusal before e = SplitsAtFault
        (λ earlier. (cuts : List (List (Outline E × List (Outline E)))) × AreFilled (additive_lookups before) earlier cuts)
        (λ _ name. IsStuck (on_bus name (additive_lookups before)) e)
        (bus_names (additive_lookups before))

    -- The answer of packing, memory aside: where a bus has two widths, the refusal of the first such
    -- bus; else a packing, or the first refusal of a filling.
    abbrev pub Packs : {S : Type 0} → (S → List (Outline E)) → List (Outline E) → Result S LookupError → Type 0
    Packs seen before result = MatchResult result
        (λ set. HaveBusWidths before × IsPacking before (seen set))
        (λ e. (e ≡ Memory) ⊎ (IsWidthRefusal before e ⊎ (HaveBusWidths before × IsFillRefusal before e)))
