-- One width for all tuples of a bus.
use Rattle.std.specs.Prelude.{◌≡◌, ℕ, List, [], ◌∷◌, ◌++◌, codes, length, map}
use Rattle.std.specs.List.{AllByRecursion, flat_map}
use Rattle.air_expressions.specs.Faults.{SplitsAtFault}
use Rattle.lookup_model.specs.Outline.{Outline}
use Rattle.lookup_model.specs.declared.error.LookupError.{LookupError}
use Rattle.lookup.specs.Buses.{bus_names, on_bus}
use Rattle.lookup.specs.TupleWidths.{AreUnevenWidths}

-- all widths are the same
abbrev pub HasOneWidth : List ℕ → Type 0
HasOneWidth widths = (width : ℕ) × AllByRecursion (λ w. w ≡ width) widths

-- the bytes of `bus "NAME"`
abbrev pub bus_context : List ℕ → List ℕ
bus_context name = codes "bus " ++ (34 ∷ name ++ 34 ∷ [])

module _ {E : Type 0} where
  -- the widths of the tuples of a lookup
  abbrev pub widths_of : Outline E → List ℕ
  widths_of o = map length o.elements

  -- the widths of all tuples on a bus, those of branches too
  abbrev pub bus_widths : List ℕ → List (Outline E) → List ℕ
  bus_widths name os = flat_map widths_of (on_bus name os)

  -- all tuples on one bus have one width
  abbrev pub HaveBusWidths : List (Outline E) → Type 0
  HaveBusWidths os = AllByRecursion (λ name. HasOneWidth (bus_widths name os)) (bus_names os)

  -- The refusal of the first bus with two widths, by its first width and the first other one.
  abbrev pub IsWidthRefusal : List (Outline E) → LookupError → Type 0
  IsWidthRefusal os e = SplitsAtFault
      (AllByRecursion (λ name. HasOneWidth (bus_widths name os)))
      (λ _ name. AreUnevenWidths (bus_context name) (bus_widths name os) e)
      (bus_names os)
