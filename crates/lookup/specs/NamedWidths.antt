-- The widths of the tuples that are sent on buses, over all AIRs.
use Rattle.std.specs.Prelude.{◌≡◌, ◌≢◌, ℕ, List, Option, Some, map}
use Rattle.std.specs.List.{AllByRecursion, flat_map}
use Rattle.std.specs.Map.{lookup}
use Rattle.std.specs.String.{string_bytes}
use Rattle.std.specs.declared.alloc.Global.{Global}
use Rattle.std.specs.declared.string.String.{String}
use Rattle.air_expressions.specs.Faults.{SplitsAtFault}
use Rattle.lookup_model.specs.Outline.{Outline}
use Rattle.lookup_model.specs.declared.error.LookupError.{LookupError}
use Rattle.lookup_model.specs.declared.error.LookupError.TheVariants.{BusWidthMismatch}
use Rattle.lookup.specs.BusWidths.{widths_of}
use Rattle.lookup.specs.Buses.{bus_groups}
use Rattle.lookup_model.specs.Names.{same_name}
use Rattle.lookup.specs.declared.bus_widths.NamedWidth.{NamedWidth}

module _ {E : Type 0} where
  -- the width of each tuple that an AIR sends on a bus, with the name of the bus; bus by bus, in the
  -- order in which the AIR's lookups first name them
  abbrev pub named_widths : List (Outline E) → List (List ℕ × ℕ)
  named_widths os = flat_map (λ g. map (λ w. (g.0, w)) (flat_map widths_of g.1)) (bus_groups os)

  -- those of all AIRs, in order
  abbrev pub all_named_widths : List (List (Outline E)) → List (List ℕ × ℕ)
  all_named_widths airs = flat_map named_widths airs

-- what contracts see of such widths
abbrev pub seen_widths : List NamedWidth → List (List ℕ × ℕ)
seen_widths widths = map (λ w. (w.name.now, w.width)) widths

-- the first width under a name
abbrev pub first_width : List (List ℕ × ℕ) → List ℕ → Option ℕ
first_width widths name = lookup (same_name name) widths

-- each width is the first under its name
abbrev pub AgreeOnWidths : List (List ℕ × ℕ) → Type 0
AgreeOnWidths widths = AllByRecursion (λ w. first_width widths w.0 ≡ Some w.1) widths

-- the refusal of a width on a bus of this name
pub record IsWidthMismatch (name : List ℕ) (expected actual : ℕ) (e : LookupError) : Type 0 where
  pub text : String Global
  pub text_is : string_bytes text ≡ name
  pub error_is : e ≡ BusWidthMismatch text expected actual

-- the refusal of a width that is not the first under its name
pub record DiffersFromFirst (before : List (List ℕ × ℕ)) (named : List ℕ × ℕ) (e : LookupError) : Type 0 where
  pub expected : ℕ
  pub first : first_width before named.0 ≡ Some expected
  pub differs : named.1 ≢ expected
  pub refusal : IsWidthMismatch named.0 expected named.1 e

-- the refusal of the first such width
abbrev pub IsFirstWidthMismatch : List (List ℕ × ℕ) → LookupError → Type 0
IsFirstWidthMismatch widths e = SplitsAtFault AgreeOnWidths (λ before named. DiffersFromFirst before named e) widths
