-- What is shown of a lookup on some rows.
use Rattle.std.specs.Prelude.{◌≡◌, ◌⊎◌, Bool, IsNone, IsTrue, IfSome, List, [], ◌∷◌, is_none}
use Rattle.std.specs.List.{AllZip}
use Rattle.air_constraints.specs.Facts.{AreSo}
use Rattle.air_constraints.specs.Kinds.{IsOfKind}
use Rattle.air_constraints.specs.declared.facts.Facts.{Facts}
use Rattle.air_constraints.specs.declared.kind.RowKind.{RowKind}
use Rattle.air_expressions.specs.Window.{Window}
use Rattle.field.specs.Ring.{Ring}
use Rattle.air_constraints.specs.Bounds.{IsWithin}
use Rattle.lookup_enforced.specs.declared.enforcement.Enforcement.{Enforcement}
use Rattle.lookup_enforced.specs.declared.rows.RowFacts.{RowFacts}
use Rattle.lookup_model.specs.Fault.{IsLawfulSelection}
use Rattle.lookup_model.specs.Sent.{value, values}
use Rattle.lookup_model.specs.declared.types.Lookup.{Lookup}

module _ {F : Type 0} (R : Ring F) where
  -- a row of a kind on which all that is known is so
  abbrev pub KnownRows : RowKind → Facts F → Window F → Type 0
  KnownRows kind facts w = IsOfKind kind w × AreSo R w facts

  -- a row of one of the kinds, on which all that is known of that kind is so
  abbrev pub IsAnyOf : List (RowFacts F) → Window F → Type 0
  IsAnyOf [] w = ⊥
  IsAnyOf (row ∷ rows) w = KnownRows row.kind row.facts w ⊎ IsAnyOf rows w

  -- What is said of a lookup is so on these rows.
  pub record IsShownOn (eq : F → F → Bool) (Rows : Window F → Type 0) (lookup : Lookup F) (e : Enforcement) : Type 0 where
    pub flags : IsTrue e.flags → IfSome lookup.flags (λ flags. (w : Window F) → Rows w → IsLawfulSelection R eq (values R w flags.items))
    pub missing : e.flags ≡ is_none e.missing
    pub plain : IsNone lookup.flags → IsTrue e.flags
    pub bounds : AllZip (λ m b. IfSome b (λ n. (w : Window F) → Rows w → IsWithin R n (value R w m))) lookup.multiplicities.items e.bounds.items
