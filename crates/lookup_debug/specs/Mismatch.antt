-- The first mismatch.
use Rattle.std.specs.Prelude.{◌≡◌, ◌≢◌, ◌⊎◌, ℕ, Bool, true, false, List, [], ◌∷◌, Some, map, slice_get}
use Rattle.std.specs.Cmp.Lexicographic.{pointwise, slice_cmp}
use Rattle.std.specs.List.{filter}
use Rattle.std.specs.Ordering.{nat_cmp}
use Rattle.std.specs.String.{string_bytes}
use Rattle.std.specs.declared.alloc.Global.{Global}
use Rattle.std.specs.declared.cmp.Ordering.{Ordering}
use Rattle.std.specs.declared.cmp.Ordering.TheVariants.{Less, Equal}
use Rattle.std.specs.declared.string.String.{String}
use Rattle.std.specs.declared.vec.Vec.{Vec}
use Rattle.air_expressions.specs.Faults.{HasFirstFault}
use Rattle.field.specs.Ring.{Ring}
use Rattle.field.specs.Sums.{sum_in}
use Rattle.lookup_debug.specs.Contributions.{Contribution, SentLocation, Traced, location_of}
use Rattle.lookup_debug.specs.Groups.{Group, groups}
use Rattle.lookup_debug.specs.declared.fault.Location.{Location}
use Rattle.lookup_debug.specs.declared.fault.LookupFault.{LookupFault}
use Rattle.lookup_debug.specs.declared.fault.LookupFault.TheVariants.{Mismatch}

-- a is in the list, and no b is before it
abbrev pub Precedes : {A : Type 0} → List A → A → A → Type 0
Precedes [] a b = true ≡ false
Precedes (x ∷ xs) a b = (x ≡ a) ⊎ ((x ≢ b) × Precedes xs a b)

-- the order of two tuples by the lists of their texts
abbrev pub text_cmp : {F : Type 0} → (F → List ℕ) → List F → List F → Ordering
text_cmp text a b = slice_cmp (slice_cmp nat_cmp) (map text a) (map text b)

-- a mismatch with these parts
pub record HasParts {F : Type 0} (label : List ℕ) (tuple : List (List ℕ)) (net : F) (tuple_locations : List SentLocation) (fault : LookupFault F) : Type 0 where
  pub name : String Global
  pub texts : Vec (String Global) Global
  pub locations : Vec Location Global
  pub fault_is : fault ≡ Mismatch name texts net locations
  pub label_is : string_bytes name ≡ label
  pub tuple_is : map (λ t. string_bytes t) texts.items ≡ tuple
  pub locations_are : map location_of locations.items ≡ tuple_locations

module _ {F : Type 0} (R : Ring F) (eq : F → F → Bool) where
  -- the contributions of a tuple
  abbrev pub of_tuple : List (Contribution F) → List F → List (Contribution F)
  of_tuple cs tuple = filter (λ c. pointwise eq tuple c.tuple) cs

  -- where a tuple is sent
  abbrev pub tuple_locations : List F → List (Contribution F) → List SentLocation
  tuple_locations tuple cs = map (λ c. c.location) (of_tuple cs tuple)

  -- and its net
  abbrev pub net_amount : List (Contribution F) → List F → F
  net_amount cs tuple = sum_in R (map (λ c. c.amount) (of_tuple cs tuple))

  -- the net of every tuple is zero
  abbrev pub Balances : List (Contribution F) → Type 0
  Balances cs = (tuple : List F) → net_amount cs tuple ≡ R.zero

  -- so it is in each of some groups
  abbrev pub EachBalances : List (Group F) → Type 0
  EachBalances gs = (i : ℕ) (group : Group F) → slice_get gs i ≡ Some group → Balances group.contributions

  -- and in all groups
  abbrev pub AllBalance : List (Traced F) → Type 0
  AllBalance instances = EachBalances (groups R eq instances)

  module _ (text : F → List ℕ) where
    -- Among the tuples whose net is not zero this one is first: by its texts, and among equal texts by
    -- its first contribution.
    pub record IsFirst (cs : List (Contribution F)) (tuple : List F) : Type 0 where
      pub net : net_amount cs tuple ≢ R.zero
      pub first : (other : List F) → net_amount cs other ≢ R.zero → other ≢ tuple
          → (text_cmp text tuple other ≡ Less) ⊎ ((text_cmp text tuple other ≡ Equal) × Precedes (map (λ c. c.tuple) cs) tuple other)

    -- A fault is the mismatch of a group: under its label, the tuple that is first, with its net and
    -- the locations of its contributions.
    pub record IsMismatchOf (label : List ℕ) (cs : List (Contribution F)) (fault : LookupFault F) : Type 0 where
      pub tuple : List F
      pub first : IsFirst cs tuple
      pub fault_is : HasParts label (map text tuple) (net_amount cs tuple) (tuple_locations tuple cs) fault

    -- A fault is the mismatch of the first of some groups that has one.
    abbrev pub IsFirstMismatch : List (Group F) → LookupFault F → Type 0
    IsFirstMismatch gs fault = HasFirstFault (λ g. Balances g.contributions) (λ _ g. IsMismatchOf g.label g.contributions fault) gs

    -- and of the first of all groups
    abbrev pub IsMismatch : List (Traced F) → LookupFault F → Type 0
    IsMismatch instances fault = IsFirstMismatch (groups R eq instances) fault
