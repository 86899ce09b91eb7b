-- The first mismatch as data.
use Rattle.std.specs.Prelude.{◌≡◌, ℕ, Bool, List}
use Rattle.air_expressions.specs.Faults.{HasFirstFault}
use Rattle.field.specs.Ring.{Ring}
use Rattle.lookup_debug.specs.BusTable.{entry_of, label_of, tuple_entry}
use Rattle.lookup_debug.specs.Contributions.{Contribution, Traced}
use Rattle.lookup_debug.specs.Groups.{Group, groups}
use Rattle.lookup_debug.specs.Mismatch.{Balances, IsFirst}
use Rattle.lookup_debug.specs.declared.first_unbalanced.Mismatch.{Mismatch}

module _ {F : Type 0} (R : Ring F) (eq : F → F → Bool) (text : F → List ℕ) (limit : ℕ) where
  -- What is found is the mismatch of a group: under its label, the entry of the tuple that is first.
  pub record IsUnbalancedIn (label : List ℕ) (cs : List (Contribution F)) (found : Mismatch F) : Type 0 where
    pub label_is : label_of found.group ≡ label
    pub first : IsFirst R eq text cs found.unbalanced.tuple.items
    pub entry_is : entry_of found.unbalanced ≡ tuple_entry R eq limit cs found.unbalanced.tuple.items

  -- It is the mismatch of the first of some groups that has one.
  abbrev pub IsFirstUnbalancedIn : List (Group F) → Mismatch F → Type 0
  IsFirstUnbalancedIn gs found = HasFirstFault (λ g. Balances R eq g.contributions) (λ _ g. IsUnbalancedIn g.label g.contributions found) gs

  -- and of the first of all groups
  abbrev pub IsFirstUnbalanced : List (Traced F) → Mismatch F → Type 0
  IsFirstUnbalanced instances found = IsFirstUnbalancedIn (groups R eq instances) found
