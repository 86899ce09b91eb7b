-- The mismatch of a group that was collected.
use Rattle.std.proofs.Common.{◌≡◌, ℕ, Bool, List, Option, MatchOption, map, subst}
use Rattle.std.specs.Borrow.{Bor}
use Rattle.field.specs.Ring.{Ring}
use Rattle.lookup_debug.specs.Contributions.{Contribution, SentLocation}
use Rattle.lookup_debug.specs.Mismatch.{Balances, HasParts, IsFirst, IsMismatchOf, net_amount, tuple_locations}
use Rattle.lookup_debug.specs.declared.fault.LookupFault.{LookupFault}

module _ {F : Type 0} (R : Ring F) (eq : F → F → Bool) (text : F → List ℕ) where
  -- what is found among contributions: the first tuple whose net is not zero, with its net
  abbrev pub IsFound : List (Contribution F) → Option (Bor (List F) × F) → Type 0
  IsFound cs found = MatchOption found (Balances R eq cs) (λ m. IsFirst R eq text cs m.0.now × (m.1 ≡ net_amount R eq cs m.0.now))

  -- A fault with the first tuple, its net and its locations is the mismatch of the group.
  pub mismatch_of : (name label : List ℕ) (cs : List (Contribution F)) (tuple : List F) (net : F) (sent_at : List SentLocation) (fault : LookupFault F)
      → name ≡ label → IsFirst R eq text cs tuple × (net ≡ net_amount R eq cs tuple)
      → sent_at ≡ tuple_locations R eq tuple cs
      → HasParts name (map text tuple) net sent_at fault → IsMismatchOf R eq text label cs fault
  mismatch_of name label cs tuple net sent_at fault named found there parts =
      record {
        tuple = tuple;
        first = found.0;
        fault_is = (
            subst (λ l. HasParts l (map text tuple) (net_amount R eq cs tuple) (tuple_locations R eq tuple cs) fault) named
            (subst (λ n. HasParts name (map text tuple) n (tuple_locations R eq tuple cs) fault) found.1
            (subst (λ ps. HasParts name (map text tuple) net ps fault) there parts)));
      }
