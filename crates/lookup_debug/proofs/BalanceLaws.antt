-- A group balances exactly if none of its tuples is unbalanced.
use Rattle.std.proofs.Common.{◌≡◌, ◌↔◌, Bool, true, false, List, [], ◌∷◌, ℕ, cond, get_or, length, map, not, refl, slice_get, sym, ap, ◌∙◌, Decides, arith}
use Rattle.std.proofs.lemmas.Bool.{not-false}
use Rattle.std.proofs.lemmas.Option.{slice_get-get_or}
use Rattle.std.proofs.lemmas.Slice.Eq.{slice_eq-Decides}
use Rattle.std.specs.Cmp.Lexicographic.{pointwise}
use Rattle.std.specs.List.{All, AllByRecursion, filter, list_any}
use Rattle.list_laws.proofs.Each.{All-there, all_there, each_of}
use Rattle.list_laws.proofs.Images.{filter_none, from_map, map_at}
use Rattle.field.specs.Ring.{Ring, IsCommutativeRing}
use Rattle.lookup_messages.proofs.NetEntries.{any-first_seen, net-none}
use Rattle.lookup_debug.specs.BusTable.{GroupRow, distinct_tuples, group_row, row_of, unbalanced_tuples}
use Rattle.lookup_debug.specs.Contributions.{Contribution}
use Rattle.lookup_debug.specs.Groups.{Group}
use Rattle.lookup_debug.specs.Mismatch.{Balances, EachBalances, net_amount}
use Rattle.lookup_debug.specs.declared.group_table.BusGroup.{BusGroup}
use Rattle.lookup_debug.proofs.FirstMismatch.{any_at}

-- where none is kept none passes
none_passes : {A : Type 0} (p : A → Bool) (xs : List A) → length (filter p xs) ≡ 0 → AllByRecursion (λ x. p x ≡ false) xs
none_passes p [] none = tt
none_passes p (x ∷ xs) none = by_test (none_passes p xs) (p x) refl none
  where
    by_test : (length (filter p xs) ≡ 0 → AllByRecursion (λ y. p y ≡ false) xs) → (b : Bool) → p x ≡ b → length (cond b (x ∷ filter p xs) (filter p xs)) ≡ 0
        → (p x ≡ false) × AllByRecursion (λ y. p y ≡ false) xs
    by_test rest true is h = absurd (omega (arith, h))
    by_test rest false is h = (is, rest h)

module _ {F : Type 0} {R : Ring F} (laws : IsCommutativeRing R) (eq : F → F → Bool) (eq_is : (a b : F) → Decides (eq a b) (a ≡ b)) where
  abbrev pass : List (Contribution F) → List F → Bool
  pass cs tuple = not (eq (net_amount R eq cs tuple) R.zero)

  decides : (a b : List F) → Decides (pointwise eq a b) (a ≡ b)
  decides a b = slice_eq-Decides eq_is a b (pointwise eq a b) refl

  none_unbalanced : (cs : List (Contribution F)) → Balances R eq cs → length (unbalanced_tuples R eq cs) ≡ 0
  none_unbalanced cs balances =
      ap length (filter_none (pass cs) (distinct_tuples R eq cs)
      (each_of (λ tuple. pass cs tuple ≡ false) (λ tuple. ap not ((eq_is (net_amount R eq cs tuple) R.zero).1 (balances tuple))) (distinct_tuples R eq cs)))

  balances_none : (cs : List (Contribution F)) → length (unbalanced_tuples R eq cs) ≡ 0 → Balances R eq cs
  balances_none cs none tuple = by_seen (list_any (λ y. pointwise eq y tuple) (map (λ c. c.tuple) cs)) refl
    where
      by_seen : (b : Bool) → list_any (λ y. pointwise eq y tuple) (map (λ c. c.tuple) cs) ≡ b → net_amount R eq cs tuple ≡ R.zero
      by_seen true e =
          let (j, there) = any_at (pointwise eq) decides tuple (distinct_tuples R eq cs) (any-first_seen (pointwise eq) decides (map (λ c. c.tuple) cs) tuple ∙ e) in
          let fails = all_there (λ t. pass cs t ≡ false) (distinct_tuples R eq cs) j tuple (none_passes (pass cs) (distinct_tuples R eq cs) none) there in
          (eq_is (net_amount R eq cs tuple) R.zero).0 (not-false (eq (net_amount R eq cs tuple) R.zero) fails)
      by_seen false e = net-none (pointwise eq) decides laws (λ (c : Contribution F). c.tuple) (λ c. c.amount) cs tuple e

  -- so all groups balance exactly if no row has an unbalanced tuple
  pub rows_balance : (limit : ℕ) (negative : F → Bool) (gs : List (Group F)) (rows : List (BusGroup F))
      → map row_of rows ≡ map (group_row R eq limit negative) gs
      → All (λ (row : BusGroup F). row.unbalanced ≡ 0) rows ↔ EachBalances R eq gs
  rows_balance limit negative gs rows is = (
    λ none i group there.
        let (row, at, row_is) = from_map row_of rows i (group_row R eq limit negative group) (ap (λ t. slice_get t i) is ∙ map_at (group_row R eq limit negative) gs i group there) in
        balances_none group.contributions (sym (ap (λ (r : GroupRow F). r.unbalanced) row_is) ∙ All-there (λ (r : BusGroup F). r.unbalanced ≡ 0) rows i row none at),
    λ each n d lt.
        let row = get_or rows n d in
        let (group, at, group_is) = from_map (group_row R eq limit negative) gs n (row_of row) (sym (ap (λ t. slice_get t n) is) ∙ map_at row_of rows n row (slice_get-get_or rows n d lt)) in
        ap (λ (r : GroupRow F). r.unbalanced) (sym group_is) ∙ none_unbalanced group.contributions (each n group at),
  )
