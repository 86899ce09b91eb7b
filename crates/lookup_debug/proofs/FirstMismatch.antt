-- The least of the entries of a group, entry by entry, is its first mismatch.
use Rattle.std.proofs.Common.{◌≡◌, ◌≢◌, ◌<◌, ◌≤◌, ◌+◌, ◌-◌, length-drop, ◌⊎◌, [], ◌∷◌, map, length, drop, ℕ, Bool, true, false, not, List, Option, None, Some, slice_get, refl, sym, ap, ◌∙◌, inl, inr, true≢false, arith, Ordering, Less, Equal, Greater, zero, suc, is_some, Decides}
use Rattle.std.proofs.lemmas.Bool.{cases_lt, false_from_ne_true, not-false, or_cases}
use Rattle.std.specs.Borrow.{Bor}
use Rattle.std.specs.Cmp.{IsTotalOrder, on_total, nat_cmp_is}
use Rattle.std.specs.Ordering.{nat_cmp, ordering_index, ordering_reverse}
use Rattle.std.specs.Bool.{◌==◌}
use Rattle.std.specs.Cmp.Lexicographic.{lists_total, nat_list_cmp_total, pointwise}
use Rattle.std.specs.List.{filter, list_any}
use Rattle.std.proofs.lemmas.Option.{slice_get_within}
use Rattle.std.proofs.lemmas.Slice.Eq.{slice_eq-Decides}
use Rattle.list_laws.proofs.Items.{holds_at_next, holds_next, some_is}
use Rattle.list_laws.proofs.Images.{map_at, from_map}
use Rattle.field.specs.Ring.{Ring, IsCommutativeRing}
use Rattle.lookup_model.specs.Net.{first_seen}
use Rattle.lookup_messages.proofs.NetEntries.{any-first_seen, net-none}
use Rattle.lookup_debug.specs.Mismatch.{text_cmp, Precedes, IsFirst, net_amount}
use Rattle.lookup_debug.specs.internal.Least.{IsLeast, NonePasses}
use Rattle.lookup_debug.specs.internal.Nets.{IsFirstIndex, tuple_entries}
use Rattle.lookup_debug.specs.Contributions.{Contribution}
use Rattle.lookup_debug.proofs.AmountNets.{tuple_nets}

-- two numbers compared
pub three_ways : (j i : ℕ) → (j < i) ⊎ ((j ≡ i) ⊎ (i < j))
three_ways j i = elim (cases_lt j i) [
  | inl less ↦ inl less
  | inr past ↦ elim (cases_lt i j) [ inl more ↦ inr (inr more) | inr le ↦ inr (inl (omega (arith, past, le))) ]
]

-- by a total order an item is equal to itself
pub same-equal : {K : Type 0} {order : K → K → Ordering} → IsTotalOrder order → (x : K) → order x x ≡ Equal
same-equal total x = grind (arith, total.antisymm x x)

-- the order of two tuples by their texts, where keys are seen through references, is total
pub text_total : {F : Type 0} (text : F → List ℕ) → IsTotalOrder (λ (a b : Bor (List F)). text_cmp text a.now b.now)
text_total text = on_total (λ (a : Bor (List _)). map text a.now) (lists_total nat_list_cmp_total)

-- The entries of a map of nets up to an index, and the entry there.
module _ {F : Type 0} (R : Ring F) (eq : F → F → Bool) (text : F → List ℕ) (es : List (Bor (List F) × F)) (n : ℕ) (last : Bor (List F) × F) (at : slice_get es n ≡ Some last) where
  abbrev order : Bor (List F) → Bor (List F) → Ordering
  order a b = text_cmp text a.now b.now

  abbrev passes : F → Bool
  passes v = not (eq v R.zero)

  total : IsTotalOrder order
  total = text_total text

  -- an entry that does not pass changes nothing
  pub best_past_failing : (best : Option ℕ) → passes last.1 ≡ false → IsFirstIndex R eq text es n best → IsFirstIndex R eq text es (n + 1) best
  best_past_failing None fails none = holds_next (λ (e : Bor (List F) × F). passes e.1 ≡ false) es n last at fails none
  best_past_failing (Some i) fails least = record {
    entry = least.entry;
    there = least.there;
    within = omega (arith, least.within);
    passing = least.passing;
    before = least.before;
    after = λ j e later lt here. holds_at_next (λ m f. i < m → passes f.1 ≡ true → order least.entry.0 f.0 ≢ Greater) es n last at
        (λ _ so. absurd (true≢false (sym so ∙ fails))) (λ m f below there above. least.after m f above below there) j e lt here later;
  }

  -- the first that passes is the least
  pub first_passing : passes last.1 ≡ true → NonePasses order passes es n → IsLeast order passes es (n + 1) n
  first_passing passing none = record {
    entry = last;
    there = at;
    within = omega arith;
    passing = passing;
    before = λ j e lt here so. absurd (true≢false (sym so ∙ none j e lt here));
    after = λ j e later lt. absurd (omega (arith, later, lt));
  }

  -- one that is less takes its place
  pub lesser_is_least : (i : ℕ) (other : Bor (List F) × F) → slice_get es i ≡ Some other → passes last.1 ≡ true → order last.0 other.0 ≡ Less → IsLeast order passes es n i → IsLeast order passes es (n + 1) n
  lesser_is_least i other there passing less least =
      let is : least.entry ≡ other = some_is least.entry other (sym least.there ∙ there) in
      let under : order last.0 least.entry.0 ≡ Less = ap (λ (p : Bor (List F) × F). order last.0 p.0) is ∙ less in record {
        entry = last;
        there = at;
        within = omega arith;
        passing = passing;
        before = λ j e lt here so. by_index under j e lt here so (three_ways j i);
        after = λ j e later lt. absurd (omega (arith, later, lt));
      }
    where
      by_order : (e : Bor (List F) × F) (o : Ordering) → order least.entry.0 e.0 ≡ o → order last.0 least.entry.0 ≡ Less → o ≢ Greater → order last.0 e.0 ≡ Less
      by_order e Less f under ne = total.trans last.0 least.entry.0 e.0 under f
      by_order e Equal f under ne =
          total.antisymm last.0 e.0
          ∙ ap ordering_reverse (sym (total.congr least.entry.0 e.0 last.0 f))
          ∙ sym (total.antisymm last.0 least.entry.0)
          ∙ under
      by_order e Greater f under ne = absurd (ne refl)

      by_index : order last.0 least.entry.0 ≡ Less → (j : ℕ) (e : Bor (List F) × F) → j < n → slice_get es j ≡ Some e → passes e.1 ≡ true → (j < i) ⊎ ((j ≡ i) ⊎ (i < j)) → order last.0 e.0 ≡ Less
      by_index under j e lt here so (inl sooner) = total.trans last.0 least.entry.0 e.0 under (least.before j e sooner here so)
      by_index under j e lt here so (inr (inl same)) = ap (λ (p : Bor (List F) × F). order last.0 p.0) (some_is e least.entry (sym here ∙ ap (slice_get es) same ∙ least.there)) ∙ under
      by_index under j e lt here so (inr (inr later)) = by_order e (order least.entry.0 e.0) refl under (least.after j e later lt here so)

  -- one that is not less does not
  pub least_stays : (i : ℕ) (other : Bor (List F) × F) → slice_get es i ≡ Some other → order last.0 other.0 ≢ Less → IsLeast order passes es n i → IsLeast order passes es (n + 1) i
  least_stays i other there not_less least = record {
    entry = least.entry;
    there = least.there;
    within = omega (arith, least.within);
    passing = least.passing;
    before = least.before;
    after = λ j e later lt here. holds_at_next (λ m f. i < m → passes f.1 ≡ true → order least.entry.0 f.0 ≢ Greater) es n last at
        (λ _ so greater. not_less (ap (λ (p : Bor (List F) × F). order last.0 p.0) (some_is other least.entry (sym there ∙ least.there)) ∙ total.antisymm last.0 least.entry.0 ∙ ap ordering_reverse greater))
        (λ m f below at_m above. least.after m f above below at_m) j e lt here later;
  }

module _ {F : Type 0} (text : F → List ℕ) where
  -- where one has ended the lengths decide
  pub texts-end : (a b : List F) (i : ℕ) → i ≤ length a → i ≤ length b → (length a ≤ i) ⊎ (length b ≤ i) → text_cmp text (drop i a) (drop i b) ≡ nat_cmp (length a) (length b)
  texts-end a b i la lb ends = by_ends (drop i a) (drop i b) (length-drop i a) (length-drop i b) ends
    where
      by_ends : (xs ys : List F) → length xs ≡ length a - i → length ys ≡ length b - i → (length a ≤ i) ⊎ (length b ≤ i) → text_cmp text xs ys ≡ nat_cmp (length a) (length b)
      by_ends [] [] p q e = nat_cmp_is (length a) (length b) Equal (omega (arith, p, q, la, lb))
      by_ends [] (y ∷ ys) p q e = nat_cmp_is (length a) (length b) Less (omega (arith, p, q, la, lb))
      by_ends (x ∷ xs) [] p q e = nat_cmp_is (length a) (length b) Greater (omega (arith, p, q, la, lb))
      by_ends (x ∷ xs) (y ∷ ys) p q e = absurd (grind (arith, p, q, e))

-- what `== Ordering::Less` says
pub Less-from_eq : (o : Ordering) → (ordering_index o == 0) ≡ true → o ≡ Less
Less-from_eq o e = grind (arith, e)

pub Less-from_ne : (o : Ordering) → (ordering_index o == 0) ≡ false → o ≢ Less
Less-from_ne o e is = true≢false (ap (λ t. ordering_index t == 0) (sym is) ∙ e)

-- b is in the list
abbrev pub IsIn : {A : Type 0} → List A → A → Type 0
IsIn [] b = true ≡ false
IsIn (y ∷ ys) b = (y ≡ b) ⊎ IsIn ys b

-- a is in the list, and b after it
abbrev pub IsInOrder : {A : Type 0} → List A → A → A → Type 0
IsInOrder [] a b = true ≡ false
IsInOrder (y ∷ ys) a b = ((y ≡ a) × IsIn ys b) ⊎ IsInOrder ys a b

module _ {A : Type 0} where
  in_at : (ys : List A) (j : ℕ) (b : A) → slice_get ys j ≡ Some b → IsIn ys b
  in_at [] j b e = absurd (true≢false (sym (ap is_some e)))
  in_at (y ∷ ys) zero b e = inl (some_is y b e)
  in_at (y ∷ ys) (suc j) b e = inr (in_at ys j b e)

  in_order_at : (ys : List A) (i j : ℕ) (a b : A) → i < j → slice_get ys i ≡ Some a → slice_get ys j ≡ Some b → IsInOrder ys a b
  in_order_at [] i j a b lt e f = absurd (true≢false (sym (ap is_some e)))
  in_order_at (y ∷ ys) i zero a b lt e f = absurd (omega (arith, lt))
  in_order_at (y ∷ ys) zero (suc j) a b lt e f = inl (some_is y a e, in_at ys j b f)
  in_order_at (y ∷ ys) (suc i) (suc j) a b lt e f = inr (in_order_at ys i j a b (omega (arith, lt)) e f)

  in_kept : (p : A → Bool) (ys : List A) (b : A) → IsIn (filter p ys) b → IsIn ys b × (p b ≡ true)
  in_kept p [] b h = absurd (true≢false h)
  in_kept p (y ∷ ys) b h = grind (arith, in_kept p ys b, h)

  in_order_kept : (p : A → Bool) (ys : List A) (a b : A) → IsInOrder (filter p ys) a b → IsInOrder ys a b × (p b ≡ true)
  in_order_kept p [] a b h = absurd (true≢false h)
  in_order_kept p (y ∷ ys) a b h = grind (arith, in_order_kept p ys a b, in_kept p ys b, h)

  module _ (same : A → A → Bool) (decides : (a b : A) → Decides (same a b) (a ≡ b)) where
    in_order_seen : (xs : List A) (a b : A) → IsInOrder (first_seen same xs) a b → Precedes xs a b
    in_order_seen [] a b h = h
    in_order_seen (x ∷ xs) a b (inl here) = inl here.0
    in_order_seen (x ∷ xs) a b (inr more) =
        let kept = in_order_kept (λ y. not (same x y)) (first_seen same xs) a b more in
        inr (λ is. true≢false (sym kept.1 ∙ ap not ((decides x b).1 is)), in_order_seen xs a b kept.0)

    -- of two items the one that stands first among the first seen is seen before the other
    pub seen_before : (xs : List A) (i j : ℕ) (a b : A) → i < j → slice_get (first_seen same xs) i ≡ Some a → slice_get (first_seen same xs) j ≡ Some b → Precedes xs a b
    seen_before xs i j a b lt e f = in_order_seen xs a b (in_order_at (first_seen same xs) i j a b lt e f)

-- the index of an item that is among some
pub any_at : {A : Type 0} (same : A → A → Bool) (decides : (a b : A) → Decides (same a b) (a ≡ b)) (b : A) (ks : List A) → list_any (λ y. same y b) ks ≡ true → (j : ℕ) × (slice_get ks j ≡ Some b)
any_at same decides b [] e = absurd (true≢false (sym e))
any_at same decides b (k ∷ ks) e = elim (or_cases (same k b) (list_any (λ y. same y b) ks) e) [
  | inl here ↦ (0, ap Some ((decides k b).0 here))
  | inr later ↦ let found = any_at same decides b ks later in (suc found.0, found.1)
]

module _ {F : Type 0} {R : Ring F} (laws : IsCommutativeRing R) (eq : F → F → Bool) (eq_is : (a b : F) → Decides (eq a b) (a ≡ b)) (text : F → List ℕ) where
  decides : (a b : List F) → Decides (pointwise eq a b) (a ≡ b)
  decides a b = slice_eq-Decides eq_is a b (pointwise eq a b) refl

  -- the tuples of some contributions, and each once
  abbrev tuples : List (Contribution F) → List (List F)
  tuples cs = map (λ c. c.tuple) cs

  abbrev seen : List (Contribution F) → List (List F)
  seen cs = first_seen (pointwise eq) (tuples cs)

  -- of two tuples this one is first
  abbrev IsBefore : List (Contribution F) → List F → List F → Type 0
  IsBefore cs a b = (text_cmp text a b ≡ Less) ⊎ ((text_cmp text a b ≡ Equal) × Precedes (tuples cs) a b)

  nonzero_is : (v : F) → v ≢ R.zero → not (eq v R.zero) ≡ true
  nonzero_is v ne = ap not (false_from_ne_true (eq v R.zero) (λ is. ne ((eq_is v R.zero).0 is)))

  -- the entry of a tuple that is seen
  entry_of : (es : List (Bor (List F) × F)) (cs : List (Contribution F)) → tuple_entries es ≡ tuple_nets R eq cs → (j : ℕ) (other : List F) → slice_get (seen cs) j ≡ Some other
      → (e : Bor (List F) × F) × (slice_get es j ≡ Some e) × (e.0.now ≡ other) × (e.1 ≡ net_amount R eq cs other)
  entry_of es cs is j other there =
      let found = from_map (λ (e : Bor (List F) × F). (e.0.now, e.1)) es j (other, net_amount R eq cs other) (ap (λ t. slice_get t j) is ∙ map_at (λ k. (k, net_amount R eq cs k)) (seen cs) j other there) in
      (found.0, found.1, ap (λ (p : List F × F). p.0) found.2, ap (λ (p : List F × F). p.1) found.2)

  -- the least is first, and its entry has its net
  pub first_of_least : (es : List (Bor (List F) × F)) (cs : List (Contribution F)) (i : ℕ) → tuple_entries es ≡ tuple_nets R eq cs
      → (least : IsFirstIndex R eq text es (length es) (Some i)) → IsFirst R eq text cs least.entry.0.now × (least.entry.1 ≡ net_amount R eq cs least.entry.0.now)
  first_of_least es cs i is least =
      let ks = seen cs in
      let net = net_amount R eq cs in
      let tuple = least.entry.0.now in
      let here = from_map (λ k. (k, net k)) ks i (tuple, least.entry.1) (sym (ap (λ t. slice_get t i) is) ∙ map_at (λ (e : Bor (List F) × F). (e.0.now, e.1)) es i least.entry least.there) in
      let own : here.0 ≡ tuple = ap (λ (p : List F × F). p.0) here.2 in
      let at_own : slice_get ks i ≡ Some tuple = here.1 ∙ ap Some own in
      let value : net tuple ≡ least.entry.1 = ap net (sym own) ∙ ap (λ (p : List F × F). p.1) here.2 in (
        record {
          net = λ z. true≢false (sym least.passing ∙ ap not ((eq_is least.entry.1 R.zero).1 (sym value ∙ z)));
          first = λ other ne apart. by_seen at_own other ne apart (list_any (λ y. pointwise eq y other) (tuples cs)) refl;
        },
        sym value,
      )
    where
      by_order : (other : List F) → Precedes (tuples cs) least.entry.0.now other → (o : Ordering) → text_cmp text least.entry.0.now other ≡ o → o ≢ Greater
          → IsBefore cs least.entry.0.now other
      by_order other sooner Less e ne = inl e
      by_order other sooner Equal e ne = inr (e, sooner)
      by_order other sooner Greater e ne = absurd (ne refl)

      by_index : slice_get (seen cs) i ≡ Some least.entry.0.now → (other : List F) → net_amount R eq cs other ≢ R.zero → other ≢ least.entry.0.now
          → (j : ℕ) → slice_get (seen cs) j ≡ Some other → (j < i) ⊎ ((j ≡ i) ⊎ (i < j))
          → IsBefore cs least.entry.0.now other
      by_index own other ne apart j there (inr (inl same)) =
          absurd (apart (some_is other least.entry.0.now (sym there ∙ ap (slice_get (seen cs)) same ∙ own)))
      by_index own other ne apart j there (inl sooner) =
          let (e, at, tuple_is, net_is) = entry_of es cs is j other there in
          inl (ap (text_cmp text least.entry.0.now) (sym tuple_is) ∙ least.before j e sooner at (nonzero_is e.1 (λ z. ne (sym net_is ∙ z))))
      by_index own other ne apart j there (inr (inr later)) =
          let (e, at, tuple_is, net_is) = entry_of es cs is j other there in
          by_order other (seen_before (pointwise eq) decides (tuples cs) i j least.entry.0.now other later own there) (text_cmp text least.entry.0.now other) refl
          (λ greater. least.after j e later (slice_get_within es j e at) at (nonzero_is e.1 (λ z. ne (sym net_is ∙ z))) (ap (text_cmp text least.entry.0.now) tuple_is ∙ greater))

      by_seen : slice_get (seen cs) i ≡ Some least.entry.0.now → (other : List F) → net_amount R eq cs other ≢ R.zero → other ≢ least.entry.0.now
          → (b : Bool) → list_any (λ y. pointwise eq y other) (tuples cs) ≡ b
          → IsBefore cs least.entry.0.now other
      by_seen own other ne apart true e =
          let found = any_at (pointwise eq) decides other (seen cs) (any-first_seen (pointwise eq) decides (tuples cs) other ∙ e) in
          by_index own other ne apart found.0 found.1 (three_ways found.0 i)
      by_seen own other ne apart false e = absurd (ne (net-none (pointwise eq) decides laws (λ (c : Contribution F). c.tuple) (λ c. c.amount) cs other e))

  zero_is : (v : F) → not (eq v R.zero) ≡ false → v ≡ R.zero
  zero_is v e = (eq_is v R.zero).0 (not-false (eq v R.zero) e)

  -- where none passes every net is zero
  pub all_zero : (es : List (Bor (List F) × F)) (cs : List (Contribution F)) → tuple_entries es ≡ tuple_nets R eq cs
      → IsFirstIndex R eq text es (length es) None → (tuple : List F) → net_amount R eq cs tuple ≡ R.zero
  all_zero es cs is none tuple = by_seen (list_any (λ y. pointwise eq y tuple) (tuples cs)) refl
    where
      by_seen : (b : Bool) → list_any (λ y. pointwise eq y tuple) (tuples cs) ≡ b → net_amount R eq cs tuple ≡ R.zero
      by_seen true e =
          let index = any_at (pointwise eq) decides tuple (seen cs) (any-first_seen (pointwise eq) decides (tuples cs) tuple ∙ e) in
          let (entry, at, tuple_is, net_is) = entry_of es cs is index.0 tuple index.1 in
          sym net_is ∙ zero_is entry.1 (none index.0 entry (slice_get_within es index.0 entry at) at)
      by_seen false e = net-none (pointwise eq) decides laws (λ (c : Contribution F). c.tuple) (λ c. c.amount) cs tuple e
