-- The same rows have the same faults elsewhere, but for the numbers of the rows.
use Rattle.std.proofs.Common.{◌≡◌, ℕ, ◌+◌, ◌-◌, ◌^◌, ◌≤◌, Bool, true, false, not, cond, Option, None, Some, List, [], ◌∷◌, ◌++◌, length, map, refl, sym, ap, ◌∙◌, arith}
use Rattle.std.proofs.lemmas.List.{map-append}
use Rattle.std.specs.List.{cons_option, enumerate_from, filter_map, flat_map, slice_get, slice_range}
use Rattle.std.specs.Option.{option_map, option_or}
use Rattle.field.specs.Extension.{Extension}
use Rattle.lookup_generation.specs.Ranges.{faults_between}
use Rattle.lookup_model.specs.Fault.{are_boolean, dividing_messages, fault_of, flag_fault_of, row_faults, vanishes}
use Rattle.lookup_model.specs.Message.{Key}
use Rattle.lookup_model.specs.Sent.{Sent}
use Rattle.lookup_model.specs.declared.error.LookupError.TheVariants.{VanishingDenominator, FlagNotBoolean, FlagsNotExclusive}
use Rattle.checker_witness.specs.internal.Renumbered.{renumbered_fault, row_in_whole}

map-cons_option : {A B : Type 0} (f : A → B) (o : Option A) (xs : List A) → map f (cons_option o xs) ≡ cons_option (option_map f o) (map f xs)
map-cons_option f None xs = refl
map-cons_option f (Some x) xs = refl

pub first_mapped : {A B : Type 0} (f : A → B) (xs : List A) (x : A) → slice_get xs 0 ≡ Some x → slice_get (map f xs) 0 ≡ Some (f x)
first_mapped f [] x e = absurd (cc e)
first_mapped f (y ∷ xs) x e = ap (option_map f) e

module _ {F K : Type 0} (E : Extension F K) (denominator : Key F → K) (from to : ℕ) where
  -- a row at the same place
  there : (k : ℕ) → to + k ≤ 2 ^ 64 - 1 → to + k ≡ row_in_whole from to (from + k)
  there k fits = omega (arith, fits)

  fault_there : (k l : ℕ) (sent : Sent F) → to + k ≤ 2 ^ 64 - 1 → fault_of E denominator (to + k) l sent ≡ option_map (renumbered_fault from to) (fault_of E denominator (from + k) l sent)
  fault_there k l sent fits = by_flags sent.flags (vanishes E denominator (dividing_messages E.base E.base_eq sent.flags sent.messages))
    where
      here : to + k ≡ row_in_whole from to (from + k)
      here = there k fits

      by_tests : (b c v : Bool) → option_or (cond (not b) (Some (FlagNotBoolean (to + k) l)) (cond c (Some (FlagsNotExclusive (to + k) l)) None)) (cond v (Some (VanishingDenominator (to + k) l)) None)
          ≡ option_map (renumbered_fault from to) (option_or (cond (not b) (Some (FlagNotBoolean (from + k) l)) (cond c (Some (FlagsNotExclusive (from + k) l)) None)) (cond v (Some (VanishingDenominator (from + k) l)) None))
      by_tests false c v = ap (λ r. Some (FlagNotBoolean r l)) here
      by_tests true true v = ap (λ r. Some (FlagsNotExclusive r l)) here
      by_tests true false true = ap (λ r. Some (VanishingDenominator r l)) here
      by_tests true false false = refl

      by_flags : (flags : Option (List F)) (v : Bool) → option_or (flag_fault_of E.base E.base_eq (to + k) l flags) (cond v (Some (VanishingDenominator (to + k) l)) None)
          ≡ option_map (renumbered_fault from to) (option_or (flag_fault_of E.base E.base_eq (from + k) l flags) (cond v (Some (VanishingDenominator (from + k) l)) None))
      by_flags None true = ap (λ r. Some (VanishingDenominator r l)) here
      by_flags None false = refl
      by_flags (Some fs) v = by_tests (are_boolean E.base E.base_eq fs) _ v

  row_there : (k n : ℕ) (sents : List (Sent F)) → to + k ≤ 2 ^ 64 - 1 → filter_map (λ p. fault_of E denominator (to + k) p.0 p.1) (enumerate_from n sents) ≡ map (renumbered_fault from to) (filter_map (λ p. fault_of E denominator (from + k) p.0 p.1) (enumerate_from n sents))
  row_there k n [] fits = refl
  row_there k n (x ∷ xs) fits =
      (λ i. cons_option (fault_there k n x fits i) (row_there k (n + 1) xs fits i))
      ∙ sym (map-cons_option (renumbered_fault from to) (fault_of E denominator (from + k) n x) (filter_map (λ p. fault_of E denominator (from + k) p.0 p.1) (enumerate_from (n + 1) xs)))

  rows_there : (k : ℕ) (rows : List (List (Sent F))) → to + k + length rows ≤ 2 ^ 64 → flat_map (λ p. row_faults E denominator p.0 p.1) (enumerate_from (to + k) rows) ≡ map (renumbered_fault from to) (flat_map (λ p. row_faults E denominator p.0 p.1) (enumerate_from (from + k) rows))
  rows_there k [] fits = refl
  rows_there k (x ∷ xs) fits =
      let next : (n : ℕ) → n + k + 1 ≡ n + (k + 1) = λ n. omega arith in
      let f = λ (p : ℕ × List (Sent F)). row_faults E denominator p.0 p.1 in
      (λ i. row_there k 0 x (omega (arith, fits)) i ++ (ap (λ n. flat_map f (enumerate_from n xs)) (next to) ∙ rows_there (k + 1) xs (omega (arith, fits)) ∙ ap (λ n. map (renumbered_fault from to) (flat_map f (enumerate_from n xs))) (sym (next from))) i)
      ∙ sym (map-append (renumbered_fault from to) (row_faults E denominator (from + k) x) (flat_map f (enumerate_from (from + k + 1) xs)))

  -- the faults of rows that are the same elsewhere
  pub faults_there : (rows others : List (List (Sent F))) (n m : ℕ) → slice_range rows from n ≡ slice_range others to m → to + length (slice_range rows from n) ≤ 2 ^ 64 → faults_between E denominator others to m ≡ map (renumbered_fault from to) (faults_between E denominator rows from n)
  faults_there rows others n m same fits =
      let none : (a : ℕ) → a ≡ a + 0 = λ a. omega arith in
      let f = λ (p : ℕ × List (Sent F)). row_faults E denominator p.0 p.1 in
      ap (λ t. flat_map f (enumerate_from to t)) (sym same)
      ∙ ap (λ a. flat_map f (enumerate_from a (slice_range rows from n))) (none to)
      ∙ rows_there 0 (slice_range rows from n) (omega (arith, fits))
      ∙ ap (λ a. map (renumbered_fault from to) (flat_map f (enumerate_from a (slice_range rows from n)))) (sym (none from))
