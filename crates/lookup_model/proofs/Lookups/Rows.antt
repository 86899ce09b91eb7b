-- The auxiliary trace, row by row and lookup by lookup.
use Rattle.std.proofs.Common.{◌≡◌, ℕ, ◌+◌, ◌<◌, Option, None, Some, List, [], ◌∷◌, ◌++◌, length, map, take, get_or, sym, ap, ◌∙◌, arith}
use Rattle.std.proofs.lemmas.List.{append-nil, take_more}
use Rattle.std.proofs.lemmas.List.Elements.{filter_map-append}
use Rattle.std.proofs.lemmas.Grind.{flat_map-append}
use Rattle.std.specs.List.{enumerate_from, filter_map, cons_option, flat_map, slice_get}
use Rattle.list_laws.proofs.Items.{enumerate_from-append, first_stays}
use Rattle.field.specs.Sums.{sum_in}
use Rattle.field.specs.Extension.{Extension, IsLawful}
use Rattle.lookup_model.specs.Fault.{faults_of_row, faults_of_trace}
use Rattle.lookup_model.specs.Message.{Key}
use Rattle.lookup_model.specs.Plain.{plain_fraction, plain_accumulator}
use Rattle.lookup_model.specs.Sent.{Sent}
use Rattle.lookup_model.specs.declared.error.LookupError.{LookupError}
use Rattle.lookup_model.proofs.SumLaws.{sum_in-append}

module _ {F : Type 0} (lookup_fault : ℕ → ℕ → Sent F → Option LookupError) where
  -- the faults of a longer row
  pub row_faults-append : (row : ℕ) (xs ys : List (Sent F)) → faults_of_row lookup_fault row (xs ++ ys) ≡ faults_of_row lookup_fault row xs ++ filter_map (λ p. lookup_fault row p.0 p.1) (enumerate_from (length xs) ys)
  row_faults-append row xs ys =
      let f = λ (p : ℕ × Sent F). lookup_fault row p.0 p.1 in
      ap (filter_map f) (enumerate_from-append 0 xs ys ∙ ap (λ k. enumerate_from 0 xs ++ enumerate_from k ys) (omega arith)) ∙ filter_map-append f (enumerate_from 0 xs) (enumerate_from (length xs) ys)

  -- one more lookup without a fault
  pub row_faults-none : (row column : ℕ) (xs : List (Sent F)) (x : Sent F) → length xs ≡ column → lookup_fault row column x ≡ None → faults_of_row lookup_fault row xs ≡ [] → faults_of_row lookup_fault row (xs ++ x ∷ []) ≡ []
  row_faults-none row column xs x at none so_far =
      row_faults-append row xs (x ∷ [])
      ∙ (λ i. so_far i ++ cons_option (lookup_fault row (at i) x) [])
      ∙ ap (λ o. cons_option o []) none

  -- the first lookup with a fault decides
  pub row_faults-first : (row column : ℕ) (xs rest : List (Sent F)) (x : Sent F) (e : LookupError) → length xs ≡ column → lookup_fault row column x ≡ Some e → faults_of_row lookup_fault row xs ≡ [] → slice_get (faults_of_row lookup_fault row ((xs ++ x ∷ []) ++ rest)) 0 ≡ Some e
  row_faults-first row column xs rest x e at fault so_far =
      ap (λ t. slice_get t 0) (row_faults-append row (xs ++ x ∷ []) rest
      ∙ ap (λ t. t ++ filter_map (λ p. lookup_fault row p.0 p.1) (enumerate_from (length (xs ++ x ∷ [])) rest)) (row_faults-append row xs (x ∷ [])
      ∙ (λ i. so_far i ++ cons_option (lookup_fault row (at i) x) [])
      ∙ ap (λ o. cons_option o []) fault))

  -- the faults of a longer trace
  pub trace_faults-append : (xs ys : List (List (Sent F))) → faults_of_trace lookup_fault (xs ++ ys) ≡ faults_of_trace lookup_fault xs ++ flat_map (λ p. faults_of_row lookup_fault p.0 p.1) (enumerate_from (length xs) ys)
  trace_faults-append xs ys =
      let f = λ (p : ℕ × List (Sent F)). faults_of_row lookup_fault p.0 p.1 in
      ap (flat_map f) (enumerate_from-append 0 xs ys ∙ ap (λ k. enumerate_from 0 xs ++ enumerate_from k ys) (omega arith)) ∙ flat_map-append f (enumerate_from 0 xs) (enumerate_from (length xs) ys)

  -- one more row without a fault
  pub trace_faults-none : (row : ℕ) (xs : List (List (Sent F))) (x : List (Sent F)) → length xs ≡ row → faults_of_row lookup_fault row x ≡ [] → faults_of_trace lookup_fault xs ≡ [] → faults_of_trace lookup_fault (xs ++ x ∷ []) ≡ []
  trace_faults-none row xs x at none so_far =
      trace_faults-append xs (x ∷ [])
      ∙ (λ i. so_far i ++ (faults_of_row lookup_fault (at i) x ++ []))
      ∙ ap (λ t. t ++ []) none

  -- the first row with a fault decides
  pub trace_faults-first : (row : ℕ) (xs rest : List (List (Sent F))) (x : List (Sent F)) (e : LookupError) → length xs ≡ row → slice_get (faults_of_row lookup_fault row x) 0 ≡ Some e → faults_of_trace lookup_fault xs ≡ [] → slice_get (faults_of_trace lookup_fault ((xs ++ x ∷ []) ++ rest)) 0 ≡ Some e
  trace_faults-first row xs rest x e at fault so_far =
      let f = λ (p : ℕ × List (Sent F)). faults_of_row lookup_fault p.0 p.1 in
      let here : faults_of_trace lookup_fault (xs ++ x ∷ []) ≡ faults_of_row lookup_fault row x ++ [] =
      trace_faults-append xs (x ∷ []) ∙ (λ i. so_far i ++ (faults_of_row lookup_fault (at i) x ++ [])) in
      ap (λ t. slice_get t 0) (trace_faults-append (xs ++ x ∷ []) rest ∙ ap (λ t. t ++ flat_map f (enumerate_from (length (xs ++ x ∷ [])) rest)) here)
      ∙ first_stays (faults_of_row lookup_fault row x ++ []) (flat_map f (enumerate_from (length (xs ++ x ∷ [])) rest)) e (first_stays (faults_of_row lookup_fault row x) [] e fault)

module _ {F K : Type 0} (E : Extension F K) (denominator : Key F → K) where
  -- the accumulator of the next row
  pub plain_accumulator-more : IsLawful E → (rows : List (List (Sent F))) (r : ℕ) (x : List (Sent F)) → r < length rows → x ≡ get_or rows r x → plain_accumulator E denominator rows (r + 1) ≡ E.ring.add (plain_accumulator E denominator rows r) (sum_in E.ring (map (plain_fraction E denominator) x))
  plain_accumulator-more laws rows r x lt is =
      let f = λ (row : List (Sent F)). map (plain_fraction E denominator) row in
      ap (λ t. sum_in E.ring (flat_map f t)) (take_more rows r x lt ∙ ap (λ t. take r rows ++ t ∷ []) (sym is))
      ∙ ap (sum_in E.ring) (flat_map-append f (take r rows) (x ∷ []) ∙ ap (λ t. flat_map f (take r rows) ++ t) (append-nil (f x)))
      ∙ sum_in-append laws.ring (flat_map f (take r rows)) (f x)
