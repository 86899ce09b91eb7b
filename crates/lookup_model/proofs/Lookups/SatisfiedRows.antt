-- The plain result is a satisfied witness.
use Rattle.std.proofs.Common.{◌≡◌, ℕ, ◌+◌, ◌<◌, None, Some, List, [], ◌∷◌, ◌++◌, length, map, take, drop, get_or, refl, sym, ap, subst, ◌∙◌, arith}
use Rattle.std.proofs.lemmas.List.{get_or_default, length-map, length-take, take_all}
use Rattle.std.specs.List.{cons_option, flat_map, range_with_len}
use Rattle.list_laws.proofs.Images.{map-map, mapped_at}
use Rattle.list_laws.proofs.Items.{both_empty, none_before, split_at}
use Rattle.field.specs.Sums.{sum_in}
use Rattle.matrix.specs.Matrix.{Matrix, height}
use Rattle.air.specs.Traces.{AirTraces, window_of}
use Rattle.lookup_model.specs.Denominators.{key_denominator}
use Rattle.field.specs.Extension.{Extension, IsLawful}
use Rattle.lookup_model.specs.Fault.{fault_of, row_faults, trace_faults}
use Rattle.lookup_model.specs.Message.{Key}
use Rattle.lookup_model.specs.Plain.{plain_accumulator, plain_cells, plain_fraction, plain_row, plain_terminal}
use Rattle.lookup_model.specs.Records.{AreRecords}
use Rattle.lookup_model.specs.Sent.{Sent, sent_at}
use Rattle.lookup_model.specs.Trace.{sent_row, sent_rows}
use Rattle.lookup_model.specs.Witness.{IsSatisfied}
use Rattle.lookup_model.specs.declared.types.Lookup.{Lookup}
use Rattle.lookup_model.proofs.Lookups.Rows.{row_faults-append, trace_faults-append}
use Rattle.lookup_model.proofs.Lookups.RunningSums.{running_satisfied}
use Rattle.lookup_model.proofs.Lookups.SatisfiedFractions.{lookup_satisfied}
use Rattle.lookup_model.proofs.Lookups.SentRows.{accumulator_after, column_is, equal_lengths, get_or-sent_rows, length-sent_rows, length-sent_rows-at, sent_rows-at}
use Rattle.lookup_model.proofs.Lookups.Terminals.{plain_terminal-sum}

module _ {F K : Type 0} (E : Extension F K) (denominator : Key F → K) where
  -- no fault in a trace is none on a row
  no_row_fault : (rows : List (List (Sent F))) (r : ℕ) (x : List (Sent F)) → r < length rows → x ≡ get_or rows r x → trace_faults E denominator rows ≡ [] → row_faults E denominator r x ≡ []
  no_row_fault rows r x lt is none =
      let front = take r rows in
      let back = drop (r + 1) rows in
      let at : length front ≡ r = omega (arith, length-take r rows, lt) in
      let upto : trace_faults E denominator (front ++ x ∷ []) ≡ [] =
      (both_empty (trace_faults E denominator (front ++ x ∷ [])) _ (sym (trace_faults-append (fault_of E denominator) (front ++ x ∷ []) back) ∙ ap (trace_faults E denominator) (sym (split_at rows r x lt is)) ∙ none)).0 in
      let last : row_faults E denominator (length front) x ++ [] ≡ [] = (both_empty (trace_faults E denominator front) _ (sym (trace_faults-append (fault_of E denominator) front (x ∷ [])) ∙ upto)).1 in
      ap (λ n. row_faults E denominator n x) (sym at) ∙ (both_empty (row_faults E denominator (length front) x) [] last).0

  -- and none of a lookup
  no_lookup_fault : (r : ℕ) (sents : List (Sent F)) (k : ℕ) (s : Sent F) → k < length sents → s ≡ get_or sents k s → row_faults E denominator r sents ≡ [] → fault_of E denominator r k s ≡ None
  no_lookup_fault r sents k s lt is none =
      let front = take k sents in
      let back = drop (k + 1) sents in
      let at : length front ≡ k = omega (arith, length-take k sents, lt) in
      let upto : row_faults E denominator r (front ++ s ∷ []) ≡ [] =
      (both_empty (row_faults E denominator r (front ++ s ∷ [])) _ (sym (row_faults-append (fault_of E denominator) r (front ++ s ∷ []) back) ∙ ap (row_faults E denominator r) (sym (split_at sents k s lt is)) ∙ none)).0 in
      let last : cons_option (fault_of E denominator r (length front) s) [] ≡ [] = (both_empty (row_faults E denominator r front) _ (sym (row_faults-append (fault_of E denominator) r front (s ∷ [])) ∙ upto)).1 in
      ap (λ n. fault_of E denominator r n s) (sym at) ∙ (none_before (fault_of E denominator r (length front) s) [] last).0

module _ {F K : Type 0} {E : Extension F K} (laws : IsLawful E) (challenges : List K) (traces : AirTraces F) (lookups : List (Lookup F)) (records : AreRecords lookups) (some : 0 < length lookups) where
  abbrev den : Key F → K
  den = key_denominator E challenges

  abbrev pf : Sent F → K
  pf = plain_fraction E den

  abbrev rows : List (List (Sent F))
  rows = sent_rows E.base E.base_eq traces lookups

  abbrev fractions_on : ℕ → List K
  fractions_on r = map pf (get_or rows r [])

  abbrev sent_of : ℕ → Lookup F → Sent F
  sent_of r lookup = sent_at E.base E.base_eq (window_of traces r) lookup.column lookup

  high : length rows ≡ height traces.main
  high = length-sent_rows E.base E.base_eq traces lookups

  many : (r : ℕ) → r < height traces.main → length (fractions_on r) ≡ length lookups
  many r lt = length-map (get_or rows r []) pf ∙ length-sent_rows-at E.base E.base_eq traces lookups r lt

  -- the fraction of a lookup is the plain one
  fraction_is : (r : ℕ) → r < height traces.main → (k : ℕ) (lookup : Lookup F) → k < length lookups → lookup ≡ get_or lookups k lookup → get_or (fractions_on r) k E.ring.zero ≡ pf (sent_of r lookup)
  fraction_is r lt k lookup below is =
      let g = λ (l : Lookup F). pf (sent_of r l) in
      ap (λ s. get_or (map pf s) k E.ring.zero) (get_or-sent_rows E.base E.base_eq traces lookups r lt)
      ∙ ap (λ xs. get_or xs k E.ring.zero) (map-map pf (sent_of r) lookups)
      ∙ get_or_default (map g lookups) k E.ring.zero (g lookup) (omega (arith, length-map lookups g, below))
      ∙ sym (mapped_at g lookups k lookup below is)

  -- the accumulator after a row, and after the last one
  goes_on : (r : ℕ) → r < height traces.main → plain_accumulator E den rows (r + 1) ≡ E.ring.add (plain_accumulator E den rows r) (sum_in E.ring (fractions_on r))
  goes_on r lt =
      accumulator_after E den traces lookups laws r lt
      ∙ ap (λ s. E.ring.add (plain_accumulator E den rows r) (sum_in E.ring (map pf s))) (sym (get_or-sent_rows E.base E.base_eq traces lookups r lt))

  ends : (r : ℕ) → r + 1 ≡ height traces.main → plain_terminal E den rows ≡ plain_accumulator E den rows (r + 1)
  ends r last =
      plain_terminal-sum laws den rows
      ∙ ap (λ t. sum_in E.ring (flat_map (λ s. map pf s) t)) (sym (take_all (r + 1) rows (omega (arith, high, last))))

  module _ (faultless : trace_faults E den rows ≡ []) where
    no_fault_at : (r : ℕ) → r < height traces.main → (k : ℕ) (lookup : Lookup F) → k < length lookups → lookup ≡ get_or lookups k lookup → fault_of E den r lookup.column (sent_of r lookup) ≡ None
    no_fault_at r lt k lookup below is =
        let sents = sent_row E.base E.base_eq (window_of traces r) lookups in
        ap (λ c. fault_of E den r c (sent_of r lookup)) (column_is lookups k lookup records below is)
        ∙ no_lookup_fault E den r sents k (sent_of r lookup) (omega (arith, length-map lookups (sent_of r), below)) (mapped_at (sent_of r) lookups k lookup below is)
        (no_row_fault E den rows r sents (omega (arith, high, lt)) (sent_rows-at E.base E.base_eq traces lookups r lt) faultless)

    -- the plain result with lookups
    pub plain_satisfied : IsSatisfied E traces lookups challenges (record { values = plain_cells E den rows; width = length lookups + 1 }) (Some (record { 0 = plain_terminal E den rows }))
    plain_satisfied =
        let made = λ (n : ℕ). flat_map (plain_row E den rows) (range_with_len 0 n) in
        subst (λ (n : ℕ). IsSatisfied E traces lookups challenges (record { values = made n; width = length lookups + 1 }) (Some (record { 0 = plain_terminal E den rows }))) (sym high)
        (running_satisfied laws challenges traces lookups records some (plain_accumulator E den rows) fractions_on (plain_terminal E den rows) many refl goes_on ends (λ r lt k lookup below is f_is.
        lookup_satisfied laws challenges lookup.column r (window_of traces r) lookup _ (equal_lengths lookups k lookup records below is) (f_is ∙ fraction_is r lt k lookup below is) (no_fault_at r lt k lookup below is)))

-- without lookups no cell and no terminal are a satisfied witness
pub none_satisfied : {F K : Type 0} (E : Extension F K) (traces : AirTraces F) (challenges : List K) (lookups : List (Lookup F)) (auxiliary : Matrix K) → lookups ≡ [] → auxiliary ≡ record { values = []; width = 0 } → IsSatisfied E traces lookups challenges auxiliary None
none_satisfied {F} {K} E traces challenges lookups auxiliary none is =
    subst (λ (ls : List (Lookup F)). IsSatisfied E traces ls challenges auxiliary None) (sym none)
    (subst (λ m. IsSatisfied E traces [] challenges m None) (sym is)
    (record { shape = record { presence = refl; width = refl; high = refl; whole = refl }; equations = λ r lt. tt }))
