-- What is found on the rows of a range, for the faults of that range and of the whole trace.
use Rattle.std.proofs.Common.{◌≡◌, ◌⊎◌, ℕ, zero, suc, ◌+◌, ◌-◌, ◌<◌, ◌≤◌, Some, List, [], ◌∷◌, ◌++◌, length, take, drop, get_or, inl, inr, refl, sym, ap, subst, ◌∙◌, arith}
use Rattle.std.proofs.lemmas.Bool.{cases_lt}
use Rattle.std.proofs.lemmas.Grind.{flat_map-append}
use Rattle.std.proofs.lemmas.List.{drop_more, length-take, take-append-drop, take_all}
use Rattle.std.proofs.Math.Seq.{take-add}
use Rattle.std.specs.List.{enumerate_from, flat_map, slice_get, slice_range}
use Rattle.air.specs.Traces.{AirTraces, height_of, window_of}
use Rattle.air_expressions.specs.Window.{Window}
use Rattle.field.specs.Extension.{Extension}
use Rattle.lookup_generation.specs.internal.Progress.{HaveNoFault, IsFirstOf, RefusesFirstFault}
use Rattle.lookup_generation.specs.Ranges.{faults_between}
use Rattle.list_laws.proofs.Items.{enumerate_from-append, first_stays}
use Rattle.lookup_model.proofs.Lookups.Rows.{trace_faults-append}
use Rattle.lookup_model.proofs.Lookups.SentRows.{length-sent_rows, sent_rows-at}
use Rattle.lookup_model.specs.Fault.{fault_of, row_faults, trace_faults}
use Rattle.lookup_model.specs.Message.{Key}
use Rattle.lookup_model.specs.Sent.{Sent}
use Rattle.lookup_model.specs.Trace.{sent_row, sent_rows}
use Rattle.lookup_model.specs.declared.error.LookupError.{LookupError}
use Rattle.lookup_model.specs.declared.types.Lookup.{Lookup}

module _ {F K : Type 0} (E : Extension F K) (denominator : Key F → K) where
  module _ (rows : List (List (Sent F))) where
    -- those on n rows from `first` on
    abbrev faults_on : ℕ → ℕ → List LookupError
    faults_on first n = flat_map (λ p. row_faults E denominator p.0 p.1) (enumerate_from first (take n (drop first rows)))

    -- those of the first row, and of the others
    faults_on-more : (first n : ℕ) (sents : List (Sent F)) → first < length rows → sents ≡ get_or rows first sents → faults_on first (suc n) ≡ row_faults E denominator first sents ++ faults_on (first + 1) n
    faults_on-more first n sents lt is =
        ap (λ t. flat_map (λ p. row_faults E denominator p.0 p.1) (enumerate_from first (take (suc n) t)))
        (drop_more rows first sents lt ∙ ap (λ x. x ∷ drop (first + 1) rows) (sym is))

    module _ (sents : ℕ → List (Sent F)) (at : (r : ℕ) → r < length rows → sents r ≡ get_or rows r (sents r)) where
      none_on : (first n : ℕ) → first + n ≤ length rows → ((r : ℕ) → first ≤ r → r < first + n → row_faults E denominator r (sents r) ≡ []) → faults_on first n ≡ []
      none_on first zero le none = refl
      none_on first (suc n) le none =
          let lt : first < length rows = omega (arith, le) in
          faults_on-more first n (sents first) lt (at first lt)
          ∙ (λ i. none first (omega arith) (omega arith) i ++ none_on (first + 1) n (omega (arith, le)) (λ r low high. none r (omega (arith, low)) (omega (arith, high))) i)

      first_on : (first n r : ℕ) (e : LookupError) → first + n ≤ length rows → first ≤ r → r < first + n → ((s : ℕ) → first ≤ s → s < r → row_faults E denominator s (sents s) ≡ []) → slice_get (row_faults E denominator r (sents r)) 0 ≡ Some e → slice_get (faults_on first n) 0 ≡ Some e
      first_on first zero r e le low high none fault = absurd (omega (arith, low, high))
      first_on first (suc n) r e le low high none fault =
          by_row (cases_lt first r) (λ later. first_on (first + 1) n r e (omega (arith, le)) (omega (arith, later)) (omega (arith, high)) (λ s from before. none s (omega (arith, from)) before) fault)
        where
          lt : first < length rows
          lt = omega (arith, le)

          by_row : (first < r) ⊎ (r ≤ first) → (first < r → slice_get (faults_on (first + 1) n) 0 ≡ Some e) → slice_get (faults_on first (suc n)) 0 ≡ Some e
          by_row (inl later) further =
              ap (λ t. slice_get t 0) (faults_on-more first n (sents first) lt (at first lt) ∙ ap (λ t. t ++ faults_on (first + 1) n) (none first (omega arith) later))
              ∙ further later
          by_row (inr here) further =
              let same : r ≡ first = omega (arith, here, low) in
              ap (λ t. slice_get t 0) (faults_on-more first n (sents first) lt (at first lt))
              ∙ first_stays (row_faults E denominator first (sents first)) (faults_on (first + 1) n) e (subst (λ k. slice_get (row_faults E denominator k (sents k)) 0 ≡ Some e) same fault)

    -- the faults on the rows from 0 on are those of the trace
    pub faults_of_all : (h : ℕ) → length rows ≡ h → faults_between E denominator rows 0 h ≡ trace_faults E denominator rows
    faults_of_all h high =
        let all : take (h - 0) (drop 0 rows) ≡ rows = take_all (h - 0) rows (omega (arith, high)) in
        ap (λ t. trace_faults E denominator t) all

    module _ (first end : ℕ) (from : first ≤ end) (up_to : end ≤ length rows) where
      long : length (take first rows) ≡ first
      long = length-take first rows ∙ omega (arith, from, up_to)

      -- rows without a fault go on by a range without one
      pub none_joined : trace_faults E denominator (take first rows) ≡ [] → faults_between E denominator rows first end ≡ [] → trace_faults E denominator (take end rows) ≡ []
      none_joined before none =
          let whole : end ≡ first + (end - first) = omega (arith, from) in
          let f = λ (p : ℕ × List (Sent F)). row_faults E denominator p.0 p.1 in
          let part = slice_range rows first end in
          ap (λ k. trace_faults E denominator (take k rows)) whole
          ∙ ap (trace_faults E denominator) (take-add first (end - first) rows)
          ∙ trace_faults-append (fault_of E denominator) (take first rows) part
          ∙ (λ i. before i ++ flat_map f (enumerate_from (long i) part))
          ∙ none

      -- after rows without a fault, the first fault of a range is that of the trace
      pub first_joined : (e : LookupError) → trace_faults E denominator (take first rows) ≡ [] → slice_get (faults_between E denominator rows first end) 0 ≡ Some e → slice_get (trace_faults E denominator rows) 0 ≡ Some e
      first_joined e before fault =
          let f = λ (p : ℕ × List (Sent F)). row_faults E denominator p.0 p.1 in
          let part = slice_range rows first end in
          let rest = drop (end - first) (drop first rows) in
          let others = flat_map f (enumerate_from (first + length part) rest) in
          ap (λ t. slice_get (trace_faults E denominator t) 0) (sym (take-append-drop first rows))
          ∙ ap (λ t. slice_get t 0)
          (trace_faults-append (fault_of E denominator) (take first rows) (drop first rows)
          ∙ (λ i. before i ++ flat_map f (enumerate_from (long i) (drop first rows)))
          ∙ ap (λ t. flat_map f (enumerate_from first t)) (sym (take-append-drop (end - first) (drop first rows)))
          ∙ ap (flat_map f) (enumerate_from-append first part rest)
          ∙ flat_map-append f (enumerate_from first part) (enumerate_from (first + length part) rest))
          ∙ first_stays (faults_between E denominator rows first end) others e fault

      pub refused_joined : (e : LookupError) → trace_faults E denominator (take first rows) ≡ [] → IsFirstOf (faults_between E denominator rows first end) e → IsFirstOf (trace_faults E denominator rows) e
      refused_joined e before (inl memory) = inl memory
      refused_joined e before (inr fault) = inr (first_joined e before fault)

  module _ (traces : AirTraces F) (lookups : List (Lookup F)) (first end : ℕ) (from : first ≤ end) (up_to : end ≤ height_of traces) where
    rows : List (List (Sent F))
    rows = sent_rows E.base E.base_eq traces lookups

    sents : ℕ → List (Sent F)
    sents r = sent_row E.base E.base_eq (window_of traces r) lookups

    high : length rows ≡ height_of traces
    unfolding rows
    high = length-sent_rows E.base E.base_eq traces lookups

    at : (r : ℕ) → r < length rows → sents r ≡ get_or rows r (sents r)
    unfolding rows sents
    at r lt = sent_rows-at E.base E.base_eq traces lookups r (omega (arith, high, lt))

    -- rows without faults
    pub none_between : HaveNoFault E denominator (window_of traces) lookups first end → faults_between E denominator (sent_rows E.base E.base_eq traces lookups) first end ≡ []
    unfolding rows sents
    none_between none =
        none_on rows sents at first (end - first) (omega (arith, high, from, up_to)) (λ r low before. none r low (omega (arith, before, from)))

    -- the first fault on them
    pub refused_between : (e : LookupError) → RefusesFirstFault E denominator (window_of traces) lookups first end e → IsFirstOf (faults_between E denominator (sent_rows E.base E.base_eq traces lookups) first end) e
    unfolding rows sents
    refused_between e (inl memory) = inl memory
    refused_between e (inr is) =
        inr (first_on rows sents at first (end - first) is.row e (omega (arith, high, from, up_to)) is.from (omega (arith, is.before, from)) is.faultless is.fault_is)

  -- a fault after rows without one is the first of all
  pub refused_later : (window : ℕ → Window F) (lookups : List (Lookup F)) (first next until end : ℕ) (e : LookupError) → first ≤ next → until ≤ end → HaveNoFault E denominator window lookups first next → RefusesFirstFault E denominator window lookups next until e → RefusesFirstFault E denominator window lookups first end e
  refused_later window lookups first next until end e further within none (inl memory) = inl memory
  refused_later window lookups first next until end e further within none (inr is) = inr (record {
    row = is.row;
    from = omega (arith, further, is.from);
    before = omega (arith, is.before, within);
    fault_is = is.fault_is;
    faultless = λ r low high. elim (cases_lt r next) [
      | inl earlier ↦ none r low earlier
      | inr late ↦ is.faultless r late high
    ];
  })
