-- A witness is accepted exactly where solutions of the equations of a batch can sum to zero. The
-- fractions of a satisfied witness solve them, and its terminals are their sums; and solutions make
-- such a witness.
use Rattle.std.proofs.Common.{◌≡◌, ℕ, zero, suc, ◌+◌, ◌-◌, ◌<◌, Option, Some, List, [], ◌∷◌, length, map, slice_index_or, refl, sym, ap, subst, ◌∙◌, arith, None, ◌++◌, take, get_or, ◌↔◌}
use Rattle.std.proofs.lemmas.List.{append-nil, length-map, take_all, take_more}
use Rattle.std.specs.List.{AllByRecursion, AllZip, flat_map, range_with_len}
use Rattle.std.proofs.lemmas.Grind.{flat_map-append}
use Rattle.std.proofs.lemmas.List.FromFn.{length-range_with_len}
use Rattle.std.proofs.lemmas.Slice.Zip.{AllZip-long}
use Rattle.list_laws.proofs.Zips.{AllZip-of_one, AllZip-flat_of_one, AllZip-ranged, AllZip-at, AllZip-rows}
use Rattle.list_laws.proofs.Each.{all_range, each_of}
use Rattle.list_laws.proofs.Parts.{nothing_flat}
use Rattle.list_laws.proofs.Images.{mapped_at}
use Rattle.field.specs.laws.Distinct.{all_weaker}
use Rattle.field.specs.laws.RingFacts.{same_from_difference, zero_add}
use Rattle.field.specs.Sums.{sum_in}
use Rattle.field.specs.Extension.{Extension, IsLawful}
use Rattle.field.specs.Ring.{sub_in}
use Rattle.matrix.specs.Matrix.{Matrix, height}
use Rattle.air_expressions.specs.Window.{ExtWindow}
use Rattle.lookup_model.specs.Challenges.{ChallengeTable, column_challenges}
use Rattle.lookup_model.specs.Constraints.{accumulator_at, fraction_at, terminal_at}
use Rattle.lookup_model.specs.Terminals.{terminal_sum, terminal_value}
use Rattle.lookup_model.specs.Witness.{values_of_terminal, witness_window, IsSatisfied}
use Rattle.lookup_model.specs.declared.types.Lookup.{Lookup}
use Rattle.lookup_model.specs.declared.types.LookupTerminal.{LookupTerminal}
use Rattle.lookup_model.specs.internal.Equations.{CanSumTo, Equation, Solves, air_equations, batch_equations, challenged_window, equation_at, row_equations}
use Rattle.lookup_model.specs.Batches.Instances.{Instance, IsFitting}
use Rattle.lookup_model.specs.Batches.Witnesses.{AirResult, AreSatisfied, IsSatisfiedAt}
use Rattle.lookup_model.specs.Records.{AreRecords}
use Rattle.lookup_model.specs.Batches.Existence.{HasAccepted}
use Rattle.lookup_model.proofs.SumLaws.{sum_in-append}
use Rattle.lookup_model.proofs.Lookups.FractionSums.{terminal_is_sum}
use Rattle.lookup_model.proofs.Lookups.SatisfiedWitnesses.{fraction_zeros}
use Rattle.lookup_model.proofs.Lookups.PlainResults.{shape-none, shape-some}
use Rattle.lookup_model.proofs.Batches.SolutionSums.{sum_of_none, sums_together, none_sums, sums_apart}
use Rattle.lookup_model.proofs.Lookups.RunningSums.{auxiliary, running_satisfied}
use Rattle.lookup_model.proofs.Lookups.SatisfiedRows.{none_satisfied}

module _ {F K : Type 0} {E : Extension F K} (laws : IsLawful E) (table : ChallengeTable K) where
  module _ (i : Instance F) (some : 0 < length i.lookups) (nonempty : 0 < height i.traces.main) (auxiliary : Matrix K) (terminal : Option (LookupTerminal K)) (satisfied : IsSatisfiedAt E table i (auxiliary, terminal)) where
    abbrev window_of : ℕ → ExtWindow F K
    window_of r = witness_window i.traces (column_challenges table i.ids) auxiliary terminal r

    abbrev fractions_on : ℕ → List K
    fractions_on r = map (λ lookup. fraction_at E lookup.column (window_of r)) i.lookups

    -- the fractions of a row solve its equations
    solved_on : (r : ℕ) → r < height i.traces.main → AllZip (Solves E.ring) (row_equations E (challenged_window E table i r) i.lookups) (fractions_on r)
    solved_on r lt =
        AllZip-of_one (Solves E.ring) (equation_at E (challenged_window E table i r)) (λ lookup. fraction_at E lookup.column (window_of r)) i.lookups
        (all_weaker _ (λ lookup. Solves E.ring (equation_at E (challenged_window E table i r) lookup) (fraction_at E lookup.column (window_of r)))
        (λ lookup is_zero. same_from_difference laws.ring _ _ is_zero) i.lookups (fraction_zeros laws i.traces i.lookups (column_challenges table i.ids) auxiliary terminal r (satisfied.equations r lt)))

    -- an AIR with lookups
    some_sums : CanSumTo E.ring (air_equations E table i) (terminal_value E.ring terminal)
    some_sums =
        let all_rows : height i.traces.main ≡ height i.traces.main - 0 = omega arith in
        record {
          fractions = flat_map fractions_on (range_with_len 0 (height i.traces.main));
          solve = AllZip-flat_of_one (Solves E.ring) (λ r. row_equations E (challenged_window E table i r) i.lookups) fractions_on (range_with_len 0 (height i.traces.main)) (all_range _ 0 (height i.traces.main) (λ r lt. solved_on r (omega (arith, lt))));
          sum = ap (λ (n : ℕ). sum_in E.ring (flat_map fractions_on (range_with_len 0 n))) all_rows ∙ sym (terminal_is_sum laws i.traces i.lookups (column_challenges table i.ids) auxiliary terminal (λ _. nonempty) satisfied);
        }

  -- the terminal of an AIR is a sum of its fractions
  pub result_sums : (i : Instance F) → IsFitting i → (result : AirResult K) → IsSatisfiedAt E table i result → CanSumTo E.ring (air_equations E table i) (terminal_value E.ring result.1)
  result_sums i fitting (auxiliary, terminal) satisfied = by_lookups i.lookups refl
    where
      by_lookups : (ls : List (Lookup F)) → i.lookups ≡ ls → CanSumTo E.ring (air_equations E table i) (terminal_value E.ring terminal)
      by_lookups [] is =
          let none = shape-none i.lookups (height i.traces.main) auxiliary terminal is satisfied.shape in
          let empty : air_equations E table i ≡ [] =
          nothing_flat (λ r. row_equations E (challenged_window E table i r) i.lookups) (range_with_len 0 (height i.traces.main)) (each_of _ (λ r. ap (row_equations E (challenged_window E table i r)) is) (range_with_len 0 (height i.traces.main))) in
          subst (λ (es : List (Equation K)). CanSumTo E.ring es (terminal_value E.ring terminal)) (sym empty)
          (subst (CanSumTo E.ring []) (ap (terminal_value E.ring) (sym none.1)) (sum_of_none laws.ring))
      by_lookups (l ∷ ls) is =
          let some : 0 < length i.lookups = omega (arith, ap length is) in
          some_sums i some (fitting.nonempty some) auxiliary terminal satisfied

  -- so is the sum of all terminals of a batch
  pub witness_sums : (instances : List (Instance F)) → AllByRecursion IsFitting instances → (witness : List (AirResult K)) → AreSatisfied E table instances witness → CanSumTo E.ring (batch_equations E table instances) (terminal_sum E.ring (map (λ r. r.1) witness))
  witness_sums [] fitting [] satisfied = sum_of_none laws.ring
  witness_sums [] fitting (r ∷ rs) satisfied = absurd satisfied
  witness_sums (i ∷ is) fitting [] satisfied = absurd satisfied
  witness_sums (i ∷ is) fitting (r ∷ rs) satisfied =
      sums_together laws.ring (air_equations E table i) (batch_equations E table is) (terminal_value E.ring r.1) (terminal_sum E.ring (map (λ t. t.1) rs))
      (result_sums i fitting.0 r satisfied.0) (witness_sums is fitting.1 rs satisfied.1)

module _ {F K : Type 0} {E : Extension F K} (laws : IsLawful E) (table : ChallengeTable K) where
  module _ (i : Instance F) (records : AreRecords i.lookups) (some : 0 < length i.lookups) (rows : List (List K)) (each : AllZip (λ (r : ℕ) (row : List K). AllZip (Solves E.ring) (row_equations E (challenged_window E table i r) i.lookups) row) (range_with_len 0 (height i.traces.main)) rows) where
    abbrev given_on : ℕ → List K
    given_on r = get_or rows r []

    -- the fractions of the first rows
    abbrev sum_below : ℕ → K
    sum_below r = sum_in E.ring (flat_map (λ row. row) (take r rows))

    abbrev total : K
    total = sum_in E.ring (flat_map (λ row. row) rows)

    many : length rows ≡ height i.traces.main
    many = AllZip-long (λ (r : ℕ) (row : List K). AllZip (Solves E.ring) (row_equations E (challenged_window E table i r) i.lookups) row) (range_with_len 0 (height i.traces.main)) rows each ∙ length-range_with_len 0 (height i.traces.main)

    given_solves : (r : ℕ) → r < height i.traces.main → AllZip (Solves E.ring) (row_equations E (challenged_window E table i r) i.lookups) (given_on r)
    given_solves r lt =
        let same : 0 + r ≡ r = omega arith in
        subst (λ (n : ℕ). AllZip (Solves E.ring) (row_equations E (challenged_window E table i n) i.lookups) (given_on r)) same
        (AllZip-ranged (λ (n : ℕ) (row : List K). AllZip (Solves E.ring) (row_equations E (challenged_window E table i n) i.lookups) row) 0 (height i.traces.main) r rows [] lt each)

    length-fractions : (r : ℕ) → r < height i.traces.main → length (given_on r) ≡ length i.lookups
    length-fractions r lt =
        AllZip-long (Solves E.ring) (row_equations E (challenged_window E table i r) i.lookups) (given_on r) (given_solves r lt) ∙ length-map i.lookups (equation_at E (challenged_window E table i r))

    -- the sum after a row, and after the last one
    goes_on : (r : ℕ) → r < height i.traces.main → sum_below (r + 1) ≡ E.ring.add (sum_below r) (sum_in E.ring (given_on r))
    goes_on r lt =
        ap (λ rs. sum_in E.ring (flat_map (λ row. row) rs)) (take_more rows r [] (omega (arith, many, lt)))
        ∙ ap (sum_in E.ring) (flat_map-append (λ row. row) (take r rows) (given_on r ∷ []))
        ∙ sum_in-append laws.ring (flat_map (λ row. row) (take r rows)) (given_on r ++ [])
        ∙ ap (λ fs. E.ring.add (sum_below r) (sum_in E.ring fs)) (append-nil (given_on r))

    ends : (r : ℕ) → r + 1 ≡ height i.traces.main → total ≡ sum_below (r + 1)
    ends r last = ap (λ rs. sum_in E.ring (flat_map (λ row. row) rs)) (sym (take_all (r + 1) rows (omega (arith, many, last))))

    -- each fraction solves its equation
    solved_at : (r : ℕ) → r < height i.traces.main → (k : ℕ) (lookup : Lookup F) → k < length i.lookups → lookup ≡ get_or i.lookups k lookup → Solves E.ring (equation_at E (challenged_window E table i r) lookup) (get_or (given_on r) k E.ring.zero)
    solved_at r lt k lookup below is =
        let e = equation_at E (challenged_window E table i r) in
        AllZip-at (Solves E.ring) (map e i.lookups) (given_on r) k (e lookup) E.ring.zero (omega (arith, length-map i.lookups e, below)) (mapped_at e i.lookups k lookup below is) (given_solves r lt)

    -- the result with lookups
    made_satisfied : IsSatisfied E i.traces i.lookups (column_challenges table i.ids) (auxiliary laws (column_challenges table i.ids) i.traces i.lookups records some sum_below given_on total) (Some (record { 0 = total }))
    made_satisfied =
        running_satisfied laws (column_challenges table i.ids) i.traces i.lookups records some sum_below given_on total length-fractions refl goes_on ends (λ r lt k lookup below is f_is.
        let e = equation_at E (challenged_window E table i r) lookup in
        ap (λ f. sub_in E.ring (E.ring.mul e.denominator f) e.numerator) f_is ∙ ap (λ t. sub_in E.ring t e.numerator) (solved_at r lt k lookup below is) ∙ laws.ring.add_neg e.numerator)

  -- each sum of the fractions of an AIR is the terminal of a result
  pub result_of_sum : (i : Instance F) → IsFitting i → (total : K) → CanSumTo E.ring (air_equations E table i) total → (result : AirResult K) × IsSatisfiedAt E table i result × (terminal_value E.ring result.1 ≡ total)
  result_of_sum i fitting total sums = by_lookups i.lookups refl
    where
      by_lookups : (ls : List (Lookup F)) → i.lookups ≡ ls → (result : AirResult K) × IsSatisfiedAt E table i result × (terminal_value E.ring result.1 ≡ total)
      by_lookups [] is =
          let empty : air_equations E table i ≡ [] =
          nothing_flat (λ r. row_equations E (challenged_window E table i r) i.lookups) (range_with_len 0 (height i.traces.main)) (each_of _ (λ r. ap (row_equations E (challenged_window E table i r)) is) (range_with_len 0 (height i.traces.main))) in (
            (record { values = []; width = 0 }, None),
            none_satisfied E i.traces (column_challenges table i.ids) i.lookups (record { values = []; width = 0 }) is refl,
            none_sums laws.ring total (subst (λ (es : List (Equation K)). CanSumTo E.ring es total) empty sums),
          )
      by_lookups (l ∷ ls) is =
          let some : 0 < length i.lookups = omega (arith, ap length is) in
          let (rows, each, joined) = AllZip-rows (Solves E.ring) (λ r. row_equations E (challenged_window E table i r) i.lookups) 0 (height i.traces.main) sums.fractions sums.solve in
          (_, made_satisfied i fitting.fit.records some rows each, ap (sum_in E.ring) joined ∙ sums.sum)

  -- each sum of the fractions of a batch is the sum of the terminals of a satisfied witness
  pub witness_of_sum : (instances : List (Instance F)) → AllByRecursion IsFitting instances → (total : K) → CanSumTo E.ring (batch_equations E table instances) total → (witness : List (AirResult K)) × AreSatisfied E table instances witness × (terminal_sum E.ring (map (λ r. r.1) witness) ≡ total)
  witness_of_sum [] fitting total sums = ([], tt, none_sums laws.ring total sums)
  witness_of_sum (i ∷ is) fitting total sums =
      let (a, b, first, second, sum) = sums_apart laws.ring (air_equations E table i) (batch_equations E table is) total sums in
      let (result, satisfied, here) = result_of_sum i fitting.0 a first in
      let (results, others, rest) = witness_of_sum is fitting.1 b second in
      (result ∷ results, (satisfied, others), (λ j. E.ring.add (here j) (rest j)) ∙ sum)

module _ {F K : Type 0} {E : Extension F K} (laws : IsLawful E) (table : ChallengeTable K) (instances : List (Instance F)) (fitting : AllByRecursion IsFitting instances) where
  pub accepted_by_sum : HasAccepted E table instances ↔ CanSumTo E.ring (batch_equations E table instances) E.ring.zero
  accepted_by_sum = (
    (λ (witness, accepted). subst (CanSumTo E.ring (batch_equations E table instances)) accepted.balanced (witness_sums laws table instances fitting witness accepted.satisfied)),
    (λ sums.
        let (witness, satisfied, balanced) = witness_of_sum laws table instances fitting E.ring.zero sums in
        (witness, record { satisfied = satisfied; balanced = balanced })),
  )
