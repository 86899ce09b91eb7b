-- The check of one AIR's result: from its shape and its rows to satisfied constraints.
use Rattle.std.proofs.Common.{◌≡◌, ℕ, ◌+◌, ◌%◌, ◌<◌, ◌≤◌, Option, List, Result, Ok, Err, IfOk, length, sym, subst, arith}
use Rattle.std.specs.List.{AllByRecursion}
use Rattle.std.specs.Option.{is_some}
use Rattle.matrix.specs.Matrix.{Matrix, height, row}
use Rattle.air.specs.Traces.{AirTraces, height_of, window_of}
use Rattle.air_expressions.specs.Window.{ExtWindow}
use Rattle.lookup_model.specs.Challenges.{ChallengeTable, column_challenges}
use Rattle.lookup_model.specs.Constraints.{lookup_constraints}
use Rattle.field.specs.Extension.{Extension, IsLawful}
use Rattle.lookup_model.specs.Witness.{HoldsOnRow, IsSatisfied, TerminalIsSum, has_terminal, values_of_terminal}
use Rattle.lookup_model.specs.declared.types.LookupTerminal.{LookupTerminal}
use Rattle.lookup_model.specs.declared.types.Lookup.{Lookup}
use Rattle.lookup_model.specs.Batches.Instances.{Instance}
use Rattle.lookup_model.specs.Batches.Refusals.{HoldsAt}
use Rattle.lookup_model.specs.Batches.Witnesses.{AirResult}
use Rattle.lookup_model.proofs.Lookups.FractionSums.{add_up, terminal_is_sum}
use Rattle.checker_witness.specs.Columns.{ColumnsHoldUntil, IsFirstFailingRowOfColumns}
use Rattle.checker_witness.specs.Ranges.{ChecksJoin, RangeAddsUp}
use Rattle.checker_witness.proofs.UntilLaws.{joined}

module _ {F K : Type 0} (E : Extension F K) (traces : AirTraces F) (lookups : List (Lookup F)) (challenges : List K) where
  -- every constraint is zero on a row, over these permutation values
  abbrev IsZeroOn : Matrix K → ℕ → List K → Type 0
  IsZeroOn auxiliary r values =
      let w : ExtWindow F K = record {
        base = window_of traces r;
        permutation = row auxiliary r;
        permutation_next = row auxiliary ((r + 1) % height traces.main);
        challenges = challenges;
        permutation_values = values;
      } in
      AllByRecursion (λ constraint. constraint.meaning w ≡ E.ring.zero) (lookup_constraints E lookups)

  module _ (auxiliary : Matrix K) (terminal : Option (LookupTerminal K)) (values : List K) (values_are : values ≡ values_of_terminal terminal) where
    -- over the terminal they are the constraints of the AIR
    pub holds_from : (r : ℕ) → IsZeroOn auxiliary r values → HoldsOnRow E traces lookups challenges auxiliary terminal r
    holds_from r zeros = subst (IsZeroOn auxiliary r) values_are zeros

    pub zeros_from : (r : ℕ) → HoldsOnRow E traces lookups challenges auxiliary terminal r → IsZeroOn auxiliary r values
    zeros_from r holds = subst (IsZeroOn auxiliary r) (sym values_are) holds

  -- the first row that fails in a range, after rows that hold, is the first of all
  pub first_failing : (result : AirResult K) (first end r : ℕ) → ((s : ℕ) → s < first → HoldsOnRow E traces lookups challenges result.0 result.1 s) → end ≤ height traces.main → ColumnsHoldUntil E traces lookups challenges result first end r → r < end → IsFirstFailingRowOfColumns E traces lookups challenges result r
  first_failing result first end r so_far within until lt = record {
    within = omega (arith, lt, within);
    fails = until.fails lt;
    before = λ s earlier. joined (HoldsOnRow E traces lookups challenges result.0 result.1) 0 first end r (λ t low high. so_far t high) until s (omega arith) earlier;
  }

  -- the terminal of a satisfied result is the sum of its fractions
  pub satisfied_sum : IsLawful E → (0 < length lookups → 0 < height_of traces) → (result : AirResult K) → IsSatisfied E traces lookups challenges result.0 result.1 → IsSatisfied E traces lookups challenges result.0 result.1 × TerminalIsSum E traces lookups result.0 result.1
  satisfied_sum laws nonempty result satisfied =
      (satisfied, terminal_is_sum laws traces lookups challenges result.0 result.1 nonempty satisfied)

  -- the rows of a range add up, where all constraints hold on them
  pub range_adds_up : IsLawful E → (ids : List ℕ) (result : AirResult K) → has_terminal lookups ≡ is_some result.1 → (first end r : ℕ) → end ≤ height traces.main → ColumnsHoldUntil E traces lookups challenges result first end r → RangeAddsUp E (record { lookups = lookups; traces = traces; ids = ids }) result first end r
  range_adds_up laws ids result presence first end r within until some lt is =
      add_up laws traces lookups challenges result.0 result.1 some presence first end lt within (λ s from to. until.holds s from (omega (arith, to, is)))

  -- the same of an answer
  pub answer_adds_up : {X : Type 0} → IsLawful E → (ids : List ℕ) (result : AirResult K) → has_terminal lookups ≡ is_some result.1 → (first end : ℕ) → end ≤ height traces.main → (answer : Result ℕ X) → IfOk answer (ColumnsHoldUntil E traces lookups challenges result first end) → IfOk answer (RangeAddsUp E (record { lookups = lookups; traces = traces; ids = ids }) result first end)
  answer_adds_up laws ids result presence first end within (Ok r) until = range_adds_up laws ids result presence first end r within until
  answer_adds_up laws ids result presence first end within (Err e) until = until

module _ {F K : Type 0} (E : Extension F K) (table : ChallengeTable K) (i : Instance F) where
  -- checks of ranges join
  pub checks_join_of : IsLawful E → (result : AirResult K) → ChecksJoin E table i result
  checks_join_of laws result = record {
    holds = λ first middle end r from to one other. record {
      from = omega (arith, from, other.from);
      up_to = other.up_to;
      holds = joined (HoldsAt E table i result) first middle end r one.holds other;
      fails = other.fails;
    };
    fails = λ first middle end r to lt one. record {
      from = one.from;
      up_to = omega (arith, lt, to);
      holds = one.holds;
      fails = λ before. one.fails lt;
    };
    all_rows = λ shape nonempty until. satisfied_sum E i.traces i.lookups (column_challenges table i.ids) laws nonempty result (record { shape = shape; equations = λ r lt. until.holds r (omega arith) lt });
    sums = λ shape first end r within until. range_adds_up E i.traces i.lookups (column_challenges table i.ids) laws i.ids result shape.presence first end r within until;
    refused = λ r lt until. first_failing E i.traces i.lookups (column_challenges table i.ids) result 0 (height i.traces.main) r (λ s none. absurd (omega (arith, none))) (omega arith) until lt;
  }
