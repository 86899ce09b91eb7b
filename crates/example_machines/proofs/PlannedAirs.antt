-- The plan of a machine's AIRs over the rows of its input: its ids, its batch, and why it is refused.
use Rattle.std.proofs.Common.{◌≡◌, ◌<◌, ◌≤◌, ◌+◌, ◌*◌, ◌++◌, ℕ, suc, Bool, IsTrue, List, [], ◌∷◌, All, inl, inr, length, get_or, map, refl, sym, ap, ap₂, subst, subst₂, arith, ◌∙◌}
use Rattle.std.proofs.lemmas.List.{length-map}
use Rattle.std.proofs.lemmas.List.Elements.{All-cons, All-nil, All-from_recursion, All-map}
use Rattle.std.proofs.lemmas.List.Sums.{sum_by-cons}
use Rattle.std.specs.List.{AllZip, sum_by, zip}
use Rattle.list_laws.proofs.Items.{one_of}
use Rattle.list_laws.proofs.Images.{one_item, two_items}
use Rattle.field.specs.Ring.{Ring}
use Rattle.matrix.specs.Matrix.{Matrix, height}
use Rattle.lookup_model.specs.Outline.{bus_of}
use Rattle.lookup_model.specs.declared.error.LookupError.{LookupError}
use Rattle.lookup_model.specs.declared.types.Lookup.{Lookup}
use Rattle.lookup.specs.Guards.{IsHeightRefusal, weighted_height, weighted_height_sum}
use Rattle.lookup.specs.Lookups.{lookups_of}
use Rattle.lookup.specs.declared.lookups.Lookups.{Lookups}
use Rattle.batch.specs.Checks.{IsPlanRefusal}
use Rattle.batch.specs.Order.{AreInOrder, same_bus}
use Rattle.batch.specs.PlanFacts.{AreNumbered, lookups_with_ids}
use Rattle.batch.specs.Traces.{FitsAt, batch_over}
use Rattle.batch.specs.declared.error.BatchError.{BatchError}
use Rattle.batch.specs.declared.error.BatchError.TheVariants.{Lookup as OfLookup}
use Rattle.batch.specs.declared.trace.BatchTrace.{BatchTrace}
use Rattle.example_machines.specs.Machines.{air_bus_and_weight, machine_air_trace, airs_of, input_columns, first_column_of, width_of}
use Rattle.example_machines.specs.Program.{height_sum}
use Rattle.batch.specs.Traces.{traces_of_main, view_of}
use Rattle.example_machines.specs.declared.airs.MachineAir.{MachineAir}
use Rattle.example_machines.specs.declared.airs.MachineAir.TheVariants.{Entries, Group, Keys, RangeCheck}
use Rattle.example_machines.specs.declared.machine.Machine.{Machine}
use Rattle.example_machines.specs.declared.machine.Machine.TheVariants.{Bus, Exclusive, Range}
use Rattle.example_machines.specs.declared.traces.AirTrace.{AirTrace}
use Rattle.example_machines.specs.internal.Traces.{IsTraceOf}
use Rattle.example_machines.proofs.BatchLaws.{airs_within, fitting, ids, instance, one_lookup}
use Rattle.list_laws.proofs.Zips.{AllZip-right}
use Rattle.example_machines.proofs.PlannedWidths.{AreOnes, no_bus_mismatch, no_local_mismatch}

module _ {F : Type 0} where
  -- the lookups and the heights of some AIRs
  abbrev pub sets : List (AirTrace F) → List (Lookups F)
  sets traces = map (λ t. t.lookups) traces

  abbrev pub heights : List (AirTrace F) → List ℕ
  heights traces = map (λ t. height t.main) traces

  -- ids in order of one lookup, and of two on one bus
  one_id : (id m : ℕ) (l : Lookup F) → AreInOrder ((id, l) ∷ []) m → (id ≡ 0) × (m ≡ 1)
  one_id id m l order =
      let low : id ≤ 0 = order.steps 0 (id, l) (omega arith) in
      (omega (arith, low), omega (arith, low, order.count))

  two_ids : (i j m : ℕ) (l k : Lookup F) → AreInOrder ((i, l) ∷ (j, k) ∷ []) m → IsTrue (same_bus (bus_of l.kind) (bus_of k.kind)) → (i ≡ 0) × (j ≡ 0) × (m ≡ 1)
  two_ids i j m l k order shared =
      let low : i ≤ 0 = order.steps 0 (i, l) (omega arith) in
      let same : i ≡ j = (order.buses 0 1 (i, l) (omega arith) (omega arith)).1 shared in
      (omega (arith, low), omega (arith, low, same), omega (arith, low, same, order.count))

  -- the batch of AIRs, all of whose lookups have id 0
  pub batch_is : (traces : List (AirTrace F)) (shown : List (BatchTrace F)) → map view_of shown ≡ map (λ t. traces_of_main t.main) traces → batch_over (map (λ t. ids) traces) (sets traces) shown ≡ map instance traces
  batch_is [] [] same = refl
  batch_is (t ∷ ts) (b ∷ bs) same =
      let head : view_of b ≡ traces_of_main t.main = ap (λ all. get_or all 0 (view_of b)) same in
      let rest : map view_of bs ≡ map (λ u. traces_of_main u.main) ts = cc same in
      ap₂ (λ x xs. x ∷ xs) (λ i. record { lookups = lookups_of t.lookups; traces = head i; ids = ids }) (batch_is ts bs rest)
  batch_is ts bs same = absurd (cc same)

module _ {F : Type 0} (R : Ring F) (eq : F → F → Bool) (input : Matrix F) where
  -- the tuples of these AIRs have one value
  pub sets_ones : (airs : List MachineAir) (traces : List (AirTrace F)) → AllZip (IsTraceOf R eq input) airs traces → All AreOnes (sets traces)
  sets_ones airs traces all =
      All-map AreOnes (λ t. t.lookups) traces (All-from_recursion (λ t. AreOnes t.lookups) traces (AllZip-right (IsTraceOf R eq input) (λ t. AreOnes t.lookups) (λ a t is. is.lookups.widths) airs traces all))

  -- each weight times its height is that of the AIR
  weights_are : (airs : List MachineAir) (traces : List (AirTrace F)) → AllZip (IsTraceOf R eq input) airs traces
      → weighted_height_sum (map lookups_of (sets traces)) (heights traces) ≡ sum_by (λ air. (air_bus_and_weight air).1 * height (machine_air_trace air input)) airs
  weights_are [] [] all = refl
  weights_are (a ∷ later) (t ∷ ts) all =
      let one = one_lookup R eq input a t all.0 in
      let weight : sum_by (λ (l : Lookup F). l.count_weight) (lookups_of t.lookups) ≡ (air_bus_and_weight a).1 = ap (sum_by (λ (l : Lookup F). l.count_weight)) one.1 ∙ alone one.0 ∙ ap (λ p. p.1) one.2 in
      let tall : height t.main ≡ height (machine_air_trace a input) = ap height all.0.main in
      sum_by-cons weighted_height (lookups_of t.lookups, height t.main) (zip (map lookups_of (sets ts)) (heights ts))
      ∙ ap₂ (λ x y. x + y) (ap₂ (λ x y. x * y) weight tall) (weights_are later ts all.1)
      ∙ sym (sum_by-cons (λ air. (air_bus_and_weight air).1 * height (machine_air_trace air input)) a later)
    where
      alone : (l : Lookup F) → sum_by (λ (k : Lookup F). k.count_weight) (l ∷ []) ≡ l.count_weight
      alone l = sum_by-cons (λ (k : Lookup F). k.count_weight) l [] ∙ omega arith
  weights_are airs traces all = absurd all

  -- all of them fit, at their heights
  pub fitted : (airs : List MachineAir) (traces : List (AirTrace F)) → All (λ air. first_column_of air + width_of air ≤ input.width) airs → 0 < height input → AllZip (IsTraceOf R eq input) airs traces
      → All FitsAt (zip (map instance traces) (heights traces))
  fitted [] [] holds some all = All-nil FitsAt
  fitted (a ∷ later) (t ∷ ts) holds some all =
      All-cons FitsAt (instance t, height t.main) (zip (map instance ts) (heights ts))
      (refl, fitting R eq input a t all.0 (holds 0 a (omega arith)) some)
      (fitted later ts (λ n d lt. holds (suc n) d (omega (arith, lt))) some all.1)
  fitted airs traces holds some all = absurd all

  -- the id of one AIR
  alone_ids : (air : MachineAir) (t : AirTrace F) → IsTraceOf R eq input air t → (given : List (List ℕ)) (m : ℕ) → AreNumbered given (t.lookups ∷ []) m → (given ≡ ids ∷ []) × (m ≡ 1)
  alone_ids air t is given m numbered =
      let l = one_lookup R eq input air t is in
      let part = one_item length given (length (lookups_of t.lookups)) numbered.as_many in
      let id = one_of part.0 (part.2 ∙ ap length l.1) in
      let given_is : given ≡ (id.0 ∷ []) ∷ [] = part.1 ∙ ap (λ xs. xs ∷ []) id.1 in
      let order : AreInOrder ((id.0, l.0) ∷ []) m = subst (λ all. AreInOrder all m) (ap (λ is. lookups_with_ids is (t.lookups ∷ [])) given_is ∙ ap (λ ls. zip (id.0 ∷ []) ls ++ []) l.1) numbered.in_order in
      let zeros = one_id id.0 m l.0 order in
      (given_is ∙ ap (λ i. (i ∷ []) ∷ []) zeros.0, zeros.1)

  -- the ids of two AIRs on one bus
  bus_ids : (t u : AirTrace F) → IsTraceOf R eq input Keys t → IsTraceOf R eq input Entries u → (given : List (List ℕ)) (m : ℕ) → AreNumbered given (t.lookups ∷ u.lookups ∷ []) m → (given ≡ ids ∷ ids ∷ []) × (m ≡ 1)
  bus_ids t u keys entries given m numbered =
      let l = one_lookup R eq input Keys t keys in
      let k = one_lookup R eq input Entries u entries in
      let parts = two_items length given (length (lookups_of t.lookups)) (length (lookups_of u.lookups)) numbered.as_many in
      let i = one_of parts.0 (parts.3 ∙ ap length l.1) in
      let j = one_of parts.1 (parts.4 ∙ ap length k.1) in
      let given_is : given ≡ (i.0 ∷ []) ∷ (j.0 ∷ []) ∷ [] = parts.2 ∙ ap₂ (λ xs ys. xs ∷ ys ∷ []) i.1 j.1 in
      let order : AreInOrder ((i.0, l.0) ∷ (j.0, k.0) ∷ []) m =
      subst (λ all. AreInOrder all m) (ap (λ is. lookups_with_ids is (t.lookups ∷ u.lookups ∷ [])) given_is ∙ ap₂ (λ ls ks. zip (i.0 ∷ []) ls ++ (zip (j.0 ∷ []) ks ++ [])) l.1 k.1) numbered.in_order in
      let shared : IsTrue (same_bus (bus_of l.0.kind) (bus_of k.0.kind)) = subst₂ (λ a b. IsTrue (same_bus a b)) (sym (ap (λ p. p.0) l.2)) (sym (ap (λ p. p.0) k.2)) refl in
      let zeros = two_ids i.0 j.0 m l.0 k.0 order shared in
      (given_is ∙ ap₂ (λ a b. (a ∷ []) ∷ (b ∷ []) ∷ []) zeros.0 zeros.1, zeros.2)

  -- the ids of a machine: 0 for each lookup
  pub machine_ids : (machine : Machine) (traces : List (AirTrace F)) → AllZip (IsTraceOf R eq input) (airs_of machine) traces → (given : List (List ℕ)) (m : ℕ) → AreNumbered given (sets traces) m
      → (given ≡ map (λ t. ids) traces) × (m ≡ 1)
  machine_ids Range (t ∷ []) all given m numbered = alone_ids RangeCheck t all.0 given m numbered
  machine_ids Exclusive (t ∷ []) all given m numbered = alone_ids Group t all.0 given m numbered
  machine_ids Bus (t ∷ u ∷ []) all given m numbered = bus_ids t u all.0 all.1.0 given m numbered
  machine_ids machine traces all given m numbered = absurd (grind (arith, all))

  module _ (machine : Machine) (traces : List (AirTrace F)) (all : AllZip (IsTraceOf R eq input) (airs_of machine) traces) where
    -- the height sum of a plan is that of the machine
    pub height_sum_is : weighted_height_sum (map lookups_of (sets traces)) (heights traces) ≡ height_sum machine input
    height_sum_is = weights_are (airs_of machine) traces all

    -- as many heights as AIRs
    as_many : length (heights traces) ≡ length (sets traces)
    as_many = length-map traces (λ t. height t.main) ∙ sym (length-map traces (λ t. t.lookups))

    -- a plan is refused for its height sum alone
    pub refused_for_height : (p : ℕ) → 1 < p → (e : BatchError) → IsPlanRefusal p (sets traces) (heights traces) e → (error : LookupError) × IsHeightRefusal p (height_sum machine input) error × (e ≡ OfLookup error)
    refused_for_height p prime e (inl lengths) = absurd (lengths.0 as_many)
    refused_for_height p prime e (inr (same, inl (error, first, is))) = absurd (no_bus_mismatch (sets traces) (sets_ones (airs_of machine) traces all) error first)
    refused_for_height p prime e (inr (same, inr (agree, inl (error, first, is)))) = absurd (no_local_mismatch (sets traces) (sets_ones (airs_of machine) traces all) error first)
    refused_for_height p prime e (inr (same, inr (agree, inr (even, inl (given, m, numbered, above, is))))) = absurd (omega (arith, prime, above, (machine_ids machine traces all given m numbered).1))
    refused_for_height p prime e (inr (same, inr (agree, inr (even, inr (few, (error, refusal, is)))))) =
        (error, subst (λ (sum : ℕ). IsHeightRefusal p sum error) height_sum_is refusal, is)

    -- its batch is within the columns of the input
    pub machine_fits : input.width ≡ input_columns machine → 0 < height input → All FitsAt (zip (map instance traces) (heights traces))
    machine_fits wide some = fitted (airs_of machine) traces (λ n d lt. omega (arith, airs_within machine n d lt, wide)) some all
