-- Where no denominator vanishes one fraction alone satisfies the constraint of a lookup. So the plain
-- result is the only satisfied witness of an AIR, and of a batch.
use Rattle.std.proofs.Common.{◌≡◌, ◌≢◌, ℕ, ◌≤◌, Bool, true, false, ◌||◌, Option, None, Some, IfSome, List, [], ◌∷◌, length, map, refl, sym, ◌∙◌, arith, zero, suc, ◌+◌, ◌*◌, ◌-◌, ◌<◌, drop, get_or, slice_index_or, ap, subst}
use Rattle.std.specs.List.{AllByRecursion, flat_map, range_with_len}
use Rattle.std.proofs.lemmas.List.{ext_get_or, get_or_default, length-drop, length-map, length-take, take_all}
use Rattle.list_laws.proofs.Each.{all_kept, all_here, all_indexed, all_parts, all_weaker, all_front, all_back}
use Rattle.list_laws.proofs.Images.{map-map, mapped_at, same_map}
use Rattle.list_laws.proofs.Items.{item_at}
use Rattle.list_laws.proofs.Parts.{joined_rows, same_parts}
use Rattle.field.specs.Ring.{sub_in}
use Rattle.field.specs.laws.RingFacts.{domain_cancel, product_nonzero, same_from_difference}
use Rattle.field.specs.laws.RingSolver.{var, con, ◌:+◌, ◌:-◌, ring_law}
use Rattle.field.specs.Sums.{sum_in}
use Rattle.field.specs.Extension.{Extension, IsLawful}
use Rattle.field.specs.laws.Distinct.{all_both}
use Rattle.matrix.specs.Matrix.{Matrix, height, row}
use Rattle.air_expressions.specs.Window.{ExtWindow, Window, window_at}
use Rattle.air.specs.Traces.{AirTraces}
use Rattle.lookup_model.specs.Constraints.{additive_denominator, exclusive_denominator, fraction_denominator, Constraint, accumulator_at, fraction_at, fraction_constraint, fractions_at, fraction_numerator}
use Rattle.lookup_model.specs.Fault.{are_boolean, fault_of, vanishes}
use Rattle.lookup_model.specs.Message.{Key, Message}
use Rattle.lookup_model.specs.Plain.{counted_messages, plain_accumulator, plain_cells, plain_fraction, plain_row, plain_terminal, trace_messages}
use Rattle.lookup_model.specs.Sent.{Sent, chosen_branches, sent, branches_at, flags_at, sent_at}
use Rattle.lookup_model.specs.Batches.Messages.{HasLawfulFlags, NoneVanishes, AreFlagsLawful, batch_messages, sent_rows_of}
use Rattle.lookup_model.specs.Denominators.{column_denominator, key_denominator}
use Rattle.lookup_model.specs.Generated.{plain_matrix, plain_terminal_of}
use Rattle.lookup_model.specs.Records.{AreRecords}
use Rattle.lookup_model.specs.Trace.{sent_row, sent_rows}
use Rattle.lookup_model.specs.Witness.{IsSatisfied, values_of_terminal, witness_window}
use Rattle.lookup_model.specs.declared.types.Lookup.{Lookup}
use Rattle.lookup_model.specs.declared.types.LookupTerminal.{LookupTerminal}
use Rattle.lookup_model.specs.Batches.Instances.{Instance, IsFitting}
use Rattle.lookup_model.specs.Batches.Witnesses.{AirResult, AreSatisfied, IsSatisfiedAt, plain_result, plain_witness}
use Rattle.lookup_model.specs.Challenges.{ChallengeTable, column_challenges, table_key_denominator}
use Rattle.lookup_model.proofs.Lookups.LookupFaults.{additive_faultless, exclusive_faultless}
use Rattle.lookup_model.proofs.Lookups.SatisfiedFractions.{flags_sum, selected_sum, as_many_flags, lookup_satisfied}
use Rattle.lookup_model.proofs.Lookups.Selections.{chosen_few}
use Rattle.lookup_model.proofs.Branches.{length-branches_at}
use Rattle.lookup_model.proofs.Lookups.SentRows.{accumulator_after, column_is, equal_lengths, get_or-sent_rows, length-sent_rows, sent_rows-each}
use Rattle.lookup_model.proofs.Lookups.PlainResults.{plain_matrix-some, plain_terminal_of-some, shape-some, shape-none}
use Rattle.lookup_model.proofs.Lookups.SatisfiedWitnesses.{first_accumulator, fraction_zeros, last_accumulator, next_accumulator}
use Rattle.lookup_model.proofs.Lookups.Terminals.{plain_terminal-sum}
use Rattle.lookup_model.proofs.Batches.SentFacts.{sent_ids}
use Rattle.lookup_model.proofs.Batches.TableResults.{alike_rows, column_den, table_den}
use Rattle.lookup_model.proofs.Batches.Rekeyed.{lawful_up_to_keys, none_up_to_keys, same_matrix, same_terminal_of}

module _ {F K : Type 0} {E : Extension F K} (laws : IsLawful E) where
  module _ (denominator : List F → K) where
    abbrev AreNonzero : List (Message F) → Type 0
    AreNonzero ms = AllByRecursion (λ m. denominator m.key.tuple ≢ E.ring.zero) ms

    -- the product of denominators that are not zero is not zero
    additive_nonzero : (ms : List (Message F)) → AreNonzero ms → additive_denominator E denominator ms ≢ E.ring.zero
    additive_nonzero [] each e = laws.domain.zero_is_not_one (sym e)
    additive_nonzero (m ∷ ms) each e =
        product_nonzero laws.ring laws.domain (denominator m.key.tuple) (additive_denominator E denominator ms) each.0 (additive_nonzero ms each.1) e

    -- nor is that of lawful flags
    chosen_nonzero : (ms : List (Message F)) → length ms ≤ 1 → AreNonzero ms → E.ring.add (sum_in E.ring (map (λ m. denominator m.key.tuple) ms)) (sub_in E.ring E.ring.one (sum_in E.ring (map (λ m. E.ring.one) ms))) ≢ E.ring.zero
    chosen_nonzero [] few each e = laws.domain.zero_is_not_one (sym (ring_law laws.ring [] (con 1) (con 0 :+ (con 1 :- con 0)) refl ∙ e))
    chosen_nonzero (m ∷ []) few each e =
        each.0 (ring_law laws.ring (denominator m.key.tuple ∷ []) (var 0) ((var 0 :+ con 0) :+ (con 1 :- (con 1 :+ con 0))) refl ∙ e)
    chosen_nonzero (m ∷ n ∷ ms) few each e = absurd (omega (arith, few))

    exclusive_nonzero : (fs : List F) (bs : List (Message F)) → length fs ≡ length bs → are_boolean E.base E.base_eq fs ≡ true → length (chosen_branches E.base E.base_eq fs bs) ≤ 1 → AreNonzero (chosen_branches E.base E.base_eq fs bs) → exclusive_denominator E denominator fs bs ≢ E.ring.zero
    exclusive_nonzero fs bs same lawful few each e =
        chosen_nonzero (chosen_branches E.base E.base_eq fs bs) few each
        ((λ i. E.ring.add (sym (selected_sum laws (λ (m : Message F). denominator m.key.tuple) fs bs lawful) i) (sub_in E.ring E.ring.one (sym (flags_sum laws fs bs same lawful) i))) ∙ e)

    -- with flags or without
    pub denominator_nonzero : (flags : Option (List F)) (bs : List (Message F)) → IfSome flags (λ fs. length fs ≡ length bs) → HasLawfulFlags E.base E.base_eq (sent E.base E.base_eq flags bs) → AreNonzero (sent E.base E.base_eq flags bs).messages → fraction_denominator E denominator flags bs ≢ E.ring.zero
    denominator_nonzero None bs same lawful each = additive_nonzero bs each
    denominator_nonzero (Some fs) bs same lawful each =
        exclusive_nonzero fs bs same lawful.0 (omega (arith, lawful.1, chosen_few E.base E.base_eq 0 fs bs)) each

  -- two fractions that satisfy one equation are one
  pub one_fraction : (u v f g : K) → u ≢ E.ring.zero → sub_in E.ring (E.ring.mul u f) v ≡ E.ring.zero → sub_in E.ring (E.ring.mul u g) v ≡ E.ring.zero → f ≡ g
  one_fraction u v f g ne first second =
      domain_cancel laws.ring laws.domain u f g ne (same_from_difference laws.ring (E.ring.mul u f) v first ∙ sym (same_from_difference laws.ring (E.ring.mul u g) v second))

  module _ (denominator : Key F → K) (row column : ℕ) where
    -- denominators that are not zero do not vanish
    none_vanish : (ms : List (Message F)) → NoneVanishes E denominator ms → vanishes E denominator ms ≡ false
    none_vanish [] each = refl
    none_vanish (m ∷ ms) each = by_test (E.eq (denominator m.key) E.ring.zero) refl (none_vanish ms each.1)
      where
        by_test : (b : Bool) → E.eq (denominator m.key) E.ring.zero ≡ b → vanishes E denominator ms ≡ false → (b || vanishes E denominator ms) ≡ false
        by_test true e rest = absurd (each.0 ((laws.eq (denominator m.key) E.ring.zero).0 e))
        by_test false e rest = rest

    -- so a lookup with lawful flags has no fault
    pub no_fault : (s : Sent F) → HasLawfulFlags E.base E.base_eq s → NoneVanishes E denominator s.messages → fault_of E denominator row column s ≡ None
    no_fault s lawful each = by_flags s.flags s.messages lawful each
      where
        by_flags : (flags : Option (List F)) (ms : List (Message F)) → HasLawfulFlags E.base E.base_eq (record { flags = flags; messages = ms }) → NoneVanishes E denominator ms → fault_of E denominator row column (record { flags = flags; messages = ms }) ≡ None
        by_flags None ms lawful each =
            additive_faultless E denominator row column ms (none_vanish (counted_messages E.base E.base_eq ms) (all_kept (λ m. denominator m.key ≢ E.ring.zero) _ ms each))
        by_flags (Some fs) ms lawful each = exclusive_faultless E denominator row column fs ms lawful.0 lawful.1 (none_vanish ms each)

module _ {F K : Type 0} {E : Extension F K} (laws : IsLawful E) (challenges : List K) (traces : AirTraces F) (lookups : List (Lookup F)) (records : AreRecords lookups) (some : 0 < length lookups) where
  abbrev den : Key F → K
  den = key_denominator E challenges

  abbrev pf : Sent F → K
  pf = plain_fraction E den

  abbrev rows : List (List (Sent F))
  rows = sent_rows E.base E.base_eq traces lookups

  abbrev base_window : ℕ → Window F
  base_window r = window_at traces.main traces.preprocessed traces.public_values (height traces.main) r

  abbrev sent_of : ℕ → Lookup F → Sent F
  sent_of r lookup = sent_at E.base E.base_eq (base_window r) lookup.column lookup

  abbrev sents_of : ℕ → List (Sent F)
  sents_of r = sent_row E.base E.base_eq (base_window r) lookups

  high : length rows ≡ height traces.main
  high = length-sent_rows E.base E.base_eq traces lookups

  module _ (lawful : AllByRecursion (AllByRecursion (HasLawfulFlags E.base E.base_eq)) rows) (none : NoneVanishes E den (trace_messages rows)) (auxiliary : Matrix K) (terminal : Option (LookupTerminal K)) (satisfied : IsSatisfied E traces lookups challenges auxiliary terminal) where
    abbrev window_of : ℕ → ExtWindow F K
    window_of r = witness_window traces challenges auxiliary terminal r

    abbrev IsZeroAt : ℕ → Constraint F K → Type 0
    IsZeroAt r constraint = constraint.meaning (window_of r) ≡ E.ring.zero

    -- the flags of one lookup on one row, and the denominators of its messages
    lawful_at : (r : ℕ) → r < height traces.main → (k : ℕ) (lookup : Lookup F) → k < length lookups → lookup ≡ get_or lookups k lookup → HasLawfulFlags E.base E.base_eq (sent_of r lookup)
    lawful_at = sent_rows-each E.base E.base_eq traces lookups (HasLawfulFlags E.base E.base_eq) lawful

    none_at : (r : ℕ) → r < height traces.main → (k : ℕ) (lookup : Lookup F) → k < length lookups → lookup ≡ get_or lookups k lookup → NoneVanishes E den (sent_of r lookup).messages
    none_at =
        let Nonzero = λ (m : Message F). den m.key ≢ E.ring.zero in
        sent_rows-each E.base E.base_eq traces lookups (λ s. AllByRecursion Nonzero s.messages)
        (all_weaker (λ row. AllByRecursion Nonzero (flat_map (λ s. s.messages) row)) (AllByRecursion (λ s. AllByRecursion Nonzero s.messages)) (λ row. all_parts Nonzero (λ s. s.messages) row) rows (all_parts Nonzero (λ row. flat_map (λ s. s.messages) row) rows none))

    -- the fraction of a lookup on a row
    fraction_is : (r : ℕ) → r < height traces.main → (k : ℕ) (lookup : Lookup F) → k < length lookups → lookup ≡ get_or lookups k lookup → fraction_at E lookup.column (window_of r) ≡ pf (sent_of r lookup)
    fraction_is r lt k lookup below is =
        let w = base_window r in
        let lengths = equal_lengths lookups k lookup records below is in
        let flags = flags_at E.base w lookup in
        let bs = branches_at E.base w lookup.column lookup in
        let over_column : List F → K = column_denominator E challenges lookup.column in
        let same : IfSome flags (λ fs. length fs ≡ length bs) =
        as_many_flags laws challenges lookup.column r w lookup.flags (length bs) (λ fs has. lengths.flags fs has ∙ sym (length-branches_at E.base w lookup.column lookup lengths)) in
        let zeros = fraction_zeros laws traces lookups challenges auxiliary terminal r (satisfied.equations r lt) in
        let here : IsZeroAt r (fraction_constraint E lookup) =
        subst (λ (l : Lookup F). IsZeroAt r (fraction_constraint E l)) (sym is) (all_here (λ l. IsZeroAt r (fraction_constraint E l)) lookups k lookup below zeros) in
        one_fraction laws (fraction_denominator E over_column flags bs) (fraction_numerator E over_column flags bs) (fraction_at E lookup.column (window_of r)) (pf (sent_of r lookup))
        (denominator_nonzero laws over_column flags bs same (lawful_at r lt k lookup below is) (all_both (λ m. m.key.id ≡ lookup.column) (λ m. den m.key ≢ E.ring.zero) (λ m. over_column m.key.tuple ≢ E.ring.zero) over (sent_of r lookup).messages (sent_ids E.base E.base_eq w lookup.column lookup) (none_at r lt k lookup below is)))
        here
        (lookup_satisfied laws challenges lookup.column r w lookup (pf (sent_of r lookup)) lengths refl (no_fault laws den r lookup.column (sent_of r lookup) (lawful_at r lt k lookup below is) (none_at r lt k lookup below is)))
      where
        over : (m : Message F) → m.key.id ≡ lookup.column → den m.key ≢ E.ring.zero → column_denominator E challenges lookup.column m.key.tuple ≢ E.ring.zero
        over m at ne e =
            ne (ap (λ c. column_denominator E challenges c m.key.tuple) at ∙ e)

    -- all of them together
    fractions_are : (r : ℕ) → r < height traces.main → fractions_at E lookups (window_of r) ≡ sum_in E.ring (map pf (sents_of r))
    fractions_are r lt =
        ap (sum_in E.ring)
        (same_map (λ l. fraction_at E l.column (window_of r)) (λ l. pf (sent_of r l)) lookups (all_indexed (λ l. fraction_at E l.column (window_of r) ≡ pf (sent_of r l)) lookups (fraction_is r lt))
        ∙ sym (map-map pf (sent_of r) lookups))

    -- the accumulator of each row
    accumulator_is : (r : ℕ) → r < height traces.main → accumulator_at E (window_of r) ≡ plain_accumulator E den rows r
    accumulator_is zero lt = first_accumulator laws traces lookups challenges auxiliary terminal some (satisfied.equations 0 lt)
    accumulator_is (suc r) lt =
        let below : r < height traces.main = omega (arith, lt) in
        let more : r + 1 ≡ suc r = omega arith in
        ap (λ n. accumulator_at E (window_of n)) (sym more)
        ∙ next_accumulator laws traces lookups challenges auxiliary terminal some r (satisfied.equations r (omega (arith, lt))) (omega (arith, lt))
        ∙ (λ i. E.ring.add (accumulator_is r below i) (fractions_are r below i))
        ∙ sym (accumulator_after E den traces lookups laws r below)
        ∙ ap (plain_accumulator E den rows) more

    -- the width, the height and the terminal
    shape : (auxiliary.width ≡ length lookups + 1) × (height auxiliary ≡ height traces.main) × ((t : LookupTerminal K) × (terminal ≡ Some t))
    shape = shape-some lookups (height traces.main) auxiliary terminal some satisfied.shape

    -- the length of a row
    long : length auxiliary.values ≡ height traces.main * auxiliary.width
    long = satisfied.shape.whole ∙ ap (λ n. n * auxiliary.width) shape.1

    length-row : (r : ℕ) → r < height traces.main → length (row auxiliary r) ≡ suc (length lookups)
    length-row r lt =
        let w = auxiliary.width in
        let rest = height traces.main - (r + 1) in
        let parts : height traces.main ≡ (r + 1) + rest = omega (arith, lt) in
        let both : ((r + 1) + rest) * w ≡ (r + 1) * w + rest * w = omega arith in
        let split : height traces.main * w ≡ (r + 1) * w + rest * w = ap (λ n. n * w) parts ∙ both in
        let wide : (r + 1) * w ≡ r * w + w = omega arith in
        length-take ((r + 1) * w - r * w) (drop (r * w) auxiliary.values)
        ∙ omega (arith, length-drop (r * w) auxiliary.values, long, split, wide, shape.0)

    -- each row
    row_is : (r : ℕ) → r < height traces.main → row auxiliary r ≡ plain_row E den rows r
    row_is r lt =
        ext_get_or E.ring.zero (row auxiliary r) (plain_accumulator E den rows r ∷ map pf (sents_of r))
        (length-row r lt ∙ omega (arith, length-map (sents_of r) pf, length-map lookups (sent_of r)))
        (λ i inside. at i (omega (arith, inside, length-row r lt)))
        ∙ ap (λ s. plain_accumulator E den rows r ∷ map pf s) (sym (get_or-sent_rows E.base E.base_eq traces lookups r lt))
      where
        at : (i : ℕ) → i < suc (length lookups) → get_or (row auxiliary r) i E.ring.zero ≡ get_or (plain_accumulator E den rows r ∷ map pf (sents_of r)) i E.ring.zero
        at zero inside = accumulator_is r lt
        at (suc k) inside =
            let below : k < length lookups = omega (arith, inside) in
            let (lookup, is) = item_at lookups k below in
            let index : lookup.column + 1 ≡ suc k = omega (arith, column_is lookups k lookup records below is) in
            ap (λ i. get_or (row auxiliary r) i E.ring.zero) (sym index) ∙ fraction_is r lt k lookup below is
            ∙ mapped_at (λ l. pf (sent_of r l)) lookups k lookup below is
            ∙ sym (get_or_default (map (λ l. pf (sent_of r l)) lookups) k E.ring.zero (pf (sent_of r lookup)) (omega (arith, length-map lookups (λ l. pf (sent_of r l)), below)))
            ∙ ap (λ xs. get_or xs k E.ring.zero) (sym (map-map pf (sent_of r) lookups))

    values_are : auxiliary.values ≡ plain_cells E den rows
    values_are =
        sym (joined_rows auxiliary.values auxiliary.width (height traces.main) long)
        ∙ same_parts (row auxiliary) (plain_row E den rows) 0 (height traces.main) (λ r lt. row_is r (omega (arith, lt)))
        ∙ ap (λ n. flat_map (plain_row E den rows) (range_with_len 0 n)) (sym high)

    module _ (nonempty : 0 < height traces.main) where
      -- the terminal
      terminal_is : (t : LookupTerminal K) → terminal ≡ Some t → t.0 ≡ plain_terminal E den rows
      terminal_is t is =
          let r = height traces.main - 1 in
          let lt : r < height traces.main = omega (arith, nonempty) in
          let last : r + 1 ≡ height traces.main = omega (arith, nonempty) in
          ap (λ o. slice_index_or (values_of_terminal o) 0 E.ring.zero) (sym is)
          ∙ last_accumulator laws traces lookups challenges auxiliary terminal some r (satisfied.equations r (omega (arith, last))) last
          ∙ (λ i. E.ring.add (accumulator_is r lt i) (fractions_are r lt i))
          ∙ sym (accumulator_after E den traces lookups laws r lt)
          ∙ ap (λ t. sum_in E.ring (flat_map (λ s. map pf s) t)) (take_all (r + 1) rows (omega (arith, high, last)))
          ∙ sym (plain_terminal-sum laws den rows)

      pub only_plain : (auxiliary ≡ plain_matrix E den lookups rows) × (terminal ≡ plain_terminal_of E den lookups rows)
      only_plain =
          let t = shape.2.0 in
          let value : t.0 ≡ plain_terminal E den rows = terminal_is t shape.2.1 in (
            (λ i. record { values = values_are i; width = shape.0 i }) ∙ sym (plain_matrix-some E den lookups rows some),
            shape.2.1 ∙ (λ i. Some (record { 0 = value i })) ∙ sym (plain_terminal_of-some E den lookups rows some),
          )

module _ {F K : Type 0} {E : Extension F K} (laws : IsLawful E) (table : ChallengeTable K) where
  -- the only witness of one AIR
  pub only_result : (instance : Instance F) → IsFitting instance → AllByRecursion (AllByRecursion (HasLawfulFlags E.base E.base_eq)) (sent_rows_of E.base E.base_eq instance) → NoneVanishes E (table_key_denominator E table) (trace_messages (sent_rows_of E.base E.base_eq instance))
      → (w : Matrix K × Option (LookupTerminal K)) → IsSatisfiedAt E table instance w → w ≡ plain_result E table instance
  only_result instance fitting lawful none (auxiliary, terminal) satisfied = by_lookups instance.lookups refl
    where
      own_rows : List (List (Sent F))
      own_rows = sent_rows E.base E.base_eq instance.traces instance.lookups

      others : List (List (Sent F))
      others = sent_rows_of E.base E.base_eq instance

      by_lookups : (ls : List (Lookup F)) → instance.lookups ≡ ls → (auxiliary, terminal) ≡ plain_result E table instance
      by_lookups [] is =
          let none = shape-none instance.lookups (height instance.traces.main) auxiliary terminal is satisfied.shape in
          (λ i. (none.0 i, none.1 i))
          ∙ (λ i. (plain_matrix E (table_key_denominator E table) (sym is i) others, plain_terminal_of E (table_key_denominator E table) (sym is i) others))
      by_lookups (l ∷ ls) is =
          let some : 0 < length instance.lookups = omega (arith, ap length is) in
          let alike = alike_rows laws table instance fitting in
          let cold = column_den laws table instance fitting in
          let d = table_den laws table instance fitting in
          let both = only_plain laws (column_challenges table instance.ids) instance.traces instance.lookups fitting.fit.records some
          (lawful_up_to_keys laws cold d _ _ alike lawful) (none_up_to_keys laws cold d _ _ alike none) auxiliary terminal satisfied (fitting.nonempty some) in
          λ i. ((both.0 ∙ same_matrix laws cold d instance.lookups _ _ alike) i, (both.1 ∙ same_terminal_of laws cold d instance.lookups _ _ alike) i)

  -- and of all of them
  pub only_witness : (instances : List (Instance F)) → AllByRecursion IsFitting instances → AreFlagsLawful E.base E.base_eq instances → NoneVanishes E (table_key_denominator E table) (batch_messages E.base E.base_eq instances)
      → (witness : List (AirResult K)) → AreSatisfied E table instances witness → witness ≡ plain_witness E table instances
  only_witness [] fitting lawful none [] satisfied = refl
  only_witness [] fitting lawful none (w ∷ ws) satisfied = absurd satisfied
  only_witness (instance ∷ instances) fitting lawful none [] satisfied = absurd satisfied
  only_witness (instance ∷ instances) fitting lawful none (w ∷ ws) satisfied =
      let Nonzero = λ (m : Message F). table_key_denominator E table m.key ≢ E.ring.zero in
      let here = trace_messages (sent_rows_of E.base E.base_eq instance) in
      let rest = batch_messages E.base E.base_eq instances in
      λ i. only_result instance fitting.0 lawful.0 (all_front Nonzero here rest none) w satisfied.0 i
      ∷ only_witness instances fitting.1 lawful.1 (all_back Nonzero here rest none) ws satisfied.1 i
