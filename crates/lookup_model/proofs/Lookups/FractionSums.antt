-- Rows on which the constraints hold add up, so the terminal is the sum of all fractions.
use Rattle.std.proofs.Common.{◌≡◌, ℕ, zero, suc, ◌+◌, ◌-◌, ◌<◌, ◌≤◌, ◌==◌, if◌then◌else◌, Option, None, Some, List, [], ◌∷◌, length, slice_index_or, inl, inr, refl, sym, ap, subst, ◌∙◌, arith}
use Rattle.std.proofs.lemmas.Bool.{cases_lt, eq-eqb, ne_eqb}
use Rattle.std.specs.List.{flat_map, range_with_len}
use Rattle.std.specs.Option.{is_some}
use Rattle.list_laws.proofs.Each.{each_of}
use Rattle.list_laws.proofs.Parts.{nothing_flat}
use Rattle.matrix.specs.Matrix.{Matrix, height, row}
use Rattle.air.specs.Traces.{AirTraces}
use Rattle.field.specs.Extension.{Extension, IsLawful}
use Rattle.field.specs.Sums.{sum_in}
use Rattle.field.specs.laws.RingFacts.{zero_add}
use Rattle.lookup_model.specs.Terminals.{terminal_value}
use Rattle.lookup_model.specs.Witness.{AddUp, HoldsOnRow, IsSatisfied, TerminalIsSum, accumulated, fraction_cells, fraction_sum, has_terminal, values_of_terminal}
use Rattle.lookup_model.specs.declared.types.Lookup.{Lookup}
use Rattle.lookup_model.specs.declared.types.LookupTerminal.{LookupTerminal}
use Rattle.lookup_model.proofs.SumLaws.{sum_in-append}
use Rattle.lookup_model.proofs.Lookups.PlainResults.{shape-none}
use Rattle.lookup_model.proofs.Lookups.SatisfiedWitnesses.{first_accumulator, last_accumulator, next_accumulator}

-- an AIR with lookups has a terminal
terminal_there : {F K : Type 0} (lookups : List (Lookup F)) → 0 < length lookups → (terminal : Option (LookupTerminal K)) → has_terminal lookups ≡ is_some terminal → (t : LookupTerminal K) × (terminal ≡ Some t)
terminal_there [] some terminal presence = absurd (omega (arith, some))
terminal_there (l ∷ ls) some None presence = absurd (cc presence)
terminal_there (l ∷ ls) some (Some t) presence = (t, refl)

module _ {F K : Type 0} {E : Extension F K} (laws : IsLawful E) (traces : AirTraces F) (lookups : List (Lookup F)) (challenges : List K) (auxiliary : Matrix K) (terminal : Option (LookupTerminal K)) where
  abbrev h : ℕ
  h = height traces.main

  abbrev sum_to : ℕ → K
  sum_to = accumulated E h auxiliary terminal

  abbrev HoldsOn : ℕ → Type 0
  HoldsOn = HoldsOnRow E traces lookups challenges auxiliary terminal

  -- on a row of the trace
  inside : (r : ℕ) → r < h → sum_to r ≡ slice_index_or (row auxiliary r) 0 E.ring.zero
  inside r lt =
      ap (λ b. if b then terminal_value E.ring terminal else slice_index_or (row auxiliary r) 0 E.ring.zero) (ne_eqb r h (λ e. absurd (omega (arith, e, lt))))

  -- after the last row
  after : (r : ℕ) → r ≡ h → sum_to r ≡ terminal_value E.ring terminal
  after r e =
      ap (λ b. if b then terminal_value E.ring terminal else slice_index_or (row auxiliary r) 0 E.ring.zero) (eq-eqb r h e)

  terminal_is : (t : LookupTerminal K) → terminal ≡ Some t → slice_index_or (values_of_terminal terminal) 0 E.ring.zero ≡ terminal_value E.ring terminal
  terminal_is t is = ap (λ o. slice_index_or (values_of_terminal o) 0 E.ring.zero) is ∙ ap (terminal_value E.ring) (sym is)

  module _ (some : 0 < length lookups) (t : LookupTerminal K) (present : terminal ≡ Some t) where
    -- the fractions of one row lead from its accumulator to the next one
    step : (r : ℕ) → r < h → HoldsOn r → sum_to (r + 1) ≡ E.ring.add (sum_to r) (sum_in E.ring (fraction_cells E lookups auxiliary r))
    step r lt holds =
        let before = ap (λ x. E.ring.add x (sum_in E.ring (fraction_cells E lookups auxiliary r))) (sym (inside r lt)) in
        elim (cases_lt (r + 1) h) [
          | inl inner ↦ inside (r + 1) inner ∙ next_accumulator laws traces lookups challenges auxiliary terminal some r holds inner ∙ before
          | inr outer ↦
              let last : r + 1 ≡ h = omega (arith, lt, outer) in
              after (r + 1) last ∙ sym (terminal_is t present) ∙ last_accumulator laws traces lookups challenges auxiliary terminal some r holds last ∙ before
        ]

    -- and so do those of the rows that follow
    steps : (first m : ℕ) → first + m ≤ h → ((r : ℕ) → first ≤ r → r < first + m → HoldsOn r)
        → sum_to (first + m) ≡ E.ring.add (sum_to first) (sum_in E.ring (flat_map (fraction_cells E lookups auxiliary) (range_with_len first m)))
    steps first zero le holds = ap sum_to (omega arith) ∙ sym (laws.ring.add_zero (sum_to first))
    steps first (suc m) le holds =
        let rest = flat_map (fraction_cells E lookups auxiliary) (range_with_len (first + 1) m) in
        let here = sum_in E.ring (fraction_cells E lookups auxiliary first) in
        ap sum_to (omega arith)
        ∙ steps (first + 1) m (omega (arith, le)) (λ r from to. holds r (omega (arith, from)) (omega (arith, to)))
        ∙ ap (λ x. E.ring.add x (sum_in E.ring rest)) (step first (omega (arith, le)) (holds first (omega arith) (omega arith)))
        ∙ laws.ring.add_assoc (sum_to first) here (sum_in E.ring rest)
        ∙ ap (E.ring.add (sum_to first)) (sym (sum_in-append laws.ring (fraction_cells E lookups auxiliary first) rest))

    add_up_some : (first end : ℕ) → first < end → end ≤ h → ((r : ℕ) → first ≤ r → r < end → HoldsOn r) → AddUp E lookups h auxiliary terminal first end
    add_up_some first end lt le holds =
        let many : first + (end - first) ≡ end = omega (arith, lt) in record {
          starts = λ e. ap sum_to e ∙ inside 0 (omega (arith, lt, le)) ∙ first_accumulator laws traces lookups challenges auxiliary terminal some (subst HoldsOn e (holds first (omega arith) lt));
          adds = ap sum_to (sym many) ∙ steps first (end - first) (omega (arith, many, le)) (λ r from to. holds r from (omega (arith, to, many)));
        }

  -- the rows of a range on which the constraints hold, of an AIR with lookups
  pub add_up : 0 < length lookups → has_terminal lookups ≡ is_some terminal → (first end : ℕ) → first < end → end ≤ h → ((r : ℕ) → first ≤ r → r < end → HoldsOn r) → AddUp E lookups h auxiliary terminal first end
  add_up some presence =
      let present = terminal_there lookups some terminal presence in
      add_up_some some present.0 present.1

  -- the terminal of a satisfied result, if there is a row where lookups stand
  pub terminal_is_sum : (0 < length lookups → 0 < h) → IsSatisfied E traces lookups challenges auxiliary terminal → TerminalIsSum E traces lookups auxiliary terminal
  terminal_is_sum nonempty satisfied = by_lookups lookups refl
    where
      by_lookups : (ls : List (Lookup F)) → lookups ≡ ls → TerminalIsSum E traces lookups auxiliary terminal
      by_lookups [] is =
          let none = shape-none lookups h auxiliary terminal is satisfied.shape in
          let no_cells : flat_map (fraction_cells E lookups auxiliary) (range_with_len 0 (h - 0)) ≡ [] =
          nothing_flat (fraction_cells E lookups auxiliary) (range_with_len 0 (h - 0)) (each_of _ (λ r. ap (λ (ls : List (Lookup F)). fraction_cells E ls auxiliary r) is) (range_with_len 0 (h - 0))) in
          ap (terminal_value E.ring) none.1 ∙ sym (ap (sum_in E.ring) no_cells)
      by_lookups (l ∷ ls) is =
          let some : 0 < length lookups = omega (arith, ap length is) in
          let rows = add_up some satisfied.shape.presence 0 h (nonempty some) (omega arith) (λ r from to. satisfied.equations r to) in
          sym (after h refl) ∙ rows.adds ∙ ap (λ x. E.ring.add x (fraction_sum E lookups auxiliary 0 h)) (rows.starts refl) ∙ zero_add laws.ring (fraction_sum E lookups auxiliary 0 h)
