-- Where flags have no fault they are lawful.
use Rattle.std.proofs.Common.{◌≡◌, ℕ, Bool, ◌+◌, zero, suc, Option, None, Some, List, [], ◌∷◌, refl}
use Rattle.std.specs.List.{AllByRecursion, enumerate_from, filter_map, flat_map, slice_get}
use Rattle.list_laws.proofs.Items.{both_empty, none_before}
use Rattle.field.specs.Ring.{Ring}
use Rattle.field.specs.Extension.{Extension}
use Rattle.lookup_model.specs.Fault.{fault_of, faults_of_row, trace_faults}
use Rattle.lookup_model.specs.FlagFault.{sent_flag_fault}
use Rattle.lookup_model.specs.Message.{Key}
use Rattle.lookup_model.specs.Sent.{Sent}
use Rattle.lookup_model.specs.declared.error.LookupError.{LookupError}
use Rattle.lookup_model.proofs.Lookups.LookupFaults.{flags_none, no_flag_fault}
use Rattle.lookup_model.specs.Batches.FlagFaults.{instance_flag_faults}
use Rattle.lookup_model.specs.Batches.Instances.{Instance}
use Rattle.lookup_model.specs.Batches.Messages.{AreFlagsLawful, HasLawfulFlags, sent_rows_of}

-- Whatever the fault of a lookup is, if one without a fault has lawful flags, so has each of a row and
-- of a trace without faults.
module _ {F : Type 0} (R : Ring F) (eq : F → F → Bool) (lookup_fault : ℕ → ℕ → Sent F → Option LookupError) (of_one : (row column : ℕ) (s : Sent F) → lookup_fault row column s ≡ None → HasLawfulFlags R eq s) where
  of_row : (row index : ℕ) (sents : List (Sent F)) → filter_map (λ p. lookup_fault row p.0 p.1) (enumerate_from index sents) ≡ [] → AllByRecursion (HasLawfulFlags R eq) sents
  of_row row index [] none = tt
  of_row row index (s ∷ ss) none =
      let parts = none_before (lookup_fault row index s) (filter_map (λ (p : ℕ × Sent F). lookup_fault row p.0 p.1) (enumerate_from (index + 1) ss)) none in
      (of_one row index s parts.0, of_row row (index + 1) ss parts.1)

  of_rows : (index : ℕ) (rows : List (List (Sent F))) → flat_map (λ p. faults_of_row lookup_fault p.0 p.1) (enumerate_from index rows) ≡ [] → AllByRecursion (AllByRecursion (HasLawfulFlags R eq)) rows
  of_rows index [] none = tt
  of_rows index (row ∷ rows) none =
      let parts = both_empty (faults_of_row lookup_fault index row) (flat_map (λ (p : ℕ × List (Sent F)). faults_of_row lookup_fault p.0 p.1) (enumerate_from (index + 1) rows)) none in
      (of_row index 0 row parts.0, of_rows (index + 1) rows parts.1)

module _ {F K : Type 0} (E : Extension F K) where
  -- the flags of rows without a fault are lawful
  pub lawful_rows : (denominator : Key F → K) (rows : List (List (Sent F))) → trace_faults E denominator rows ≡ [] → AllByRecursion (AllByRecursion (HasLawfulFlags E.base E.base_eq)) rows
  lawful_rows denominator rows none =
      of_rows E.base E.base_eq (fault_of E denominator) (λ row column s e. flags_none E.base E.base_eq row column s.flags (no_flag_fault E denominator row column s e)) 0 rows none

module _ {F : Type 0} (R : Ring F) (eq : F → F → Bool) where
  -- so are those of a batch whose flags have no fault
  pub lawful_flags : (instances : List (Instance F)) → ((i : ℕ) (other : Instance F) → slice_get instances i ≡ Some other → instance_flag_faults R eq other ≡ []) → AreFlagsLawful R eq instances
  lawful_flags [] none = tt
  lawful_flags (instance ∷ instances) none = (
    of_rows R eq (sent_flag_fault R eq) (λ row column s e. flags_none R eq row column s.flags e) 0 (sent_rows_of R eq instance) (none zero instance refl),
    lawful_flags instances (λ i other is. none (suc i) other is),
  )
