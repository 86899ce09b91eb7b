-- The faults that generation can meet, in the order row, lookup.
use Rattle.std.specs.Prelude.{◌≤◌, ℕ, Bool, IsTrue, List, Option, None, Some, if◌then◌else◌, not, ◌||◌, nat_lt, length, map}
use Rattle.std.specs.List.{enumerate_from, filter, filter_map, flat_map, list_all, list_any}
use Rattle.std.specs.Option.{option_or}
use Rattle.field.specs.Ring.{Ring}
use Rattle.field.specs.Extension.{Extension}
use Rattle.lookup_model.specs.Message.{Key, Message}
use Rattle.lookup_model.specs.Plain.{counted_messages}
use Rattle.lookup_model.specs.Sent.{Sent}
use Rattle.lookup_model.specs.declared.error.LookupError.{LookupError}
use Rattle.lookup_model.specs.declared.error.LookupError.TheVariants.{VanishingDenominator, FlagNotBoolean, FlagsNotExclusive}

-- whether each flag is zero or one
abbrev pub are_boolean : {F : Type 0} → Ring F → (F → F → Bool) → List F → Bool
are_boolean R eq flags = list_all (λ f. eq f R.zero || eq f R.one) flags

-- the indices of the set flags, counted from n
abbrev pub set_indices : {F : Type 0} → Ring F → (F → F → Bool) → ℕ → List F → List ℕ
set_indices R eq n flags = map (λ p. p.0) (filter (λ p. eq p.1 R.one) (enumerate_from n flags))

-- lawful flags: each is zero or one, and at most one is set, counted in whole numbers
abbrev pub IsLawfulSelection : {F : Type 0} → Ring F → (F → F → Bool) → List F → Type 0
IsLawfulSelection R eq flags = IsTrue (are_boolean R eq flags) × (length (set_indices R eq 0 flags) ≤ 1)

-- The fault of the flags of a lookup on a row, if it has flags: one that is neither zero nor one,
-- and then more than one that is set.
abbrev pub flag_fault_of : {F : Type 0} → Ring F → (F → F → Bool) → ℕ → ℕ → Option (List F) → Option LookupError
flag_fault_of R eq row lookup None = None
flag_fault_of R eq row lookup (Some flags) =
    if not (are_boolean R eq flags) then Some (FlagNotBoolean row lookup)
    else (if nat_lt 1 (length (set_indices R eq 0 flags)) then Some (FlagsNotExclusive row lookup) else None)

-- The messages whose denominators count: without flags those of nonzero multiplicity, with flags all
-- that are sent.
abbrev pub dividing_messages : {F : Type 0} → Ring F → (F → F → Bool) → Option (List F) → List (Message F) → List (Message F)
dividing_messages R eq None messages = counted_messages R eq messages
dividing_messages R eq (Some _) messages = messages

module _ {F : Type 0} (fault : ℕ → ℕ → Sent F → Option LookupError) where
  -- the faults of one row, in the order of its lookups, if `fault row lookup sent` is that of a lookup
  abbrev pub faults_of_row : ℕ → List (Sent F) → List LookupError
  faults_of_row row sents = filter_map (λ p. fault row p.0 p.1) (enumerate_from 0 sents)

  -- those of a trace, in the order of its rows and their lookups
  abbrev pub faults_of_trace : List (List (Sent F)) → List LookupError
  faults_of_trace rows = flat_map (λ p. faults_of_row p.0 p.1) (enumerate_from 0 rows)

module _ {F K : Type 0} (E : Extension F K) (denominator : Key F → K) where
  -- whether the denominator of one of the messages is zero
  abbrev pub vanishes : List (Message F) → Bool
  vanishes messages = list_any (λ m. E.eq (denominator m.key) E.ring.zero) messages

  -- The fault of a lookup on a row: that of its flags, and then a vanishing denominator among those
  -- that count.
  abbrev pub fault_of : ℕ → ℕ → Sent F → Option LookupError
  fault_of row lookup sent =
      option_or (flag_fault_of E.base E.base_eq row lookup sent.flags)
      (if vanishes (dividing_messages E.base E.base_eq sent.flags sent.messages) then Some (VanishingDenominator row lookup) else None)

  -- the faults of one row, in the order of its lookups
  abbrev pub row_faults : ℕ → List (Sent F) → List LookupError
  row_faults row sents = faults_of_row fault_of row sents

  -- the faults of a trace, in the order of its rows and their lookups
  abbrev pub trace_faults : List (List (Sent F)) → List LookupError
  trace_faults rows = faults_of_trace fault_of rows
