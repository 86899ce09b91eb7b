-- The fault of what a lookup sends.
use Rattle.std.proofs.Common.{◌≡◌, ◌≤◌, ℕ, Bool, true, false, cond, not, nat_lt, IfSome, None, Some, Option, refl, ap, List, length}
use Rattle.std.proofs.lemmas.Bool.{le-ltb, ltb-false}
use Rattle.std.specs.Option.{option_or}
use Rattle.std.specs.Prelude.{if◌then◌else◌}
use Rattle.field.specs.Ring.{Ring}
use Rattle.field.specs.Extension.{Extension}
use Rattle.lookup_model.specs.Fault.{IsLawfulSelection, are_boolean, fault_of, flag_fault_of, set_indices, vanishes}
use Rattle.lookup_model.specs.Message.{Key, Message}
use Rattle.lookup_model.specs.Plain.{counted_messages}
use Rattle.lookup_model.specs.Sent.{Sent, sent}
use Rattle.lookup_model.specs.declared.error.LookupError.{LookupError}
use Rattle.lookup_model.specs.declared.error.LookupError.TheVariants.{VanishingDenominator, FlagNotBoolean, FlagsNotExclusive}

module _ {F K : Type 0} (E : Extension F K) (denominator : Key F → K) (row column : ℕ) (branches : List (Message F)) where
  -- an additive lookup has no fault where no denominator that counts vanishes
  pub additive_faultless : vanishes E denominator (counted_messages E.base E.base_eq branches) ≡ false → fault_of E denominator row column (sent E.base E.base_eq None branches) ≡ None
  additive_faultless e = ap (λ b. if b then Some (VanishingDenominator row column) else None) e

  -- and this one where one does
  pub additive_fault : vanishes E denominator (counted_messages E.base E.base_eq branches) ≡ true → fault_of E denominator row column (sent E.base E.base_eq None branches) ≡ Some (VanishingDenominator row column)
  additive_fault e = ap (λ b. if b then Some (VanishingDenominator row column) else None) e

  -- so no fault is no vanishing denominator that counts
  pub additive_none : fault_of E denominator row column (record { flags = None; messages = branches }) ≡ None → vanishes E denominator (counted_messages E.base E.base_eq branches) ≡ false
  additive_none none = by_test (vanishes E denominator (counted_messages E.base E.base_eq branches)) none
    where
      by_test : (b : Bool) → cond b (Some (VanishingDenominator row column)) None ≡ None → b ≡ false
      by_test true bad = absurd (cc bad)
      by_test false e = refl

module _ (row column : ℕ) where
  -- the fault of flags by its two tests, in their order
  abbrev by_flag_tests : Bool → Bool → Option LookupError
  by_flag_tests boolean several =
      if not boolean then Some (FlagNotBoolean row column) else (if several then Some (FlagsNotExclusive row column) else None)

  -- the fault of an exclusive lookup by its three tests, in their order
  abbrev by_tests : Bool → Bool → Bool → Option LookupError
  by_tests boolean several vanishing =
      option_or (by_flag_tests boolean several) (if vanishing then Some (VanishingDenominator row column) else None)

  -- if the flags have no fault, both tests are passed
  flag_tests_passed : (b s : Bool) → by_flag_tests b s ≡ None → (b ≡ true) × (s ≡ false)
  flag_tests_passed false s none = absurd (cc none)
  flag_tests_passed true true none = absurd (cc none)
  flag_tests_passed true false none = (refl, refl)

  -- if there is no fault, all three tests are passed
  tests_passed : (b s v : Bool) → by_tests b s v ≡ None → (b ≡ true) × (s ≡ false) × (v ≡ false)
  tests_passed false s v none = absurd (cc none)
  tests_passed true true v none = absurd (cc none)
  tests_passed true false true none = absurd (cc none)
  tests_passed true false false none = (refl, refl, refl)

module _ {F : Type 0} (R : Ring F) (eq : F → F → Bool) (row column : ℕ) where
  -- lawful flags have no fault
  pub flags_faultless : (flags : List F) → are_boolean R eq flags ≡ true → length (set_indices R eq 0 flags) ≤ 1 → flag_fault_of R eq row column (Some flags) ≡ None
  flags_faultless flags e few = λ i. by_flag_tests row column (e i) (le-ltb 1 (length (set_indices R eq 0 flags)) few i)

  -- and flags without a fault are lawful
  pub flags_none : (flags : Option (List F)) → flag_fault_of R eq row column flags ≡ None → IfSome flags (IsLawfulSelection R eq)
  flags_none None none = tt
  flags_none (Some flags) none =
      let passed = flag_tests_passed row column (are_boolean R eq flags) (nat_lt 1 (length (set_indices R eq 0 flags))) none in
      (passed.0, ltb-false 1 (length (set_indices R eq 0 flags)) passed.1)

-- if neither of two options is there, the first is not
first_none : {A : Type 0} (a b : Option A) → option_or a b ≡ None → a ≡ None
first_none None b none = refl
first_none (Some x) b none = absurd (cc none)

module _ {F K : Type 0} (E : Extension F K) (denominator : Key F → K) (row column : ℕ) where
  -- where a lookup has no fault its flags have none
  pub no_flag_fault : (s : Sent F) → fault_of E denominator row column s ≡ None → flag_fault_of E.base E.base_eq row column s.flags ≡ None
  no_flag_fault s none = first_none (flag_fault_of E.base E.base_eq row column s.flags) _ none

module _ {F K : Type 0} (E : Extension F K) (denominator : Key F → K) (row column : ℕ) (flags : List F) (messages : List (Message F)) where
  abbrev exclusive : Sent F
  exclusive = record { flags = Some flags; messages = messages }

  -- where the flags are lawful, the denominator that is selected is the fault
  pub vanishing_fault : are_boolean E.base E.base_eq flags ≡ true → length (set_indices E.base E.base_eq 0 flags) ≤ 1 → vanishes E denominator messages ≡ true → fault_of E denominator row column exclusive ≡ Some (VanishingDenominator row column)
  vanishing_fault e few vanishing = λ i. by_tests row column (e i) (le-ltb 1 (length (set_indices E.base E.base_eq 0 flags)) few i) (vanishing i)

  -- where all three tests are passed there is no fault
  pub exclusive_faultless : are_boolean E.base E.base_eq flags ≡ true → length (set_indices E.base E.base_eq 0 flags) ≤ 1 → vanishes E denominator messages ≡ false → fault_of E denominator row column exclusive ≡ None
  exclusive_faultless e few divides = λ i. by_tests row column (e i) (le-ltb 1 (length (set_indices E.base E.base_eq 0 flags)) few i) (divides i)

  -- and no fault is that they are
  pub exclusive_none : fault_of E denominator row column exclusive ≡ None → (are_boolean E.base E.base_eq flags ≡ true) × (length (set_indices E.base E.base_eq 0 flags) ≤ 1) × (vanishes E denominator messages ≡ false)
  exclusive_none none =
      let passed = tests_passed row column (are_boolean E.base E.base_eq flags) (nat_lt 1 (length (set_indices E.base E.base_eq 0 flags))) (vanishes E denominator messages) none in
      (passed.0, ltb-false 1 (length (set_indices E.base E.base_eq 0 flags)) passed.1, passed.2)
