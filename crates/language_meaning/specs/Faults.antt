-- What a look-up of names gives: a value, or the first refusal.
use Rattle.std.specs.Prelude.{◌≡◌, ℕ, Option, Some, None, Result, Ok, Err}
use Rattle.language_meaning.specs.declared.name_fault.NameFault.{NameFault}
use Rattle.language_meaning.specs.declared.name_fault.NameFault.TheVariants as faults
use Rattle.language_meaning.specs.declared.name_fault.NameRefusal.{NameRefusal}
use Rattle.language_meaning.specs.declared.name_fault.NameWhy.{NameWhy}

infixl 10 ◌>>=◌
-- the value of the first step goes into the second, and a refusal is the last
abbrev pub ◌>>=◌ : {A B : Type 0} → Result A NameRefusal → (A → Result B NameRefusal) → Result B NameRefusal
(Ok x) >>= f = f x
(Err e) >>= f = Err e

-- a fault that a function returned is the refusal that there is, unless memory ran out
abbrev pub IsNameRefusalOrMemory : {Y : Type 0} → NameFault → Result Y NameRefusal → Type 0
IsNameRefusalOrMemory faults.Memory read = Unit {0}
IsNameRefusalOrMemory (faults.Refused f) read = read ≡ Err f

-- what a function returned, as view shows it, is this, unless memory ran out
abbrev pub IsNameResultOrMemory : {X Y : Type 0} → (X → Y) → Result X NameFault → Result Y NameRefusal → Type 0
IsNameResultOrMemory view (Ok x) read = read ≡ Ok (view x)
IsNameResultOrMemory view (Err e) read = IsNameRefusalOrMemory e read

-- a refusal at a place
abbrev pub refusal_of_name : {A : Type 0} → NameWhy → ℕ → Result A NameRefusal
refusal_of_name why at = Err (record { at = at; why = why })

-- a value that has to be there
abbrev pub value_or_name_refusal : {A : Type 0} → NameWhy → ℕ → Option A → Result A NameRefusal
value_or_name_refusal why at None = refusal_of_name why at
value_or_name_refusal why at (Some x) = Ok x
