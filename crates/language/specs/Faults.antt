-- What a reader gives: a value, or the first fault.
use Rattle.std.specs.Prelude.{◌≡◌, Result, Ok, Err}
use Rattle.language.specs.declared.fault.Fault.{Fault}
use Rattle.language.specs.declared.fault.TextFault.{TextFault}
use Rattle.language.specs.declared.fault.TextFault.TheVariants as faults

infixl 10 ◌>>=◌
-- the value of the first reading goes into the second, and a fault is the last
abbrev pub ◌>>=◌ : {A B : Type 0} → Result A Fault → (A → Result B Fault) → Result B Fault
(Ok x) >>= f = f x
(Err e) >>= f = Err e

-- a fault that a function returned is the one that reading gives, unless memory ran out
abbrev pub IsTextFaultOrMemory : {Y : Type 0} → TextFault → Result Y Fault → Type 0
IsTextFaultOrMemory faults.Memory read = Unit {0}
IsTextFaultOrMemory (faults.Fault f) read = read ≡ Err f

-- what a function returned, as view shows it, is what reading gives, unless memory ran out
abbrev pub IsTextResultOrMemory : {X Y : Type 0} → (X → Y) → Result X TextFault → Result Y Fault → Type 0
IsTextResultOrMemory view (Ok x) read = read ≡ Ok (view x)
IsTextResultOrMemory view (Err e) read = IsTextFaultOrMemory e read
