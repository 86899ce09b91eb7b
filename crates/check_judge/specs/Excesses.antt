-- Messages that count more on a row than `at most` says.
use Rattle.std.specs.Prelude.{◌≡◌, ◌-◌, ◌<◌, ℕ, All, Bool, IsTrue, IfSome, List, Option, None, Some, if◌then◌else◌, slice_get}
use Rattle.std.specs.List.{AllZip}
use Rattle.field.specs.Ring.{Ring}
use Rattle.field.specs.Signs.{is_negative}
use Rattle.air.specs.Traces.{AirTraces, height_of, window_of}
use Rattle.air_expressions.specs.Window.{Window}
use Rattle.air_expressions.specs.declared.base_expression.SymbolicExpression.{SymbolicExpression}
use Rattle.lookup_model.specs.Sent.{value}
use Rattle.lookup_model.specs.declared.types.Lookup.{Lookup}
use Rattle.check_judge.specs.Constraints.{Constrained}
use Rattle.check_judge.specs.Counts.{counts_for}
use Rattle.check_judge.specs.declared.counts.SaidCount.{SaidCount}
use Rattle.check_judge.specs.declared.excess.Excess.{Excess}

-- the most that a message counts, where that is said
abbrev pub most_of : Option SaidCount → Option ℕ
most_of None = None
most_of (Some c) = c.at_most

module _ {F : Type 0} (p : ℕ) (number : F → ℕ) where
  -- an element as a signed whole number, without its sign
  abbrev pub size_of : F → ℕ
  size_of a = if is_negative p number a then p - number a else number a

module _ {F : Type 0} (R : Ring F) (eq : F → F → Bool) where
  -- a message of a lookup is sent at a window: there are no flags, or its flag is set
  abbrev pub IsSetAt : Window F → Lookup F → ℕ → Type 0
  IsSetAt w lookup message = IfSome lookup.flags (λ flags. (flag : SymbolicExpression F) × (slice_get flags.items message ≡ Some flag) × IsTrue (eq (value R w flag) R.one))

module _ {F : Type 0} (p : ℕ) (number : F → ℕ) (R : Ring F) (eq : F → F → Bool) where
  -- A message of a lookup is sent at a window, and counts so often, which is more than a bound, whatever its sign.
  pub record CountsMore (w : Window F) (lookup : Lookup F) (message bound : ℕ) (count : F) : Type 0 where
    pub multiplicity : SymbolicExpression F
    pub is_there : slice_get lookup.multiplicities.items message ≡ Some multiplicity
    pub is_sent : IsSetAt R eq w lookup message
    pub count_is : count ≡ value R w multiplicity
    pub over : bound < size_of p number count

  module _ (traces : AirTraces F) (lookup : Lookup F) where
    -- a message counts more than a bound on a row, and on no row before it
    pub record IsExcess (message bound : ℕ) (e : Excess F) : Type 0 where
      pub message_is : e.message ≡ message
      pub row_exists : e.row < height_of traces
      pub more : CountsMore (window_of traces e.row) lookup message bound e.count
      pub rows_before : (r : ℕ) (count : F) → r < e.row → ¬ CountsMore (window_of traces r) lookup message bound count

    module _ (counts : List SaidCount) where
      -- a message counts on no row more than is said
      abbrev pub IsWithin : ℕ → Type 0
      IsWithin message = IfSome (most_of (slice_get counts message)) (λ bound. (r : ℕ) (count : F) → r < height_of traces → ¬ CountsMore (window_of traces r) lookup message bound count)

      -- The first message that counts more on a row than is said, and the first such row.
      pub record IsFirstExcess (e : Excess F) : Type 0 where
        pub bound : ℕ
        pub said : most_of (slice_get counts e.message) ≡ Some bound
        pub is : IsExcess e.message bound e
        pub messages_before : (message : ℕ) → message < e.message → IsWithin message

      -- what is found of a lookup: nothing where none of its messages counts more on a row than is said
      abbrev pub IsExcessFound : Option (Excess F) → Type 0
      IsExcessFound None = (message : ℕ) → IsWithin message
      IsExcessFound (Some e) = IsFirstExcess e

  -- what is found of each lookup of an AIR
  abbrev pub AreExcesses : Constrained F → List (Option (Excess F)) → Type 0
  AreExcesses x found = AllZip (λ lookup e. IsExcessFound x.traces lookup (counts_for x.counts lookup.column) e) x.lookups found

  -- no message of an AIR counts more on a row than is said
  abbrev pub StaysWithin : Constrained F → Type 0
  StaysWithin x = All (λ lookup. (message : ℕ) → IsWithin x.traces lookup (counts_for x.counts lookup.column) message) x.lookups

  -- so it is of all AIRs
  abbrev pub AllStayWithin : List (Constrained F) → Type 0
  AllStayWithin xs = All StaysWithin xs
