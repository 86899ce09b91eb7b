-- The constraint of a lookup's fraction, from what the lookup's columns hold.
use Rattle.std.proofs.Common.{◌≡◌, ◌↔◌, ℕ, Option, List, [], ◌∷◌, map, sym, ap, subst₂, ◌∙◌}
use Rattle.std.specs.List.{AllZip}
use Rattle.std.specs.declared.alloc.Global.{Global}
use Rattle.std.specs.declared.vec.Vec.{Vec}
use Rattle.field.specs.Ring.{sub_in}
use Rattle.field.specs.laws.RingFacts.{same_from_difference}
use Rattle.air_expressions.specs.Window.{Window}
use Rattle.air_expressions.specs.declared.base_expression.SymbolicExpression.{SymbolicExpression}
use Rattle.lookup_columns.specs.ChunkColumns.{StoreSelected, IsStored, IsStoredIfSet, key_denominator_over}
use Rattle.lookup_columns.specs.declared.columns.BranchColumns.{BranchColumns}
use Rattle.lookup_constraints.specs.declared.quotient.Quotient.{Quotient}
use Rattle.lookup_model.specs.Constraints.{fraction_denominator, fraction_left, fraction_numerator}
use Rattle.lookup_model.specs.Denominators.{column_denominator}
use Rattle.field.specs.Extension.{Extension}
use Rattle.field.specs.Ring.{IsCommutativeRing}
use Rattle.lookup_model.specs.Message.{Message}
use Rattle.lookup_model.specs.Sent.{branch_at}
use Rattle.checker_witness.specs.internal.Quotients.{IsQuotientOf, over_tuples}

module _ {F K : Type 0} (E : Extension F K) (laws : IsCommutativeRing E.ring) (denominator : List F → K) (flags : Option (List F)) (messages : List (Message F)) (q : Quotient K) (is : IsQuotientOf E denominator flags messages q) (f : K) where
  -- a fraction that a quotient has satisfies the constraint
  fraction_zero : E.ring.mul q.denominator f ≡ q.numerator → fraction_left E denominator flags messages f ≡ E.ring.zero
  fraction_zero e =
      let n = fraction_numerator E denominator flags messages in
      ap (λ t. sub_in E.ring t n) ((λ i. E.ring.mul (sym is.1 i) f) ∙ e ∙ is.0) ∙ laws.add_neg n

  -- and it has one that does
  fraction_of_zero : fraction_left E denominator flags messages f ≡ E.ring.zero → E.ring.mul q.denominator f ≡ q.numerator
  fraction_of_zero e =
      (λ i. E.ring.mul (is.1 i) f)
      ∙ same_from_difference laws (E.ring.mul (fraction_denominator E denominator flags messages) f) (fraction_numerator E denominator flags messages) e
      ∙ sym is.0

  -- so a test of the one decides the other, at flags and a cell that are these
  pub fraction_decides : {P : Type 0} (given : Option (List F)) (cell : K) → given ≡ flags → f ≡ cell → P ↔ (E.ring.mul q.denominator f ≡ q.numerator) → P ↔ (fraction_left E denominator given messages cell ≡ E.ring.zero)
  fraction_decides given cell flags_are f_is says =
      let IsZero = λ (fs : Option (List F)) (x : K). fraction_left E denominator fs messages x ≡ E.ring.zero in
      (λ t. subst₂ IsZero (sym flags_are) f_is (fraction_zero (says.0 t)), λ zero_left. says.1 (fraction_of_zero (subst₂ IsZero flags_are (sym f_is) zero_left)))

module _ {F K : Type 0} (E : Extension F K) (challenges : List K) (column : ℕ) (w : Window F) (index : ℕ) where
  abbrev branches_of : List (Vec (SymbolicExpression F) Global × SymbolicExpression F) → List (Message F)
  branches_of zs = map (λ b. branch_at E.base w column b.0.items b.1) zs

  -- What is held under the column as its id is held over the challenges of the column.
  pub held_over : (columns : List (BranchColumns F K)) (zs : List (Vec (SymbolicExpression F) Global × SymbolicExpression F)) → AllZip (IsStored (key_denominator_over E.ring E.embed challenges) index) columns (branches_of zs) → AllZip (IsStored (over_tuples (column_denominator E challenges column)) index) columns (branches_of zs)
  held_over [] [] h = tt
  held_over (c ∷ columns) (z ∷ zs) h = (h.0, held_over columns zs h.1)
  held_over columns zs h = absurd h

  if_set_over : (columns : List (BranchColumns F K)) (zs : List (Vec (SymbolicExpression F) Global × SymbolicExpression F)) → AllZip (IsStoredIfSet E.base (key_denominator_over E.ring E.embed challenges) index) columns (branches_of zs) → AllZip (IsStoredIfSet E.base (over_tuples (column_denominator E challenges column)) index) columns (branches_of zs)
  if_set_over [] [] h = tt
  if_set_over (c ∷ columns) (z ∷ zs) h = ((λ f has nonzero. let placed = h.0 f has nonzero in record { at = placed.at; there = placed.there; held = placed.held }), if_set_over columns zs h.1)
  if_set_over columns zs h = absurd h

  -- the same where a flag is set
  pub selected_over : (columns : List (BranchColumns F K)) (flags : List F) (zs : List (Vec (SymbolicExpression F) Global × SymbolicExpression F)) → StoreSelected E.base (key_denominator_over E.ring E.embed challenges) index columns flags (branches_of zs) → StoreSelected E.base (over_tuples (column_denominator E challenges column)) index columns flags (branches_of zs)
  selected_over columns flags zs h = record { flags_are = h.flags_are; held = if_set_over columns zs h.held }
