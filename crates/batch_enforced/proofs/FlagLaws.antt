-- Constraints that hold make enforced flags lawful.
use Rattle.std.proofs.Common.{◌<◌, ◌+◌, ℕ, suc, Bool, None, Some, Option, List, [], ◌∷◌, refl, arith}
use Rattle.std.proofs.lemmas.Bool.{eq-eqb, eqb-false, eqb-true}
use Rattle.std.specs.List.{AllByRecursion, range_with_len}
use Rattle.std.specs.Option.{IfSome, option_map}
use Rattle.std.specs.declared.alloc.Global.{Global}
use Rattle.std.specs.declared.vec.Vec.{Vec}
use Rattle.list_laws.proofs.Each.{all_images, all_range}
use Rattle.air.specs.Traces.{AirTraces, height_of, window_of}
use Rattle.air_constraints.specs.Hold.{Hold, IsRowOf}
use Rattle.air_expressions.specs.Window.{Window}
use Rattle.air_expressions.specs.declared.base_expression.SymbolicExpression.{SymbolicExpression}
use Rattle.batch_enforced.specs.Constrained.{AreConstrained, EnforcesAllFlags}
use Rattle.field.specs.Ring.{Ring}
use Rattle.lookup_enforced.specs.Enforced.{HoldsOnRows}
use Rattle.lookup_model.specs.Batches.Instances.{Instance}
use Rattle.lookup_model.specs.Batches.Messages.{AreFlagsLawful, HasLawfulFlags, id_of}
use Rattle.lookup_model.specs.Fault.{IsLawfulSelection}
use Rattle.lookup_model.specs.Message.{Message}
use Rattle.lookup_model.specs.Sent.{branches_at, sent, values}
use Rattle.lookup_model.specs.Trace.{sent_row_under}
use Rattle.lookup_model.specs.declared.types.Lookup.{Lookup}

-- the window of a row is one of a row of traces of that height
pub row_window : {F : Type 0} (traces : AirTraces F) (r : ℕ) → r < height_of traces → IsRowOf (height_of traces) (window_of traces r)
row_window traces r lt = record {
  nonempty = omega (arith, lt);
  transition = refl;
  single = λ one. (eq-eqb r 0 (omega (arith, lt, one)), eq-eqb (r + 1) (height_of traces) (omega (arith, lt, one)));
  ends = λ first last. omega (arith, eqb-true r 0 first, eqb-true (r + 1) (height_of traces) last);
  inner = λ first last. omega (arith, lt, eqb-false r 0 first, eqb-false (r + 1) (height_of traces) last);
}

module _ {F : Type 0} (R : Ring F) (eq : F → F → Bool) where
  module _ (height : ℕ) (constraints : List (SymbolicExpression F)) (w : Window F) (row : IsRowOf height w) (hold : Hold R w constraints) where
    -- the flags of one lookup at a window
    of_lookup : (flags : Option (Vec (SymbolicExpression F) Global)) (branches : List (Message F)) → IfSome flags (λ fs. HoldsOnRows R height constraints (λ v. IsLawfulSelection R eq (values R v fs.items)))
        → HasLawfulFlags R eq (sent R eq (option_map (λ (fs : Vec (SymbolicExpression F) Global). values R w fs.items) flags) branches)
    of_lookup None branches enforces = tt
    of_lookup (Some fs) branches enforces = enforces w row hold

    -- those of all lookups of a row
    of_row : (id : Lookup F → ℕ) (lookups : List (Lookup F)) → EnforcesAllFlags R eq height constraints lookups → AllByRecursion (HasLawfulFlags R eq) (sent_row_under R eq id w lookups)
    of_row id [] enforces = tt
    of_row id (l ∷ ls) enforces =
        (of_lookup l.flags (branches_at R w (id l) l) (enforces 0 l (omega arith)), of_row id ls (λ k d lt. enforces (suc k) d (omega (arith, lt))))

  -- those of a batch
  pub flags_of : (constraints : List (List (SymbolicExpression F))) (instances : List (Instance F)) → AreConstrained R eq constraints instances → AreFlagsLawful R eq instances
  flags_of [] [] all = tt
  flags_of [] (i ∷ is) all = absurd all
  flags_of (cs ∷ css) [] all = absurd all
  flags_of (cs ∷ css) (i ∷ is) all =
      let P : List _ → Type 0 = AllByRecursion (HasLawfulFlags R eq) in
      let rows = all_range (λ r. P (sent_row_under R eq (id_of i.ids) (window_of i.traces r) i.lookups)) 0 (height_of i.traces)
      (λ r below. let lt : r < height_of i.traces = omega (arith, below) in of_row (height_of i.traces) cs (window_of i.traces r) (row_window i.traces r lt) (all.0.hold r lt) (id_of i.ids) i.lookups all.0.enforces) in
      (all_images P (λ r. sent_row_under R eq (id_of i.ids) (window_of i.traces r) i.lookups) (range_with_len 0 (height_of i.traces)) rows, flags_of css is all.1)
