-- The plain result and its shape, and what a witness has by its shape: with lookups a width, a height
-- and a terminal; without them no cells and no terminal.
use Rattle.std.proofs.Common.{◌≡◌, ℕ, ◌+◌, ◌*◌, ◌/◌, ◌<◌, ◌==◌, Some, List, [], ◌∷◌, length, map, refl, sym, ap, ◌∙◌, arith, cond, true, false, Option, None}
use Rattle.std.proofs.lemmas.Bool.{ne_eqb}
use Rattle.std.proofs.lemmas.Nat.{div-mul-add}
use Rattle.std.specs.List.{enumerate_from, flat_map}
use Rattle.std.proofs.lemmas.List.{nil_from_length}
use Rattle.std.specs.Option.{is_some}
use Rattle.field.specs.Extension.{Extension}
use Rattle.matrix.specs.Matrix.{IsShaped, height, Matrix}
use Rattle.lookup_model.specs.Fault.{row_faults}
use Rattle.lookup_model.specs.Generated.{plain_matrix, plain_terminal_of}
use Rattle.lookup_model.specs.Message.{Key}
use Rattle.lookup_model.specs.Plain.{plain_cells, plain_terminal}
use Rattle.lookup_model.specs.Sent.{Sent}
use Rattle.lookup_model.specs.declared.types.Lookup.{Lookup}
use Rattle.lookup_model.specs.Witness.{HasShape}
use Rattle.lookup_model.specs.declared.types.LookupTerminal.{LookupTerminal}

-- the height of as many rows of this width
pub height_of : {T : Type 0} (values : List T) (rows width : ℕ) → length values ≡ rows * (width + 1) → height (record { values = values; width = width + 1 }) ≡ rows
height_of values rows width e =
    let w = width + 1 in
    let test : (w == 0) ≡ _ = ne_eqb w 0 (λ z. absurd (omega (arith, z))) in
    ap (λ b. cond b 0 (length values / w)) test ∙ ap (λ n. n / w) (e ∙ omega arith) ∙ div-mul-add rows w 0 (omega arith)

-- as many values as rows of this width make a matrix
pub IsShaped-product : {T : Type 0} (values : List T) (rows width : ℕ) → length values ≡ rows * (width + 1) → IsShaped (record { values = values; width = width + 1 })
IsShaped-product values rows width e = e ∙ ap (λ n. n * (width + 1)) (sym (height_of values rows width e))

module _ {F K : Type 0} (E : Extension F K) (denominator : Key F → K) where
  -- rows without lookups have no fault
  pub faultless_rows : (n : ℕ) (rs : List ℕ) → flat_map (λ p. row_faults E denominator p.0 p.1) (enumerate_from n (map (λ r. []) rs)) ≡ []
  faultless_rows n [] = refl
  faultless_rows n (r ∷ rs) = faultless_rows (n + 1) rs

  -- the result with lookups
  pub plain_matrix-some : (lookups : List (Lookup F)) (rows : List (List (Sent F))) → 0 < length lookups → plain_matrix E denominator lookups rows ≡ record { values = plain_cells E denominator rows; width = length lookups + 1 }
  plain_matrix-some [] rows some = absurd (omega arith)
  plain_matrix-some (l ∷ ls) rows some = refl

  pub plain_terminal_of-some : (lookups : List (Lookup F)) (rows : List (List (Sent F))) → 0 < length lookups → plain_terminal_of E denominator lookups rows ≡ Some (record { 0 = plain_terminal E denominator rows })
  plain_terminal_of-some [] rows some = absurd (omega arith)
  plain_terminal_of-some (l ∷ ls) rows some = refl

module _ {K : Type 0} where
  -- if no terminal is present, it is `None`
  no_terminal : (terminal : Option (LookupTerminal K)) → false ≡ is_some terminal → terminal ≡ None
  no_terminal None e = refl
  no_terminal (Some t) e = absurd (cc e)

  -- if one is present, it is `Some`
  a_terminal : (terminal : Option (LookupTerminal K)) → true ≡ is_some terminal → (t : LookupTerminal K) × (terminal ≡ Some t)
  a_terminal None e = absurd (cc e)
  a_terminal (Some t) e = (t, refl)

module _ {F K : Type 0} where
  -- without lookups there are no cells and no terminal
  pub shape-none : (lookups : List (Lookup F)) (h : ℕ) (auxiliary : Matrix K) (terminal : Option (LookupTerminal K)) → lookups ≡ [] → HasShape lookups h auxiliary terminal
      → (auxiliary ≡ record { values = []; width = 0 }) × (terminal ≡ None)
  shape-none [] h auxiliary terminal is has =
      let none : height auxiliary * auxiliary.width ≡ height auxiliary * 0 = ap (λ n. height auxiliary * n) has.width in
      let empty : auxiliary.values ≡ [] = nil_from_length auxiliary.values (omega (arith, has.whole, none)) in
      (λ i. record { values = empty i; width = has.width i }, no_terminal terminal has.presence)
  shape-none (l ∷ ls) h auxiliary terminal is has = absurd (cc is)

  -- with lookups there are as many rows as the main trace has, one column more than lookups, and a terminal
  pub shape-some : (lookups : List (Lookup F)) (h : ℕ) (auxiliary : Matrix K) (terminal : Option (LookupTerminal K)) → 0 < length lookups → HasShape lookups h auxiliary terminal
      → (auxiliary.width ≡ length lookups + 1) × (height auxiliary ≡ h) × ((t : LookupTerminal K) × (terminal ≡ Some t))
  shape-some [] h auxiliary terminal some has = absurd (omega (arith, some))
  shape-some (l ∷ ls) h auxiliary terminal some has = (has.width, has.high, a_terminal terminal has.presence)
