-- The kinds of rows of traces of a height.
use Rattle.std.proofs.Common.{◌≡◌, ◌≢◌, ◌⊎◌, inl, inr, ℕ, ◌+◌, ◌<◌, ◌≤◌, Bool, true, false, not, IfSome, Option, Some, None, Vec, Global, List, [], ◌∷◌, ◌++◌, length, take, get_or, refl, sym, ap, subst, ◌∙◌, arith}
use Rattle.std.specs.List.{AllZip}
use Rattle.list_laws.proofs.Items.{take_item}
use Rattle.air_constraints.specs.Bounds.{IsWithin}
use Rattle.air_constraints.specs.Facts.{AreSo}
use Rattle.air_constraints.specs.Hold.{Hold, IsRowOf}
use Rattle.air_constraints.specs.Kinds.{IsOfKind}
use Rattle.air_expressions.specs.Window.{Window}
use Rattle.air_expressions.specs.declared.base_expression.SymbolicExpression.{SymbolicExpression}
use Rattle.field.specs.Ring.{Ring}
use Rattle.lookup_enforced.specs.Enforced.{IsEnforcement}
use Rattle.lookup_enforced.specs.internal.Shown.{IsAnyOf, IsShownOn, KnownRows}
use Rattle.lookup_enforced.specs.declared.enforcement.Enforcement.{Enforcement}
use Rattle.lookup_enforced.specs.declared.rows.RowFacts.{RowFacts}
use Rattle.lookup_model.specs.Fault.{IsLawfulSelection}
use Rattle.lookup_model.specs.Sent.{value, values}
use Rattle.lookup_model.specs.declared.types.Lookup.{Lookup}

module _ {F : Type 0} {R : Ring F} where
  -- what is known of a row whose selectors are those of a kind
  known : (first last : Bool) (row : RowFacts F) (w : Window F) → (row.kind.is_first ≡ first) × (row.kind.is_last ≡ last) × (IsOfKind row.kind w → AreSo R w row.facts)
      → w.is_first ≡ first → w.is_last ≡ last → w.is_transition ≡ not w.is_last → KnownRows R row.kind row.facts w
  known first last row w of e f t =
      let kind : IsOfKind row.kind w = record { first = e ∙ sym of.0; last = f ∙ sym of.1; transition = t ∙ ap not (f ∙ sym of.1) } in
      (kind, of.2 kind)

  -- the only row of traces of height 1
  pub only_row : (only : RowFacts F) (w : Window F) (height : ℕ) → IsRowOf height w → height ≡ 1
      → (only.kind.is_first ≡ true) × (only.kind.is_last ≡ true) × (IsOfKind only.kind w → AreSo R w only.facts) → IsAnyOf R (only ∷ []) w
  only_row only w height row one of = inl (known true true only w of (row.single one).0 (row.single one).1 row.transition)

  -- a row of two
  pub one_of_two : (first last : RowFacts F) (w : Window F) (height : ℕ) → IsRowOf height w → height ≡ 2
      → (first.kind.is_first ≡ true) × (first.kind.is_last ≡ false) × (IsOfKind first.kind w → AreSo R w first.facts)
      → (last.kind.is_first ≡ false) × (last.kind.is_last ≡ true) × (IsOfKind last.kind w → AreSo R w last.facts)
      → IsAnyOf R (first ∷ last ∷ []) w
  one_of_two first last w height row two of_first of_last = by_both w.is_first w.is_last refl refl
    where
      by_both : (f l : Bool) → w.is_first ≡ f → w.is_last ≡ l → IsAnyOf R (first ∷ last ∷ []) w
      by_both true true e h = absurd (omega (arith, row.ends e h, two))
      by_both true false e h = inl (known true false first w of_first e h row.transition)
      by_both false true e h = inr (inl (known false true last w of_last e h row.transition))
      by_both false false e h = absurd (omega (arith, row.inner e h, two))

  -- a row of higher ones
  pub some_row : (first last between : RowFacts F) (w : Window F) (height : ℕ) → IsRowOf height w → height ≢ 1
      → (first.kind.is_first ≡ true) × (first.kind.is_last ≡ false) × (IsOfKind first.kind w → AreSo R w first.facts)
      → (last.kind.is_first ≡ false) × (last.kind.is_last ≡ true) × (IsOfKind last.kind w → AreSo R w last.facts)
      → (between.kind.is_first ≡ false) × (between.kind.is_last ≡ false) × (IsOfKind between.kind w → AreSo R w between.facts)
      → IsAnyOf R (first ∷ last ∷ between ∷ []) w
  some_row first last between w height row high of_first of_last of_between = by_both w.is_first w.is_last refl refl
    where
      by_both : (f l : Bool) → w.is_first ≡ f → w.is_last ≡ l → IsAnyOf R (first ∷ last ∷ between ∷ []) w
      by_both true true e h = absurd (high (row.ends e h))
      by_both true false e h = inl (known true false first w of_first e h row.transition)
      by_both false true e h = inr (inl (known false true last w of_last e h row.transition))
      by_both false false e h = inr (inr (inl (known false false between w of_between e h row.transition)))

  -- one kind more at the end
  any_last : (rows : List (RowFacts F)) (row : RowFacts F) (w : Window F) → IsAnyOf R (rows ++ row ∷ []) w → IsAnyOf R rows w ⊎ KnownRows R row.kind row.facts w
  any_last [] row w (inl known) = inr known
  any_last [] row w (inr none) = absurd none
  any_last (r ∷ rows) row w (inl known) = inl (inl known)
  any_last (r ∷ rows) row w (inr later) = elim (any_last rows row w later) [ inl found ↦ inl (inr found) | inr known ↦ inr known ]

  pub any_more : (rows : List (RowFacts F)) (i : ℕ) (row : RowFacts F) (w : Window F) → i < length rows → row ≡ get_or rows i row → IsAnyOf R (take (i + 1) rows) w
      → IsAnyOf R (take i rows) w ⊎ KnownRows R row.kind row.facts w
  any_more rows i row w lt is any =
      let P : List (RowFacts F) → Type 0 = λ rs. IsAnyOf R rs w in
      any_last (take i rows) row w (subst P (take_item rows i row lt is) any)

  -- what holds of rows of the kinds before and of those of one more
  pub holds_more : (P : Window F → Type 0) (rows : List (RowFacts F)) (i : ℕ) (row : RowFacts F) → i < length rows → row ≡ get_or rows i row
      → ((w : Window F) → IsAnyOf R (take i rows) w → P w) → ((w : Window F) → KnownRows R row.kind row.facts w → P w)
      → (w : Window F) → IsAnyOf R (take (i + 1) rows) w → P w
  holds_more P rows i row lt is before here w any = elim (any_more rows i row w lt is any) [ inl found ↦ before w found | inr known ↦ here w known ]

module _ {F : Type 0} (R : Ring F) where
  -- the bound of a polynomial is one of the expression that it is made of
  pub bound_known : (Known : Window F → Type 0) (s v : Window F → F) (o : Option ℕ) → ((w : Window F) → Known w → s w ≡ v w) → ((w : Window F) → Known w → IfSome o (λ b. IsWithin R b (s w)))
      → IfSome o (λ b. (w : Window F) → Known w → IsWithin R b (v w))
  bound_known Known s v None same within = tt
  bound_known Known s v (Some b) same within = λ w known. let x = within w known in record { number = x.number; is = sym (same w known) ∙ x.is; most = x.most }

  -- a number within a bound is within a greater one
  pub within_more : (a : F) (m n : ℕ) → m ≤ n → IsWithin R m a → IsWithin R n a
  within_more a m n le within = record { number = within.number; is = within.is; most = omega (arith, le, within.most) }

  -- bounds on some rows are bounds on others that are among them
  bounds_fewer : (P Q : Window F → Type 0) → ((w : Window F) → Q w → P w) → (ms : List (SymbolicExpression F)) (bs : List (Option ℕ))
      → AllZip (λ m b. IfSome b (λ n. (w : Window F) → P w → IsWithin R n (value R w m))) ms bs
      → AllZip (λ m b. IfSome b (λ n. (w : Window F) → Q w → IsWithin R n (value R w m))) ms bs
  bounds_fewer P Q fewer [] [] all = tt
  bounds_fewer P Q fewer [] (b ∷ bs) all = absurd all
  bounds_fewer P Q fewer (m ∷ ms) [] all = absurd all
  bounds_fewer P Q fewer (m ∷ ms) (b ∷ bs) all = (one b all.0, bounds_fewer P Q fewer ms bs all.1)
    where
      one : (b : Option ℕ) → IfSome b (λ n. (w : Window F) → P w → IsWithin R n (value R w m)) → IfSome b (λ n. (w : Window F) → Q w → IsWithin R n (value R w m))
      one None shown = tt
      one (Some n) shown = λ w q. shown w (fewer w q)

  -- flags that are lawful on some rows are so on the rows of traces of a height on which constraints hold, if these are among them
  pub flags_fewer : (eq : F → F → Bool) (P : Window F → Type 0) (height : ℕ) (constraints : List (SymbolicExpression F)) → ((w : Window F) → IsRowOf height w → Hold R w constraints → P w)
      → (o : Option (Vec (SymbolicExpression F) Global)) → IfSome o (λ flags. (w : Window F) → P w → IsLawfulSelection R eq (values R w flags.items))
      → IfSome o (λ flags. (w : Window F) → IsRowOf height w → Hold R w constraints → IsLawfulSelection R eq (values R w flags.items))
  flags_fewer eq P height constraints rows None lawful = tt
  flags_fewer eq P height constraints rows (Some flags) lawful = λ w row hold. lawful w (rows w row hold)

  -- what is shown on all rows of traces of a height is enforced
  pub shown_is_enforced : (eq : F → F → Bool) (P : Window F → Type 0) (height : ℕ) (constraints : List (SymbolicExpression F)) → ((w : Window F) → IsRowOf height w → Hold R w constraints → P w)
      → (lookup : Lookup F) (e : Enforcement) → IsShownOn R eq P lookup e → IsEnforcement R eq height constraints lookup e
  shown_is_enforced eq P height constraints rows lookup e shown = record {
    flags = λ t. flags_fewer eq P height constraints rows lookup.flags (shown.flags t);
    missing = shown.missing;
    plain = shown.plain;
    bounds = of_bounds lookup.multiplicities.items e.bounds.items (bounds_fewer P (λ w. IsRowOf height w × Hold R w constraints) (λ w q. rows w q.0 q.1) lookup.multiplicities.items e.bounds.items shown.bounds);
  }
    where
      of_bounds : (ms : List (SymbolicExpression F)) (bs : List (Option ℕ)) → AllZip (λ m b. IfSome b (λ n. (w : Window F) → IsRowOf height w × Hold R w constraints → IsWithin R n (value R w m))) ms bs
          → AllZip (λ m b. IfSome b (λ n. (w : Window F) → IsRowOf height w → Hold R w constraints → IsWithin R n (value R w m))) ms bs
      of_bounds [] [] all = tt
      of_bounds [] (b ∷ bs) all = absurd all
      of_bounds (m ∷ ms) [] all = absurd all
      of_bounds (m ∷ ms) (b ∷ bs) all = (one b all.0, of_bounds ms bs all.1)
        where
          one : (b : Option ℕ) → IfSome b (λ n. (w : Window F) → IsRowOf height w × Hold R w constraints → IsWithin R n (value R w m))
              → IfSome b (λ n. (w : Window F) → IsRowOf height w → Hold R w constraints → IsWithin R n (value R w m))
          one None shown = tt
          one (Some n) shown = λ w row hold. shown w (row, hold)
