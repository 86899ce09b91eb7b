-- Lookups that have the same expressions, node by node, are answered alike.
use Rattle.std.proofs.Common.{◌≡◌, ◌∙◌, ◌+◌, ◌∷◌, [], ℕ, Bool, List, Option, None, Some, Ok, ap, arith, length, map, refl, slice_range, sym}
use Rattle.std.proofs.lemmas.List.{length-map}
use Rattle.std.specs.List.{range_with_len, zip}
use Rattle.std.specs.Option.{option_map}
use Rattle.std.specs.declared.alloc.Global.{Global}
use Rattle.std.specs.declared.vec.Vec.{Vec}
use Rattle.air.specs.Traces.{AirTraces, height_of, window_of}
use Rattle.air_expressions.specs.Meaning.{value_of}
use Rattle.air_expressions.specs.Tree.{Tree, tree_of}
use Rattle.air_expressions.specs.Window.{Window}
use Rattle.air_expressions.specs.declared.base_expression.SymbolicExpression.{SymbolicExpression}
use Rattle.field.specs.Extension.{Extension}
use Rattle.field.specs.Ring.{Ring}
use Rattle.matrix.specs.Matrix.{Matrix}
use Rattle.lookup_generation.specs.Ranges.{AnswersRows, faults_between}
use Rattle.lookup_model.specs.Denominators.{key_denominator}
use Rattle.lookup_model.specs.Generated.{plain_matrix, plain_terminal_of}
use Rattle.lookup_model.specs.Message.{Key, Message}
use Rattle.lookup_model.specs.Outline.{Outline, outline_of}
use Rattle.lookup_model.specs.Plain.{plain_terminal}
use Rattle.lookup_model.specs.Sent.{Sent, branch_at, sent, sent_at, value}
use Rattle.lookup_model.specs.Trace.{sent_row, sent_rows}
use Rattle.lookup_model.specs.declared.types.Lookup.{Lookup}

-- images of images
pub same_images : {A B C : Type 0} (f : A → C) (g : B → C) (h : A → B) (xs : List A) → ((x : A) → f x ≡ g (h x)) → map f xs ≡ map g (map h xs)
same_images f g h [] each = refl
same_images f g h (x ∷ xs) each = λ i. each x i ∷ same_images f g h xs each i

module _ {F : Type 0} (R : Ring F) (eq : F → F → Bool) (w : Window F) where
  -- a tuple with its multiplicity, of their trees
  abbrev pub branch_of : ℕ → List (Tree F) × Tree F → Message F
  branch_of id b = record { key = record { id = id; tuple = map (value_of R w) b.0 }; multiplicity = value_of R w b.1 }

  -- what a lookup with this outline sends
  abbrev sent_of : Outline (Tree F) → Sent F
  sent_of o = sent R eq (option_map (map (value_of R w)) o.flags) (map (branch_of o.column) (zip o.elements o.multiplicities))

  pub same_branches : (id : ℕ) (ts : List (Vec (SymbolicExpression F) Global)) (ms : List (SymbolicExpression F))
      → map (λ b. branch_at R w id b.0.items b.1) (zip ts ms) ≡ map (branch_of id) (zip (map (λ t. map tree_of t.items) ts) (map tree_of ms))
  same_branches id [] ms = refl
  same_branches id (t ∷ ts) [] = refl
  same_branches id (t ∷ ts) (m ∷ ms) = λ i. record { key = record { id = id; tuple = same_images (value R w) (value_of R w) tree_of t.items (λ e. refl) i }; multiplicity = value R w m } ∷ same_branches id ts ms i

  pub same_flags : (flags : Option (Vec (SymbolicExpression F) Global)) → option_map (λ fs. map (value R w) fs.items) flags ≡ option_map (map (value_of R w)) (option_map (λ fs. map tree_of fs.items) flags)
  same_flags None = refl
  same_flags (Some fs) = ap Some (same_images (value R w) (value_of R w) tree_of fs.items (λ e. refl))

  same_sent : (lookup : Lookup F) → sent_at R eq w lookup.column lookup ≡ sent_of (outline_of lookup)
  same_sent lookup = λ i. sent R eq (same_flags lookup.flags i) (same_branches lookup.column lookup.elements.items lookup.multiplicities.items i)

  same_row : (others lookups : List (Lookup F)) → map outline_of others ≡ map outline_of lookups → sent_row R eq w others ≡ sent_row R eq w lookups
  same_row others lookups same =
      same_images (λ l. sent_at R eq w l.column l) sent_of outline_of others same_sent ∙ ap (map sent_of) same ∙ sym (same_images (λ l. sent_at R eq w l.column l) sent_of outline_of lookups same_sent)

-- they are as many
pub same_many : {F : Type 0} (others lookups : List (Lookup F)) → map outline_of others ≡ map outline_of lookups → length others ≡ length lookups
same_many others lookups same = sym (length-map others outline_of) ∙ ap length same ∙ length-map lookups outline_of

module _ {F K : Type 0} (E : Extension F K) (denominator : Key F → K) (rows : List (List (Sent F))) where
  same_matrix : (others lookups : List (Lookup F)) → length others ≡ length lookups → plain_matrix E denominator others rows ≡ plain_matrix E denominator lookups rows
  same_matrix [] [] many = refl
  same_matrix [] (l ∷ ls) many = absurd (omega (arith, many))
  same_matrix (o ∷ os) [] many = absurd (omega (arith, many))
  same_matrix (o ∷ os) (l ∷ ls) many = λ i. record { values = (plain_matrix E denominator (o ∷ os) rows).values; width = many i + 1 }

  same_terminal : (others lookups : List (Lookup F)) → length others ≡ length lookups → plain_terminal_of E denominator others rows ≡ plain_terminal_of E denominator lookups rows
  same_terminal [] [] many = refl
  same_terminal [] (l ∷ ls) many = absurd (omega (arith, many))
  same_terminal (o ∷ os) [] many = absurd (omega (arith, many))
  same_terminal (o ∷ os) (l ∷ ls) many = refl

module _ {F K : Type 0} (E : Extension F K) (traces : AirTraces F) (others lookups : List (Lookup F)) (same : map outline_of others ≡ map outline_of lookups) where
  -- they send the same
  pub rows_same : sent_rows E.base E.base_eq traces others ≡ sent_rows E.base E.base_eq traces lookups
  rows_same = λ i. map (λ r. same_row E.base E.base_eq (window_of traces r) others lookups same i) (range_with_len 0 (height_of traces))

  module _ (challenges : List K) where
    -- the plain result of each is that of the other
    pub matrix_same : plain_matrix E (key_denominator E challenges) others (sent_rows E.base E.base_eq traces others) ≡ plain_matrix E (key_denominator E challenges) lookups (sent_rows E.base E.base_eq traces lookups)
    matrix_same = ap (plain_matrix E (key_denominator E challenges) others) rows_same ∙ same_matrix E (key_denominator E challenges) (sent_rows E.base E.base_eq traces lookups) others lookups (same_many others lookups same)

    pub terminal_same : plain_terminal_of E (key_denominator E challenges) others (sent_rows E.base E.base_eq traces others) ≡ plain_terminal_of E (key_denominator E challenges) lookups (sent_rows E.base E.base_eq traces lookups)
    terminal_same = ap (plain_terminal_of E (key_denominator E challenges) others) rows_same ∙ same_terminal E (key_denominator E challenges) (sent_rows E.base E.base_eq traces lookups) others lookups (same_many others lookups same)

    -- and so are the rows of a range
    pub range_same : (first end : ℕ) (m : Matrix K) (sum : K) → AnswersRows E traces others challenges first end (Ok (m, sum)) → AnswersRows E traces lookups challenges first end (Ok (m, sum))
    range_same first end m sum made = (
      made.0 ∙ (λ i. plain_matrix E (key_denominator E challenges) others (slice_range (rows_same i) first end)) ∙ same_matrix E (key_denominator E challenges) (slice_range (sent_rows E.base E.base_eq traces lookups) first end) others lookups (same_many others lookups same),
      made.1 ∙ (λ i. plain_terminal E (key_denominator E challenges) (slice_range (rows_same i) first end)),
      (λ i. faults_between E (key_denominator E challenges) (sym rows_same i) first end) ∙ made.2,
    )
