-- Which lookups share each column of a packing.
use Rattle.std.proofs.Common.{◌≡◌, ◌<◌, ℕ, Result, List, [], ◌∷◌, length, map, refl, sym, subst, ◌∙◌, arith}
use Rattle.std.proofs.lemmas.List.{length-map}
use Rattle.std.specs.List.{AllByRecursion}
use Rattle.air_expressions.specs.Tree.{tree_of}
use Rattle.air_expressions.specs.declared.base_expression.SymbolicExpression.{SymbolicExpression}
use Rattle.lookup_model.specs.Outline.{Outline, fields_of, outline_of}
use Rattle.lookup_model.specs.declared.error.LookupError.{LookupError}
use Rattle.lookup_model.specs.declared.types.Lookup.{Lookup}
use Rattle.lookup.specs.Packing.{IsPacking}
use Rattle.check_judge.specs.Sharing.{shared_by}
use Rattle.check_judge.specs.declared.sharing.LookupTuples.{LookupTuples}
use Rattle.check_judge.specs.internal.Sharing.{AreNumbersOfParts, HaveTuples, in_packing_order, tuples_of}
use Rattle.check_judge.proofs.PackingLaws.{kept_numbers, kept_cut, kept_parts, kept_sizes, order_taken}

module _ {F : Type 0} where
  -- where outlines have tuples, so have fields
  fields_there : (lookups : List (Lookup F)) → HaveTuples (map outline_of lookups) → HaveTuples (map fields_of lookups)
  fields_there [] each = tt
  fields_there (l ∷ ls) each =
      (omega (arith, each.0, length-map l.elements.items (λ tuple. tuple.items), length-map l.elements.items (λ tuple. map tree_of tuple.items)), fields_there ls each.1)

  -- how many tuples columns have
  column_sizes : (packed : List (Lookup F)) → map (λ o. length o.elements) (map fields_of packed) ≡ map (λ column. length column.elements.items) packed
  column_sizes [] = refl
  column_sizes (l ∷ ls) = λ i. length-map l.elements.items (λ tuple. tuple.items) i ∷ column_sizes ls i

  -- the numbers of the parts tell which lookups share each packed column
  pub shared_is : (answers : Outline (SymbolicExpression F) → Result ℕ LookupError → Type 0) (max_degree : ℕ) (lookups copies packed : List (Lookup F)) (order : List LookupTuples) (shared : List (List ℕ))
      (p : IsPacking answers max_degree (map fields_of copies) (map fields_of packed))
      → HaveTuples (map outline_of lookups) → map outline_of copies ≡ map outline_of lookups → order ≡ map tuples_of (in_packing_order (map fields_of copies))
      → AreNumbersOfParts order packed shared
      → shared ≡ shared_by (map fields_of copies) p.cuts
  shared_is answers max_degree lookups copies packed order shared p each same in_order told =
      let before = map fields_of copies in
      let after = map fields_of packed in
      let taken = order_taken before (fields_there copies (subst HaveTuples (sym same) each)) in
      told (kept_parts answers max_degree before after p) (kept_cut answers max_degree before after p ∙ sym in_order) (subst (AllByRecursion (λ member. 0 < member.tuples)) (sym in_order) taken)
      (kept_sizes answers max_degree before after p ∙ column_sizes packed)
      ∙ kept_numbers answers max_degree before after p
