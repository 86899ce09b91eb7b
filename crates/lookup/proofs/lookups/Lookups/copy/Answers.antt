use Rattle.std.proofs.Common.{◌≡◌, List, Option, Some, None, map, option_map, length, ap, sym, ◌∙◌, refl}
use Rattle.std.specs.List.{slice_get}
use Rattle.std.proofs.lemmas.Option.{slice_get_within}
use Rattle.list_laws.proofs.Images.{from_map, map_at, same_length}
use Rattle.air_expressions.specs.Tree.{tree_of}
use Rattle.lookup_model.specs.Outline.{outline_of}
use Rattle.lookup_model.specs.Records.{AreRecords, HasEqualLengths}
use Rattle.lookup_model.specs.declared.types.Lookup.{Lookup}
use Rattle.lookup.specs.Lookups.{lookups_of}
use Rattle.std.specs.declared.alloc.Global.{Global}
use Rattle.std.specs.declared.vec.Vec.{Vec}
use Rattle.air_expressions.specs.declared.base_expression.SymbolicExpression.{SymbolicExpression}
use Rattle.lookup.proofs.lookups.Lookups.copy.Goals as goal

-- what is seen in an option is seen of its value
same_some : {A V : Type 0} (seen : A → V) (x : A) (o : Option A) → Some (seen x) ≡ option_map seen o → (y : A) × (o ≡ Some y) × (seen x ≡ seen y)
same_some seen x None e = absurd (cc e)
same_some seen x (Some y) e = (y, refl, cc e)

module _ {F : Type 0} where
  -- lookups that are seen as the same are well formed alike
  same_lengths : (a b : Lookup F) → outline_of a ≡ outline_of b → HasEqualLengths b → HasEqualLengths a
  same_lengths a b e lengths =
      let tuples = λ (t : Vec (SymbolicExpression F) Global). map tree_of t.items in
      let long : length a.elements.items ≡ length b.elements.items = same_length tuples tuples a.elements.items b.elements.items (ap (λ o. o.elements) e) in
      record {
        multiplicities =
            same_length tree_of tree_of a.multiplicities.items b.multiplicities.items (ap (λ o. o.multiplicities) e) ∙ lengths.multiplicities ∙ sym long;
        flags = λ xs is.
            let found = same_some (λ flags. map tree_of flags.items) xs b.flags (ap (option_map (λ flags. map tree_of flags.items)) (sym is) ∙ ap (λ o. o.flags) e) in
            same_length tree_of tree_of xs.items (found.0).items found.2 ∙ lengths.flags found.0 found.1 ∙ sym long;
      }

  same_records : (xs ys : List (Lookup F)) → map outline_of xs ≡ map outline_of ys → AreRecords ys → AreRecords xs
  same_records xs ys e records i x within is =
      let (y, there, same) = from_map outline_of ys i (outline_of x) (ap (λ os. slice_get os i) (sym e) ∙ map_at outline_of xs i x is) in
      let record_at = records i y (slice_get_within ys i y there) there in
      (ap (λ o. o.column) (sym same) ∙ record_at.0, same_lengths x y (sym same) record_at.1)

pub invariant_of-result : goal.invariant_of-result
invariant_of-result g c = record {
  records = same_records c.in_ok-lookups.lookups.items (lookups_of c.args.self.now) (c.in_ok-lookups.ensures ∙ ap (map outline_of) c.as_slice.ensures.lookups) c.as_slice.ensures.records;
}
