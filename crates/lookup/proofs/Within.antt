-- Lookups within a layout: those that are extracted from interactions within it, and packed ones.
use Rattle.std.proofs.Common.{◌≡◌, ℕ, ◌+◌, List, [], ◌∷◌, ◌++◌, map, length, IfSome, All, subst, sym, arith, not, Result}
use Rattle.std.proofs.lemmas.List.Elements.{All-append, All-cons, All-head, All-map, All-nil, All-tail, All-weaker, All-from_recursion, recursion_from_All}
use Rattle.list_laws.proofs.Each.{All-of_map, all_both, all_joined, all_kept, all_weaker}
use Rattle.air_expressions.specs.Layout.{Fits}
use Rattle.air_expressions.specs.Tree.{tree_of}
use Rattle.air_expressions.specs.declared.base_expression.SymbolicExpression.{SymbolicExpression}
use Rattle.air_expressions.specs.declared.layout.AirLayout.{AirLayout}
use Rattle.lookup_model.specs.Outline.{Outline, fields_of}
use Rattle.lookup_model.specs.Records.{AllFit, AreRecords, IsWithin, LookupsFit}
use Rattle.lookup_model.specs.declared.types.Lookup.{Lookup}
use Rattle.lookup_record.specs.Interaction.{Tuple, GlobalInteraction, ExclusiveInteraction}
use Rattle.lookup_record.specs.Within.{BranchWithin, GlobalWithin, TupleWithin}
use Rattle.lookup.specs.Extraction.{exclusive_at, extraction, global_at, in_columns, local_at}
use Rattle.std.specs.List.{AllByRecursion, flat_map}
use Rattle.lookup_model.specs.declared.error.LookupError.{LookupError}
use Rattle.lookup.specs.Buses.{bus_names}
use Rattle.lookup_model.specs.Names.{is_named}
use Rattle.lookup.specs.Cuts.{part_items}
use Rattle.lookup.specs.Packing.{IsPacking, additive_lookups, is_additive, joined_lookup, numbered_from, passing}
use Rattle.lookup.proofs.Columns.{columns_all}

module _ {F : Type 0} (layout : AirLayout) where
  -- an expression stays within the layout
  abbrev pub IsInside : SymbolicExpression F → Type 0
  IsInside e = Fits layout (tree_of e)

  -- all expressions of an outline do
  pub record IsOutlineInside (o : Outline (SymbolicExpression F)) : Type 0 where
    pub elements : All (λ tuple. All IsInside tuple) o.elements
    pub multiplicities : All IsInside o.multiplicities
    pub flags : IfSome o.flags (λ flags. All IsInside flags)

  -- the interactions that push such expressions
  abbrev AreTuplesInside : List (Tuple (SymbolicExpression F)) → Type 0
  AreTuplesInside tuples = All (TupleWithin (λ l x. Fits l (tree_of x)) layout) tuples

  abbrev IsGlobalInside : GlobalInteraction (SymbolicExpression F) → Type 0
  IsGlobalInside m = GlobalWithin (λ l x. Fits l (tree_of x)) layout m

  abbrev AreBranchesInside : ExclusiveInteraction (SymbolicExpression F) → Type 0
  AreBranchesInside m = All (BranchWithin (λ l x. Fits l (tree_of x)) layout) m.branches

  -- outlines in columns, each inside if its interaction is
  in_columns_inside : {M : Type 0} (P : M → Type 0) (at : ℕ → M → Outline (SymbolicExpression F)) → ((k : ℕ) (m : M) → P m → IsOutlineInside (at k m)) → (n : ℕ) (ms : List M) → All P ms → All IsOutlineInside (in_columns at n ms)
  in_columns_inside P at each n [] all = All-nil IsOutlineInside
  in_columns_inside P at each n (m ∷ ms) all =
      All-cons IsOutlineInside (at n m) (in_columns at (n + 1) ms) (each n m (All-head P m ms all)) (in_columns_inside P at each (n + 1) ms (All-tail P m ms all))

  local_inside : (k : ℕ) (tuples : List (Tuple (SymbolicExpression F))) → AreTuplesInside tuples → IsOutlineInside (local_at k tuples)
  local_inside k tuples all = record {
    elements = All-map (λ tuple. All IsInside tuple) (λ t. t.fields) tuples (λ n d below. (all n d below).fields);
    multiplicities = All-map IsInside (λ t. t.count) tuples (λ n d below. (all n d below).count);
    flags = tt;
  }

  global_inside : (k : ℕ) (m : GlobalInteraction (SymbolicExpression F)) → IsGlobalInside m → IsOutlineInside (global_at k m)
  global_inside k m h = record {
    elements = All-cons (λ tuple. All IsInside tuple) m.fields [] h.fields (All-nil (λ tuple. All IsInside tuple));
    multiplicities = All-cons IsInside m.count [] h.count (All-nil IsInside);
    flags = tt;
  }

  exclusive_inside : (k : ℕ) (m : ExclusiveInteraction (SymbolicExpression F)) → AreBranchesInside m → IsOutlineInside (exclusive_at k m)
  exclusive_inside k m all = record {
    elements = All-map (λ tuple. All IsInside tuple) (λ b. b.fields) m.branches (λ n d below. (all n d below).fields);
    multiplicities = All-map IsInside (λ b. b.count) m.branches (λ n d below. (all n d below).count);
    flags = All-map IsInside (λ b. b.flag) m.branches (λ n d below. (all n d below).flag);
  }

  pub lookup_inside : (lookup : Lookup F) → IsOutlineInside (fields_of lookup) → IsWithin layout lookup
  unfolding AllFit IsWithin
  lookup_inside lookup o = (
    All-of_map (λ tuple. All IsInside tuple) (λ tuple. tuple.items) lookup.elements.items o.elements,
    o.multiplicities,
    grind (arith, o.flags),
  )

  pub inside_of : (lookup : Lookup F) → IsWithin layout lookup → IsOutlineInside (fields_of lookup)
  unfolding AllFit IsWithin
  inside_of lookup within = record {
    elements = All-map (λ tuple. All IsInside tuple) (λ tuple. tuple.items) lookup.elements.items within.0;
    multiplicities = within.1;
    flags = grind (arith, within.2);
  }

  -- lookups that are extracted from interactions within a layout fit it
  pub extracted_fit : (lookups : List (Lookup F)) (locals : List (List (Tuple (SymbolicExpression F)))) (globals : List (GlobalInteraction (SymbolicExpression F))) (exclusives : List (ExclusiveInteraction (SymbolicExpression F))) → AreRecords lookups → map fields_of lookups ≡ extraction locals globals exclusives → All AreTuplesInside locals → All IsGlobalInside globals → All AreBranchesInside exclusives → LookupsFit layout lookups
  extracted_fit lookups locals globals exclusives records same l g e = record {
    records = records;
    within = All-weaker (λ lookup. IsOutlineInside (fields_of lookup)) (IsWithin layout) lookup_inside lookups
        (All-of_map IsOutlineInside fields_of lookups (subst (All IsOutlineInside) (sym same) outlines));
  }
    where
      outlines : All IsOutlineInside (extraction locals globals exclusives)
      outlines = All-append IsOutlineInside (in_columns local_at 0 locals ++ in_columns global_at (length locals) globals) (in_columns exclusive_at (length locals + length globals) exclusives)
          (All-append IsOutlineInside (in_columns local_at 0 locals) (in_columns global_at (length locals) globals)
          (in_columns_inside AreTuplesInside local_at local_inside 0 locals l)
          (in_columns_inside IsGlobalInside global_at global_inside (length locals) globals g))
          (in_columns_inside AreBranchesInside exclusive_at exclusive_inside (length locals + length globals) exclusives e)

-- what follows of each item of each part holds of each item of all parts
all_of_parts : {A B : Type 0} (P : B → Type 0) (Q : A → Type 0) (f : A → List B) → ((x : A) → Q x → All P (f x)) → (xs : List A) → AllByRecursion Q xs → All P (flat_map f xs)
all_of_parts P Q f each xs all =
    All-from_recursion P (flat_map f xs) (all_joined P f xs (all_weaker Q (λ x. AllByRecursion P (f x)) (λ x q. recursion_from_All P (f x) (each x q)) xs all))

module _ {F : Type 0} (layout : AirLayout) where
  abbrev Inside : Outline (SymbolicExpression F) → Type 0
  Inside o = IsOutlineInside layout o

  joined_inside : (part : Outline (SymbolicExpression F) × List (Outline (SymbolicExpression F))) → AllByRecursion Inside (part_items part) → Inside (joined_lookup part)
  joined_inside part all = record {
    elements = all_of_parts (λ tuple. All (IsInside layout) tuple) Inside (λ o. o.elements) (λ o inside. inside.elements) (part_items part) all;
    multiplicities = all_of_parts (IsInside layout) Inside (λ o. o.multiplicities) (λ o inside. inside.multiplicities) (part_items part) all;
    flags = (all.0).flags;
  }

  numbered_inside : (n : ℕ) (os : List (Outline (SymbolicExpression F))) → AllByRecursion Inside os → AllByRecursion Inside (numbered_from n os)
  numbered_inside n [] all = tt
  numbered_inside n (o ∷ os) all = (record { elements = (all.0).elements; multiplicities = (all.0).multiplicities; flags = (all.0).flags }, numbered_inside (n + 1) os all.1)

  module _ (answers : Outline (SymbolicExpression F) → Result ℕ LookupError → Type 0) (most : ℕ) where
    packed_inside : (before after : List (Outline (SymbolicExpression F))) → IsPacking answers most before after → AllByRecursion Inside before → AllByRecursion Inside after
    packed_inside before after packing all =
        let columns = flat_map (λ cut. map joined_lookup cut) packing.cuts in
        subst (λ (t : List (Outline (SymbolicExpression F))). AllByRecursion Inside t) (sym packing.columns)
        (numbered_inside 0 (passing before ++ columns)
        (all_both Inside (passing before) columns (all_kept Inside (λ o. not (is_additive o)) before all)
        (columns_all answers most (additive_lookups before) (λ _. Inside) (λ name. all_kept Inside (λ o. is_named name o.bus) (additive_lookups before) (all_kept Inside is_additive before all)) Inside (λ _. joined_inside) (bus_names (additive_lookups before)) packing.cuts packing.filled)))

    -- a packing of lookups that fit fits
    pub packed_fit : (before after : List (Lookup F)) → IsPacking answers most (map fields_of before) (map fields_of after) → AreRecords after → LookupsFit layout before → LookupsFit layout after
    packed_fit before after packing records fit = record {
      records = records;
      within =
          let outlines = All-map Inside fields_of before (All-weaker (IsWithin layout) (λ l. Inside (fields_of l)) (inside_of layout) before fit.within) in
          let packed = packed_inside (map fields_of before) (map fields_of after) packing (recursion_from_All Inside (map fields_of before) outlines) in
          All-weaker (λ l. Inside (fields_of l)) (IsWithin layout) (lookup_inside layout) after (All-of_map Inside fields_of after (All-from_recursion Inside (map fields_of after) packed));
    }
