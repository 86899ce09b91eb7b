-- Tables that are written part by part.
use Rattle.std.proofs.Common.{◌≡◌, ◌≢◌, ◌++◌, ◌∷◌, ◌+◌, ◌-◌, ◌<◌, ◌≤◌, ℕ, List, [], All, Option, None, Some, ap, append_assoc, arith, drop, get_or, length, length-append, map, refl, subst, sym, take, ◌∙◌}
use Rattle.std.proofs.Math.Seq.{drop-append_seam, take-append_seam}
use Rattle.std.proofs.lemmas.List.{append-nil, take_all}
use Rattle.std.proofs.lemmas.List.Elements.{All-map}
use Rattle.std.proofs.lemmas.Option.{slice_get-get_or}
use Rattle.std.specs.List.{AllZip, flat_map, range_with_len, slice_get}
use Rattle.std.specs.Option.{option_map}
use Rattle.std.specs.declared.alloc.Global.{Global}
use Rattle.std.specs.declared.vec.Vec.{Vec}
use Rattle.list_laws.proofs.Images.{images_more}
use Rattle.list_laws.proofs.Parts.{parts_next}
use Rattle.list_laws.proofs.Zips.{AllZip-more_right}
use Rattle.air_expressions.specs.Depth.{depth_of}
use Rattle.air_expressions.specs.Tree.{Tree, leaf, add, sub, mul, neg, tree_of}
use Rattle.air_expressions.specs.declared.base_expression.BaseLeaf.{BaseLeaf}
use Rattle.air_expressions.specs.declared.base_expression.SymbolicExpression.{SymbolicExpression}
use Rattle.lookup_model.specs.Outline.{bus_of}
use Rattle.lookup_model.specs.declared.types.Lookup.{Lookup}
use Rattle.field.specs.Residue.{Residue}
use Rattle.c_tables.specs.Nodes.{IsShallowForNodes, nodes_of}
use Rattle.c_tables.specs.Tables.{AreTableFlags, AreTableTuples, IsTableBus, IsTableRange, IsTableLookup, AreTableExpressions, table_items}
use Rattle.c_tables.specs.Written.{IsWritingLookupFault, HasWritableCells, IsWritableLeaf, IsWritableLookup, IsWritingTreeFault, IsFirstUnwritable, WrittenListsEncode}
use Rattle.c_tables.specs.declared.nodes.Node.{Node}
use Rattle.c_tables.specs.declared.tables.Record.{Record}
use Rattle.c_tables.specs.declared.tables.Span.{Span}
use Rattle.c_tables.specs.declared.tables.TableFault.{TableFault}
use Rattle.c_tables.specs.declared.tables.TableFault.TheVariants.{TooDeep, RowTooLarge}
use Rattle.c_tables.specs.declared.tables.Tables.{Tables}
use Rattle.c_tables.specs.internal.Written.{HoldsFrom, IsLonger, EncodesBus, EncodesFlags, EncodesRecord}

-- a tree has a node at least
positive : {p : ℕ} (t : Tree (Residue p)) → 1 ≤ depth_of t
positive (leaf l) = omega arith
positive t = omega arith

pub none_within : {p : ℕ} (t : Tree (Residue p)) (depth : ℕ) → depth ≡ 0 → IsWritingTreeFault depth t TooDeep
none_within t depth none = omega (arith, positive t, none)

-- what is wrong with a leaf
pub leaf_fault : {p : ℕ} (l : BaseLeaf (Residue p)) (depth : ℕ) (e : TableFault) → e ≡ RowTooLarge → ¬ IsWritableLeaf l → IsWritingTreeFault depth (leaf l) e
leaf_fault l depth e is far = subst (λ (f : TableFault). IsWritingTreeFault depth (leaf l) f) (sym is) far

-- what is wrong with an operand, one level deeper, is wrong with the operation
pub fault_above : {p : ℕ} (t a : Tree (Residue p)) (depth : ℕ) (e : TableFault) → depth ≢ 0 → (HasWritableCells t → HasWritableCells a) → depth_of a < depth_of t → IsWritingTreeFault (depth - 1) a e → IsWritingTreeFault depth t e
fault_above t a depth RowTooLarge some part lower far = λ near. far (part near)
fault_above t a depth TooDeep some part lower deep = omega (arith, some, lower, deep)
fault_above t a depth _ some part lower none = absurd none

pub left_fault : {p : ℕ} (a b : Tree (Residue p)) (depth : ℕ) (e : TableFault) → depth ≢ 0 → IsWritingTreeFault (depth - 1) a e → IsWritingTreeFault depth (add a b) e × IsWritingTreeFault depth (sub a b) e × IsWritingTreeFault depth (mul a b) e
left_fault a b depth e some fault = (
  fault_above (add a b) a depth e some (λ near. near.0) (omega arith) fault,
  fault_above (sub a b) a depth e some (λ near. near.0) (omega arith) fault,
  fault_above (mul a b) a depth e some (λ near. near.0) (omega arith) fault,
)

pub right_fault : {p : ℕ} (a b : Tree (Residue p)) (depth : ℕ) (e : TableFault) → depth ≢ 0 → IsWritingTreeFault (depth - 1) b e → IsWritingTreeFault depth (add a b) e × IsWritingTreeFault depth (sub a b) e × IsWritingTreeFault depth (mul a b) e
right_fault a b depth e some fault = (
  fault_above (add a b) b depth e some (λ near. near.1) (omega arith) fault,
  fault_above (sub a b) b depth e some (λ near. near.1) (omega arith) fault,
  fault_above (mul a b) b depth e some (λ near. near.1) (omega arith) fault,
)

pub inner_fault : {p : ℕ} (a : Tree (Residue p)) (depth : ℕ) (e : TableFault) → depth ≢ 0 → IsWritingTreeFault (depth - 1) a e → IsWritingTreeFault depth (neg a) e
inner_fault a depth e some fault = fault_above (neg a) a depth e some (λ near. near) (omega arith) fault

-- nodes that are appended one part after the other
pub appended_three : {A : Type 0} (old one two three x y z : List A) → one ≡ old ++ x → two ≡ one ++ y → three ≡ two ++ z → three ≡ old ++ (x ++ (y ++ z))
appended_three old one two three x y z e f g =
    g ∙ (ap (λ t. t ++ z) (f ∙ ap (λ t. t ++ y) e)
    ∙ (append_assoc (old ++ x) y z ∙ append_assoc old x (y ++ z)))

pub appended_two : {A : Type 0} (old one two x y : List A) → one ≡ old ++ x → two ≡ one ++ y → two ≡ old ++ (x ++ y)
appended_two old one two x y e f = f ∙ (ap (λ t. t ++ y) e ∙ append_assoc old x y)

-- lists that go on from one another
pub longer_same : {A : Type 0} (xs : List A) → IsLonger xs xs
longer_same xs = ([], sym (append-nil xs))

pub longer_is : {A : Type 0} (xs ys : List A) → ys ≡ xs → IsLonger xs ys
longer_is xs ys e = ([], e ∙ sym (append-nil xs))

pub longer_then : {A : Type 0} (xs ys zs : List A) → IsLonger xs ys → IsLonger ys zs → IsLonger xs zs
longer_then xs ys zs (more, e) (further, f) = (more ++ further, f ∙ (ap (λ t. t ++ further) e ∙ append_assoc xs more further))

-- what holds of each list that goes on from one holds of each that goes on from a longer one
pub holds_later : {A : Type 0} (P : List A → Type 0) (xs ys : List A) → IsLonger xs ys → HoldsFrom xs P → HoldsFrom ys P
holds_later P xs ys longer holds all further = holds all (longer_then xs ys all longer further)

-- where the items stand that are appended
module _ {A : Type 0} (old made now : List A) (span : Span) (now_is : now ≡ old ++ made) (start : span.start ≡ length old) (end' : span.end ≡ length now) (all more : List A) (all_is : all ≡ now ++ more) where
  long : length now ≡ length old + length made
  long = ap length now_is ∙ length-append old made

  longer : length all ≡ length now + length more
  longer = ap length all_is ∙ length-append now more

  pub stands_inside : IsTableRange all span
  stands_inside = record { ordered = omega (arith, start, end', long); ends = omega (arith, end', longer) }

  pub stands_there : table_items all span ≡ made
  stands_there =
      let whole : all ≡ old ++ (made ++ more) = all_is ∙ (ap (λ t. t ++ more) now_is ∙ append_assoc old made more) in
      let size : span.end - span.start ≡ length made = omega (arith, start, end', long) in
      (λ i. take (size i) (drop (start i) (whole i)))
      ∙ (ap (take (length made)) (drop-append_seam old (made ++ more)) ∙ take-append_seam made more)

-- a list of expressions that is written
pub list_written : {p : ℕ} (old now : List Node) (expressions : List (SymbolicExpression (Residue p))) (span : Span) → now ≡ old ++ flat_map nodes_of (map tree_of expressions) → span.start ≡ length old → span.end ≡ length now
    → span.end - span.start ≤ 1048576 → All (λ e. depth_of (tree_of e) ≤ 1024) expressions
    → HoldsFrom now (λ all. AreTableExpressions all span expressions)
list_written old now expressions span now_is start end' short shallow all (more, all_is) = record {
  inside = stands_inside old (flat_map nodes_of (map tree_of expressions)) now span now_is start end' all more all_is;
  short = short;
  trees = record {
    same = sym (stands_there old (flat_map nodes_of (map tree_of expressions)) now span now_is start end' all more all_is);
    shallow = All-map IsShallowForNodes tree_of expressions shallow;
  };
}

-- one expression more
pub list_next : {p : ℕ} (expressions : List (SymbolicExpression (Residue p))) (i : ℕ) (e : SymbolicExpression (Residue p)) (old now after : List Node) → i < length expressions → e ≡ get_or expressions i e
    → now ≡ old ++ flat_map nodes_of (map tree_of (take i expressions)) → after ≡ now ++ nodes_of (tree_of e)
    → after ≡ old ++ flat_map nodes_of (map tree_of (take (i + 1) expressions))
list_next expressions i e old now after there is so_far pushed =
    parts_next nodes_of (map tree_of (take i expressions)) (map tree_of (take (i + 1) expressions)) (tree_of e) old now after (images_more tree_of expressions i e there is) so_far pushed

-- the nodes of a list are as many as were appended
pub list_long : {p : ℕ} (old now : List Node) (expressions : List (SymbolicExpression (Residue p))) (start end' : ℕ) → now ≡ old ++ flat_map nodes_of (map tree_of expressions) → start ≡ length old → end' ≡ length now
    → length (flat_map nodes_of (map tree_of expressions)) ≡ end' - start
list_long old now expressions start end' now_is start_is end_is =
    omega (arith, start_is, end_is, ap length now_is, length-append old (flat_map nodes_of (map tree_of expressions)))

-- the tuples so far, with one more
pub tuples_next : {p : ℕ} (tuples : List (Vec (SymbolicExpression (Residue p)) Global)) (i : ℕ) (tuple : Vec (SymbolicExpression (Residue p)) Global) (made : List Span) (span : Span) (now after : List Node)
    → i < length tuples → tuple ≡ get_or tuples i tuple → IsLonger now after
    → HoldsFrom now (λ all. AreTableTuples all made (take i tuples)) → HoldsFrom after (λ all. AreTableExpressions all span tuple.items)
    → HoldsFrom after (λ all. AreTableTuples all (made ++ span ∷ []) (take (i + 1) tuples))
tuples_next tuples i tuple made span now after there is longer so_far holds all further =
    AllZip-more_right (λ s t. AreTableExpressions all s t.items) made (made ++ span ∷ []) tuples i span tuple there is refl (holds all further) (so_far all (longer_then now after all longer further))

-- all tuples are written, and their ranges stand there
pub tuples_written : {p : ℕ} (tuples : List (Vec (SymbolicExpression (Residue p)) Global)) (n : ℕ) (old made now : List Span) (nodes : List Node) (span : Span) → length tuples ≤ n → now ≡ old ++ made → span.start ≡ length old → span.end ≡ length now
    → HoldsFrom nodes (λ all. AreTableTuples all made (take n tuples))
    → HoldsFrom now (λ all. IsTableRange all span × HoldsFrom nodes (λ ns. AreTableTuples ns (table_items all span) tuples))
tuples_written {p} tuples n old made now nodes span whole now_is start end' holds all (more, all_is) = (
  stands_inside old made now span now_is start end' all more all_is,
  λ ns further.
      subst (λ (ss : List Span). AreTableTuples ns ss tuples) (sym (stands_there old made now span now_is start end' all more all_is))
      (subst (λ (ts : List (Vec (SymbolicExpression (Residue p)) Global)). AreTableTuples ns made ts) (take_all n tuples whole) (holds ns further)),
)

-- a name that is written
pub name_written : (name old now : List ℕ) (span : Span) → now ≡ old ++ name → span.start ≡ length old → span.end ≡ length now → HoldsFrom now (λ all. IsTableRange all span × (table_items all span ≡ name))
name_written name old now span now_is start end' all (more, all_is) = (
  stands_inside old name now span now_is start end' all more all_is,
  stands_there old name now span now_is start end' all more all_is,
)

-- the record of a lookup whose parts are written
module _ {p : ℕ} (lookup : Lookup (Residue p)) (r : Record) (nodes_1 nodes_2 nodes_3 : List Node) (spans : List Span) (names : List ℕ) where
  pub record_says : IsLonger nodes_1 nodes_2 → IsLonger nodes_2 nodes_3
      → HoldsFrom names (λ all. EncodesBus all r.kind r.bus (bus_of lookup.kind))
      → HoldsFrom spans (λ all. IsTableRange all r.tuples × HoldsFrom nodes_1 (λ ns. AreTableTuples ns (table_items all r.tuples) lookup.elements.items))
      → HoldsFrom nodes_2 (λ all. AreTableExpressions all r.multiplicities lookup.multiplicities.items)
      → HoldsFrom nodes_3 (λ all. EncodesFlags all r.exclusive r.flags lookup.flags)
      → lookup.count_weight ≡ r.weight → EncodesRecord nodes_3 spans names r lookup
  record_says longer_2 longer_3 bus tuples multiplicities flags weight t on_nodes on_spans on_names =
      let from_2 = longer_then nodes_2 nodes_3 t.nodes.now longer_3 on_nodes in
      let there = tuples t.tuples.now on_spans in record {
        bus = bus_is (bus_of lookup.kind) (bus t.names.now on_names);
        inside = there.0;
        elements = there.1 t.nodes.now (longer_then nodes_1 nodes_2 t.nodes.now longer_2 from_2);
        multiplicities = multiplicities t.nodes.now from_2;
        flags = flags_are lookup.flags (flags t.nodes.now on_nodes);
        weight = weight;
      }
    where
      bus_is : (b : Option (List ℕ)) → EncodesBus t.names.now r.kind r.bus b → IsTableBus t.names.now r b
      bus_is None says = says
      bus_is (Some name) says = says

      flags_are : (f : Option (Vec (SymbolicExpression (Residue p)) Global)) → EncodesFlags t.nodes.now r.exclusive r.flags f → AreTableFlags t.nodes.now r (option_map (λ v. v.items) f)
      flags_are None says = says
      flags_are (Some v) says = says

-- one record more, over tables that are longer
pub records_next : {p : ℕ} (lookups : List (Lookup (Residue p))) (i : ℕ) (lookup : Lookup (Residue p)) (records : List Record) (r : Record) (t : Tables) → i < length lookups → lookup ≡ get_or lookups i lookup
    → AllZip (IsTableLookup t) records (take i lookups) → IsTableLookup t r lookup → AllZip (IsTableLookup t) (records ++ r ∷ []) (take (i + 1) lookups)
records_next lookups i lookup records r t there is so_far here =
    AllZip-more_right (IsTableLookup t) records (records ++ r ∷ []) lookups i r lookup there is refl here so_far

-- a lookup that tables can't encode, behind those that they can
pub unencodable_at : {p : ℕ} (lookups : List (Lookup (Residue p))) (i : ℕ) (lookup : Lookup (Residue p)) (e : TableFault) → i < length lookups → lookup ≡ get_or lookups i lookup → IsWritingLookupFault lookup e
    → ((k : ℕ) (other : Lookup (Residue p)) → k < i → slice_get lookups k ≡ Some other → IsWritableLookup other) → IsFirstUnwritable lookups i e
unencodable_at {p} lookups i lookup e there is fault before = record {
  lookup = get_or lookups i lookup;
  is_there = slice_get-get_or lookups i lookup there;
  before = before;
  fault = subst (λ (l : Lookup (Residue p)). IsWritingLookupFault l e) is fault;
}

-- all records are written
pub all_encode : {p : ℕ} (lookups : List (Lookup (Residue p))) (n : ℕ) (nodes : List Node) (tuples : List Span) (names : List ℕ) (records : List Record) → length lookups ≤ n → map (λ l. l.column) lookups ≡ range_with_len 0 (length lookups)
    → ((t : Tables) → IsLonger nodes t.nodes.now → IsLonger tuples t.tuples.now → IsLonger names t.names.now → AllZip (IsTableLookup t) records (take n lookups))
    → WrittenListsEncode nodes tuples names records lookups
all_encode {p} lookups n nodes tuples names records whole columns say t nodes_are tuples_are names_are records_are = record {
  are = subst (λ (ls : List (Lookup (Residue p))). AllZip (IsTableLookup t) t.records.now ls) (take_all n lookups whole)
      (subst (λ (rs : List Record). AllZip (IsTableLookup t) rs (take n lookups)) (sym records_are)
      (say t (longer_is nodes t.nodes.now nodes_are) (longer_is tuples t.tuples.now tuples_are) (longer_is names t.names.now names_are)));
  columns = columns;
}
