-- Tables that are no lookups.
use Rattle.std.proofs.Common.{◌≡◌, ◌≢◌, ◌++◌, ◌+◌, ◌<◌, ◌≤◌, ℕ, zero, suc, List, [], ◌∷◌, None, Some, get_or, length, take, drop, map, subst, sym, ap, ◌∙◌, arith}
use Rattle.std.proofs.lemmas.List.{length-map, map_push, take-append-drop, take_all}
use Rattle.std.proofs.lemmas.List.FromFn.{length-range_with_len}
use Rattle.std.proofs.lemmas.Option.{slice_get-get_or}
use Rattle.list_laws.proofs.Items.{range_more}
use Rattle.lookup_model.specs.declared.types.Lookup.{Lookup}
use Rattle.c_tables.specs.declared.tables.Tables.{Tables}
use Rattle.std.proofs.lemmas.Str.{IsUtf8-string_bytes}
use Rattle.std.specs.List.{AllZip, range_with_len}
use Rattle.std.specs.Str.{IsUtf8}
use Rattle.std.specs.declared.alloc.Global.{Global as TheGlobal}
use Rattle.std.specs.declared.vec.Vec.{Vec}
use Rattle.air_expressions.specs.declared.base_expression.SymbolicExpression.{SymbolicExpression}
use Rattle.air_expressions.specs.Tree.{tree_of}
use Rattle.lookup_model.specs.Outline.{bus_of}
use Rattle.lookup_model.specs.declared.types.Kind.TheVariants.{Local, Global}
use Rattle.field.specs.Residue.{Residue}
use Rattle.c_tables.specs.Nodes.{IsFirstBadNode}
use Rattle.c_tables.specs.Tables.{AreTableFlags, AreTableLookups, AreTableTuples, IsTableBus, IsFirstBadTableRecord, IsFirstBadTableTuple, IsTableRange, IsTableLookup, IsTableRecordFault, IsTableSpanFault, AreTableExpressions, NothingInTable, table_items}
use Rattle.c_tables.specs.declared.nodes.Node.{Node}
use Rattle.c_tables.specs.declared.tables.Record.{Record}
use Rattle.c_tables.specs.declared.tables.Span.{Span}
use Rattle.c_tables.specs.declared.tables.TableFault.{TableFault}

pub none_ordered : {A : Type 0} (items : List A) (span : Span) → span.end < span.start → ¬ IsTableRange items span
none_ordered items span wrong inside = absurd (omega (arith, wrong, inside.ordered))

pub none_ends : {A : Type 0} (items : List A) (span : Span) → length items < span.end → ¬ IsTableRange items span
none_ends items span wrong inside = absurd (omega (arith, wrong, inside.ends))

module _ (p : ℕ) where
  -- nothing stands in a range that is none, or in one with a bad node
  pub none_inside : (nodes : List Node) (span : Span) → ¬ IsTableRange nodes span → NothingInTable (AreTableExpressions {p = p} nodes span)
  none_inside nodes span wrong es w = wrong w.inside

  pub none_written : (nodes : List Node) (span : Span) (i : ℕ) → IsFirstBadNode p (table_items nodes span) i → NothingInTable (AreTableExpressions {p = p} nodes span)
  none_written nodes span i first es w =
      first.bad (map tree_of es) (drop (i + 1) (table_items nodes span)) w.trees.shallow (w.trees.same ∙ sym (take-append-drop (i + 1) (table_items nodes span)))

-- no list has items for all of these, if one of them has none
pub none_zipped : {A B : Type 0} (R : A → B → Type 0) (xs : List A) (i : ℕ) (d : A) → i < length xs → NothingInTable (R (get_or xs i d)) → NothingInTable (AllZip R xs)
none_zipped R [] i d there none ys zip = absurd (omega (arith, there))
none_zipped R (x ∷ xs) i d there none [] zip = zip
none_zipped R (x ∷ xs) zero d there none (y ∷ ys) zip = none y zip.0
none_zipped R (x ∷ xs) (suc i) d there none (y ∷ ys) zip = none_zipped R xs i d (omega (arith, there)) none ys zip.1

module _ (names : List ℕ) (r : Record) (not_local : r.kind ≢ 0) where
  pub none_of_kind : r.kind ≢ 1 → NothingInTable (λ kind. IsTableBus names r (bus_of kind))
  none_of_kind not_bus Local is = not_local is
  none_of_kind not_bus (Global name) is = not_bus is.0

  pub none_in_range : ¬ IsTableRange names r.bus → NothingInTable (λ kind. IsTableBus names r (bus_of kind))
  none_in_range wrong Local is = not_local is
  none_in_range wrong (Global name) is = wrong is.1

  pub none_in_text : ¬ IsUtf8 (table_items names r.bus) → NothingInTable (λ kind. IsTableBus names r (bus_of kind))
  none_in_text wrong Local is = not_local is
  none_in_text wrong (Global name) is = wrong (subst IsUtf8 is.2 (IsUtf8-string_bytes name))

module _ (p : ℕ) where
  pub no_flags : (nodes : List Node) (r : Record) → r.exclusive ≢ 0 → r.exclusive ≢ 1 → NothingInTable (AreTableFlags {p = p} nodes r)
  no_flags nodes r e f None is = e is
  no_flags nodes r e f (Some flags) is = f is.0

  pub no_flags_at : (nodes : List Node) (r : Record) → r.exclusive ≡ 1 → NothingInTable (AreTableExpressions {p = p} nodes r.flags) → NothingInTable (AreTableFlags {p = p} nodes r)
  no_flags_at nodes r one none None is = absurd (omega (arith, one, is))
  no_flags_at nodes r one none (Some flags) is = none flags is.1

  -- A range that no tuple stands in is the first one, if tuples stand in those before it.
  pub first_bad_tuple : (nodes : List Node) (spans : List Span) (i : ℕ) (d : Span) (tuples : List (Vec (SymbolicExpression (Residue p)) TheGlobal)) (e : TableFault) → i < length spans → AreTableTuples nodes (take i spans) tuples
      → NothingInTable (AreTableExpressions {p = p} nodes (get_or spans i d)) → IsTableSpanFault p nodes (get_or spans i d) e → IsFirstBadTableTuple p nodes spans i e
  first_bad_tuple nodes spans i d tuples e there before none fault = record {
    span = get_or spans i d;
    is_there = slice_get-get_or spans i d there;
    tuples = tuples;
    before = before;
    bad = none;
    fault = fault;
  }

  -- A record that is no lookup is the first one, if those before it are.
  pub first_bad_record : (tables : Tables) (i : ℕ) (d : Record) (lookups : List (Lookup (Residue p))) (e : TableFault) → i < length tables.records.now → AllZip (IsTableLookup tables) (take i tables.records.now) lookups
      → NothingInTable (IsTableLookup {p = p} tables (get_or tables.records.now i d)) → IsTableRecordFault p tables (get_or tables.records.now i d) e → IsFirstBadTableRecord p tables i e
  first_bad_record tables i d lookups e there before none fault = record {
    r = get_or tables.records.now i d;
    is_there = slice_get-get_or tables.records.now i d there;
    lookups = lookups;
    before = before;
    bad = none;
    fault = fault;
  }

  -- one column more
  pub columns_next : (before after : List (Lookup (Residue p))) (lookup : Lookup (Residue p)) (n : ℕ) → after ≡ before ++ lookup ∷ [] → lookup.column ≡ n
      → map (λ l. l.column) before ≡ range_with_len 0 n → map (λ l. l.column) after ≡ range_with_len 0 (n + 1)
  columns_next before after lookup n pushed is so_far =
      ap (map (λ l. l.column)) pushed ∙ (map_push (λ l. l.column) before lookup ∙ ((λ i. so_far i ++ is i ∷ []) ∙ ap (λ k. range_with_len 0 n ++ k ∷ []) (omega arith) ∙ sym (range_more 0 n)))

  -- the lookups of all records
  pub all_lookups : (tables : Tables) (n : ℕ) (lookups : List (Lookup (Residue p))) → length tables.records.now ≤ n → AllZip (IsTableLookup tables) (take n tables.records.now) lookups
      → map (λ l. l.column) lookups ≡ range_with_len 0 n → AreTableLookups tables lookups
  all_lookups tables n lookups all are columns =
      record {
        are = subst (λ rs. AllZip (IsTableLookup tables) rs lookups) (take_all n tables.records.now all) are;
        columns = columns ∙ ap (range_with_len 0) (sym (length-range_with_len 0 n) ∙ (ap length (sym columns) ∙ length-map lookups (λ l. l.column)));
      }
