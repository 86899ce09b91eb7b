-- Tables encode one list of lookups at most.
use Rattle.std.proofs.Common.{◌≡◌, ◌<◌, ◌∷◌, ◌∙◌, List, [], Option, None, Some, ap, ap₂, arith, length, map, refl, sym, ℕ}
use Rattle.std.proofs.lemmas.Slice.Zip.{AllZip-long}
use Rattle.std.specs.List.{AllZip, range_with_len}
use Rattle.std.specs.Option.{option_map}
use Rattle.std.specs.declared.alloc.Global.{Global}
use Rattle.std.specs.declared.vec.Vec.{Vec}
use Rattle.air_expressions.specs.Tree.{tree_of}
use Rattle.air_expressions.specs.declared.base_expression.SymbolicExpression.{SymbolicExpression}
use Rattle.lookup_model.specs.Outline.{bus_of, outline_of}
use Rattle.lookup_model.specs.declared.types.Lookup.{Lookup}
use Rattle.field.specs.Residue.{Residue}
use Rattle.c_tables.specs.Tables.{AreTableFlags, AreTableLookups, AreTableTuples, IsTableBus, IsTableLookup, AreTableExpressions}
use Rattle.c_tables.specs.declared.nodes.Node.{Node}
use Rattle.c_tables.specs.declared.tables.Record.{Record}
use Rattle.c_tables.specs.declared.tables.Span.{Span}
use Rattle.c_tables.specs.declared.tables.Tables.{Tables}
use Rattle.c_tables.proofs.Unique.{same_trees}

module _ {p : ℕ} (positive : 0 < p) where
  -- one list of expressions stands in a range
  pub written_once : (nodes : List Node) (span : Span) (a b : List (SymbolicExpression (Residue p))) → AreTableExpressions nodes span a → AreTableExpressions nodes span b → map tree_of a ≡ map tree_of b
  written_once nodes span a b p q = same_trees positive (map tree_of a) (map tree_of b) (p.trees.same ∙ sym q.trees.same)

  -- one list of tuples stands in some ranges
  tuples_once : (nodes : List Node) (spans : List Span) (a b : List (Vec (SymbolicExpression (Residue p)) Global)) → AreTableTuples nodes spans a → AreTableTuples nodes spans b
      → map (λ tuple. map tree_of tuple.items) a ≡ map (λ tuple. map tree_of tuple.items) b
  tuples_once nodes [] [] [] p q = refl
  tuples_once nodes (s ∷ ss) (x ∷ xs) (y ∷ ys) p q =
      ap₂ (λ t ts. t ∷ ts) (written_once nodes s x.items y.items p.0 q.0) (tuples_once nodes ss xs ys p.1 q.1)
  tuples_once nodes spans a b p q = absurd (first_of (assumption p, assumption q))

  -- a record has one bus, and one list of flags
  bus_once : (names : List ℕ) (r : Record) (a b : Option (List ℕ)) → IsTableBus names r a → IsTableBus names r b → a ≡ b
  bus_once names r None None p q = refl
  bus_once names r (Some x) (Some y) p q = ap Some (p.2 ∙ sym q.2)
  bus_once names r a b p q = absurd (omega arith)

  flags_once : (nodes : List Node) (r : Record) (a b : Option (Vec (SymbolicExpression (Residue p)) Global)) → AreTableFlags nodes r (option_map (λ v. v.items) a) → AreTableFlags nodes r (option_map (λ v. v.items) b)
      → option_map (λ v. map tree_of v.items) a ≡ option_map (λ v. map tree_of v.items) b
  flags_once nodes r None None p q = refl
  flags_once nodes r (Some x) (Some y) p q = ap Some (written_once nodes r.flags x.items y.items p.1 q.1)
  flags_once nodes r a b p q = absurd (omega arith)

  -- a record is one lookup, in each column
  lookup_once : (tables : Tables) (r : Record) (a b : Lookup (Residue p)) → IsTableLookup tables r a → IsTableLookup tables r b → a.column ≡ b.column → outline_of a ≡ outline_of b
  lookup_once tables r a b p q columns = λ i. record {
    bus = bus_once tables.names.now r (bus_of a.kind) (bus_of b.kind) p.bus q.bus i;
    elements = tuples_once tables.nodes.now _ a.elements.items b.elements.items p.elements q.elements i;
    multiplicities = written_once tables.nodes.now r.multiplicities a.multiplicities.items b.multiplicities.items p.multiplicities q.multiplicities i;
    count_weight = (p.weight ∙ sym q.weight) i;
    column = columns i;
    flags = flags_once tables.nodes.now r a.flags b.flags p.flags q.flags i;
  }

  -- all records are one list of lookups, in each list of columns
  all_once : (tables : Tables) (rs : List Record) (a b : List (Lookup (Residue p))) → AllZip (IsTableLookup tables) rs a → AllZip (IsTableLookup tables) rs b → map (λ l. l.column) a ≡ map (λ l. l.column) b → map outline_of a ≡ map outline_of b
  all_once tables [] [] [] p q columns = refl
  all_once tables (r ∷ rs) (x ∷ xs) (y ∷ ys) p q columns =
      ap₂ (λ l ls. l ∷ ls) (lookup_once tables r x y p.0 q.0 (cc columns)) (all_once tables rs xs ys p.1 q.1 (cc columns))
  all_once tables rs a b p q columns = absurd (first_of (assumption p, assumption q))

  pub lookups_once : (tables : Tables) (a b : List (Lookup (Residue p))) → AreTableLookups tables a → AreTableLookups tables b → map outline_of a ≡ map outline_of b
  lookups_once tables a b p q =
      let many : length a ≡ length b = AllZip-long (IsTableLookup tables) tables.records.now a p.are ∙ sym (AllZip-long (IsTableLookup tables) tables.records.now b q.are) in
      all_once tables tables.records.now a b p.are q.are (p.columns ∙ (ap (range_with_len 0) many ∙ sym q.columns))
