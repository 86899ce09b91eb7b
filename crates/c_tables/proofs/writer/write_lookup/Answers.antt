use Rattle.std.proofs.Common.{All, List, inl, inr, refl, subst}
use Rattle.field.specs.Residue.{Residue}
use Rattle.std.proofs.lemmas.Result.{err_from_is_err_and}
use Rattle.std.specs.declared.alloc.Global.{Global}
use Rattle.std.specs.declared.vec.Vec.{Vec}
use Rattle.air_expressions.specs.declared.base_expression.SymbolicExpression.{SymbolicExpression}
use Rattle.c_tables.specs.Tables.{AreTableTuples, IsTableRange, AreTableExpressions, table_items}
use Rattle.c_tables.specs.Written.{AreWritableExpressions, IsWritingTuplesFault, IsWritingListFault}
use Rattle.c_tables.specs.declared.tables.Record.{Record}
use Rattle.c_tables.specs.internal.Written.{HoldsFrom}
use Rattle.c_tables.proofs.WriterLaws.{longer_then, record_says}
use Rattle.c_tables.proofs.writer.write_lookup.Goals as goal

pub returns : goal.returns
returns g c =
    let lookup = c.args.lookup.now in
    let nodes_1 = c.write_tuples.new.nodes.items in
    let nodes_2 = c.write_list.new.nodes.items in
    let nodes_3 = c.write_flags.new.nodes.items in
    let spans = c.write_tuples.new.spans.items in
    let made : Record = record {
      kind = c.in_ok-bus.bus.mark;
      exclusive = c.in_ok-flags.flags.mark;
      weight = lookup.count_weight;
      bus = c.in_ok-bus.bus.span;
      tuples = c.in_ok-tuples.tuples;
      multiplicities = c.in_ok-multiplicities.multiplicities;
      flags = c.in_ok-flags.flags.span;
    } in
    let tuples =
    subst (λ (ts : List (Vec (SymbolicExpression (Residue g.row.P)) Global)). HoldsFrom spans (λ all. IsTableRange all made.tuples × HoldsFrom nodes_1 (λ ns. AreTableTuples ns (table_items all made.tuples) ts)))
    c.deref.ensures.value c.in_ok-tuples.ensures.2 in
    let multiplicities =
    subst (λ (es : List (SymbolicExpression (Residue g.row.P))). HoldsFrom nodes_2 (λ all. AreTableExpressions all made.multiplicities es)) c.deref-2.ensures.value c.in_ok-multiplicities.ensures.1 in (
      longer_then c.args.nodes.now.items nodes_2 nodes_3 (longer_then c.args.nodes.now.items nodes_1 nodes_2 c.in_ok-tuples.ensures.0 c.in_ok-multiplicities.ensures.0) c.in_ok-flags.ensures.0,
      c.in_ok-tuples.ensures.1,
      c.in_ok-bus.ensures.0,
      record_says lookup made nodes_1 nodes_2 nodes_3 spans c.write_bus.new.names.items c.in_ok-multiplicities.ensures.0 c.in_ok-flags.ensures.0 c.in_ok-bus.ensures.1 tuples multiplicities c.in_ok-flags.ensures.1 refl,
      record {
        elements = subst (λ (ts : List (Vec (SymbolicExpression (Residue g.row.P)) Global)). All (λ tuple. AreWritableExpressions tuple.items) ts) c.deref.ensures.value c.in_ok-tuples.ensures.3;
        multiplicities = subst AreWritableExpressions c.deref-2.ensures.value c.in_ok-multiplicities.ensures.2;
        flags = c.in_ok-flags.ensures.2;
      },
    )

pub returns-in_err-tuples : goal.returns-in_err-tuples
returns-in_err-tuples g c =
    let p = err_from_is_err_and c.from_residual-in_err-tuples.result c.from_residual-in_err-tuples.ensures.1 in
    rw (p.1, p.2) (elim c.in_err-tuples.ensures [
      | inl memory ↦ inl memory
      | inr fault ↦ inr (inl (subst (λ (ts : List (Vec (SymbolicExpression (Residue g.row.P)) Global)). IsWritingTuplesFault ts c.in_err-tuples.field-0.0) c.deref.ensures.value fault))
    ])

pub returns-in_err-multiplicities : goal.returns-in_err-multiplicities
returns-in_err-multiplicities g c =
    let p = err_from_is_err_and c.from_residual-in_err-multiplicities.result c.from_residual-in_err-multiplicities.ensures.1 in
    rw (p.1, p.2) (elim c.in_err-multiplicities.ensures [
      | inl memory ↦ inl memory
      | inr fault ↦ inr (inr (inl (subst (λ (es : List (SymbolicExpression (Residue g.row.P))). IsWritingListFault es c.in_err-multiplicities.field-0.0) c.deref-2.ensures.value fault)))
    ])
