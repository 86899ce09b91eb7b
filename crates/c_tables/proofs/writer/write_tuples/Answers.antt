use Rattle.std.proofs.Common.{◌≡◌, ◌++◌, ◌∷◌, [], All, List, ap, append_assoc, arith, get_or, inl, inr, subst, sym, take, ◌∙◌}
use Rattle.field.specs.Residue.{Residue}
use Rattle.std.proofs.lemmas.List.{append-nil, take_all}
use Rattle.std.proofs.lemmas.List.Elements.{All-more, All-nil}
use Rattle.std.proofs.lemmas.Option.{slice_get-get_or}
use Rattle.std.proofs.lemmas.Result.{err_from_is_err_and}
use Rattle.std.specs.declared.alloc.Global.{Global}
use Rattle.std.specs.declared.vec.Vec.{Vec}
use Rattle.air_expressions.specs.declared.base_expression.SymbolicExpression.{SymbolicExpression}
use Rattle.c_tables.specs.Tables.{AreTableExpressions}
use Rattle.c_tables.specs.Written.{AreWritableExpressions, IsWritingListFault}
use Rattle.c_tables.proofs.WriterLaws.{longer_same, longer_then, tuples_next, tuples_written}
use Rattle.c_tables.proofs.writer.write_tuples.Goals as goal

pub loop-tuple-init : goal.loop-tuple-init
loop-tuple-init g c = record {
  longer = longer_same c.args.nodes.now.items;
  made = [];
  spans_are = sym (append-nil c.args.spans.now.items);
  encoded = λ all longer. tt;
  each = All-nil (λ tuple. AreWritableExpressions tuple.items);
}

pub returns-in_err-span : goal.returns-in_err-span
returns-in_err-span g c =
    let tuples = c.args.tuples.now in
    let i = c.loop-tuple.tuple-index in
    let p = err_from_is_err_and c.from_residual.result c.from_residual.ensures.1 in
    rw (p.1, p.2) (elim c.in_err-span.ensures [
      | inl memory ↦ inl memory
      | inr fault ↦ inr (
        i,
        get_or tuples i c.tuple-item.result,
        slice_get-get_or tuples i c.tuple-item.result c.loop-tuple-test.true,
        subst (λ (v : Vec (SymbolicExpression (Residue g.row.P)) Global). IsWritingListFault v.items c.in_err-span.field-0.0) c.tuple-item.is
            (subst (λ (es : List (SymbolicExpression (Residue g.row.P))). IsWritingListFault es c.in_err-span.field-0.0) c.deref.ensures.value fault),
      )
    ])

pub loop-tuple-preserved : goal.loop-tuple-preserved
loop-tuple-preserved g c =
    let so_far = c.loop-tuple.invariant in
    let span = c.in_ok-span.span in record {
      longer = longer_then c.args.nodes.now.items c.loop-tuple.nodes.items c.write_list.new.nodes.items so_far.longer c.in_ok-span.ensures.0;
      made = so_far.made ++ span ∷ [];
      spans_are = c.in_ok-push.ensures.items ∙ (ap (λ ss. ss ++ span ∷ []) so_far.spans_are ∙ append_assoc c.args.spans.now.items so_far.made (span ∷ []));
      encoded = tuples_next c.args.tuples.now c.loop-tuple.tuple-index c.tuple-item.result so_far.made span c.loop-tuple.nodes.items c.write_list.new.nodes.items c.loop-tuple-test.true c.tuple-item.is c.in_ok-span.ensures.0 so_far.encoded
          (λ all further. subst (λ (es : List (SymbolicExpression (Residue g.row.P))). AreTableExpressions all span es) c.deref.ensures.value (c.in_ok-span.ensures.1 all further));
      each = All-more (λ tuple. AreWritableExpressions tuple.items) c.args.tuples.now c.loop-tuple.tuple-index c.tuple-item.result c.loop-tuple-test.true so_far.each
          (subst (λ (v : Vec (SymbolicExpression (Residue g.row.P)) Global). AreWritableExpressions v.items) c.tuple-item.is
          (subst AreWritableExpressions c.deref.ensures.value c.in_ok-span.ensures.2));
    }

pub returns : goal.returns
returns g c =
    let so_far = c.loop-tuple.invariant in
    let whole : take c.loop-tuple.tuple-index c.args.tuples.now ≡ c.args.tuples.now = take_all c.loop-tuple.tuple-index c.args.tuples.now (omega (arith, c.loop-tuple-test.false)) in (
      so_far.longer,
      (so_far.made, so_far.spans_are),
      tuples_written c.args.tuples.now c.loop-tuple.tuple-index c.args.spans.now.items so_far.made c.loop-tuple.spans.items c.loop-tuple.nodes.items (record { start = c.len-start.result; end = c.len.result }) (omega (arith, c.loop-tuple-test.false)) so_far.spans_are (omega (arith, c.len-start.ensures)) (omega (arith, c.len.ensures)) so_far.encoded,
      subst (λ (ts : List (Vec (SymbolicExpression (Residue g.row.P)) Global)). All (λ tuple. AreWritableExpressions tuple.items) ts) whole so_far.each,
    )
