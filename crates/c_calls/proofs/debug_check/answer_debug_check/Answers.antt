use Rattle.std.proofs.Common.{◌∙◌, List, ap, arith, inl, inr, length, map, subst, subst₂, sym}
use Rattle.std.proofs.lemmas.Slice.Zip.{AllZip-long}
use Rattle.field.specs.Residue.{Residue}
use Rattle.lookup_debug.specs.Contributions.{AreFitting, traced_of}
use Rattle.lookup_debug.specs.declared.instance.LookupDebugInstance.{LookupDebugInstance}
use Rattle.lookup.specs.Lookups.{lookups_of}
use Rattle.c_tables.specs.Tables.{TablesEncode}
use Rattle.c_tables.specs.TraceNumbers.{AreTracesOfNumbers}
use Rattle.c_calls.specs.DebugCheck.{IsFirstDebugMisfit, all_debug_traced}
use Rattle.c_calls.proofs.AnswerLaws.{refused_is}
use Rattle.c_calls.proofs.DebugLaws.{checks_tables}
use Rattle.c_calls.proofs.debug_check.answer_debug_check.Goals as goal

pub debug_instances-requires : goal.debug_instances-requires
debug_instances-requires g c =
    omega (
      arith,
      c.if-traces-airs.false,
      c.deref.ensures.len,
      c.deref-2.ensures.len,
      AllZip-long (λ tables set. TablesEncode tables (lookups_of set)) c.args.airs.now c.in_ok-sets.sets.items c.in_ok-sets.ensures,
      AllZip-long (AreTracesOfNumbers g.K.MontyParameters.positive) c.args.traces.now c.in_ok-all.all.items c.in_ok-all.ensures,
      ap length c.deref.ensures.value,
      ap length c.deref-2.ensures.value,
    )

pub check_instances-requires : goal.check_instances-requires
check_instances-requires g c = (omega arith, subst (λ (is : List (LookupDebugInstance (Residue g.row.P))). AreFitting is) (sym c.deref-3.ensures.value) c.in_ok-instances.ensures.1)

pub returns-in_err-instances : goal.returns-in_err-instances
returns-in_err-instances g c =
    let fault = c.in_err-instances.field-0.0 in
    rw (refused_is c.from_residual-in_err-instances.result c.from_residual-in_err-instances.ensures.1)
    (elim c.in_err-instances.ensures [
      | inl memory ↦ inl memory
      | inr misfit ↦ inr (inr (inr (inr (record {
        sets = c.in_ok-sets.sets.items;
        sets_are = c.in_ok-sets.ensures;
        all = c.in_ok-all.all.items;
        all_are = c.in_ok-all.ensures;
        refusal = inl (subst₂ (λ sets all. IsFirstDebugMisfit (all_debug_traced sets all) fault) c.deref.ensures.value c.deref-2.ensures.value misfit);
      }))))
    ])

pub returns : goal.returns
returns g c =
    checks_tables g.K.MontyParameters.positive _ c.args.airs.now c.args.traces.now c.in_ok-sets.sets.items c.in_ok-all.all.items (map traced_of c.deref-3.result.now) c.check_instances.result c.in_ok-sets.ensures c.in_ok-all.ensures c.if-traces-airs.false
    (ap (map traced_of) c.deref-3.ensures.value ∙ (c.in_ok-instances.ensures.0 ∙ (λ k. all_debug_traced (c.deref.ensures.value k) (c.deref-2.ensures.value k)))) c.check_instances.ensures
