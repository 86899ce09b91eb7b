use Rattle.std.proofs.Common.{◌∙◌, List, ap, arith, inl, inr, length, map, subst, subst₂, sym}
use Rattle.std.proofs.lemmas.Slice.Zip.{AllZip-long}
use Rattle.field.specs.Residue.{Residue}
use Rattle.lookup_debug.specs.Contributions.{AreFitting, traced_of}
use Rattle.lookup_debug.specs.declared.instance.LookupDebugInstance.{LookupDebugInstance}
use Rattle.lookup.specs.Lookups.{lookups_of}
use Rattle.c_tables.specs.Tables.{TablesEncode}
use Rattle.c_tables.specs.TraceNumbers.{AreTracesOfNumbers}
use Rattle.c_calls.specs.DebugCheck.{IsFirstDebugMisfit, all_debug_traced}
use Rattle.c_calls.proofs.AnswerLaws.{refused_is}
use Rattle.c_calls.proofs.DebugLaws.{long_told, tells_tables}
use Rattle.c_calls.proofs.debug_numbers.answer_debug_numbers.Goals as goal

pub returns-in_err-sets : goal.returns-in_err-sets
returns-in_err-sets g c = rw (refused_is c.from_residual.result c.from_residual.ensures.1) (inr (inr (inl c.in_err-sets.ensures)))

pub returns-in_err-all : goal.returns-in_err-all
returns-in_err-all g c = rw (refused_is c.from_residual-in_err-all.result c.from_residual-in_err-all.ensures.1) (inr (inr (inr (inl c.in_err-all.ensures))))

pub debug_instances-requires : goal.debug_instances-requires
debug_instances-requires g c =
    omega (
      arith,
      c.if-traces-airs.false,
      c.deref.ensures.len,
      c.deref-2.ensures.len,
      AllZip-long (λ tables set. TablesEncode tables (lookups_of set)) c.args.airs.now c.in_ok-sets.sets.items c.in_ok-sets.ensures,
      AllZip-long (AreTracesOfNumbers g.K.MontyParameters.positive) c.args.traces.now c.in_ok-all.all.items c.in_ok-all.ensures,
      ap length c.deref.ensures.value,
      ap length c.deref-2.ensures.value,
    )

pub returns-in_err-instances : goal.returns-in_err-instances
returns-in_err-instances g c =
    let fault = c.in_err-instances.field-0.0 in
    rw (refused_is c.from_residual-in_err-instances.result c.from_residual-in_err-instances.ensures.1)
    (elim c.in_err-instances.ensures [
      | inl memory ↦ inl memory
      | inr misfit ↦ inr (inr (inr (inr (inl (record {
        sets = c.in_ok-sets.sets.items;
        sets_are = c.in_ok-sets.ensures;
        all = c.in_ok-all.all.items;
        all_are = c.in_ok-all.ensures;
        as_many = c.if-traces-airs.false;
        misfit = subst₂ (λ sets all. IsFirstDebugMisfit (all_debug_traced sets all) fault) c.deref.ensures.value c.deref-2.ensures.value misfit;
      })))))
    ])

pub numbers_of-requires : goal.numbers_of-requires
numbers_of-requires g c = (omega arith, subst (λ (is : List (LookupDebugInstance (Residue g.row.P))). AreFitting is) (sym c.deref-3.ensures.value) c.in_ok-instances.ensures.1)

pub returns-in_err-made : goal.returns-in_err-made
returns-in_err-made g c = rw (refused_is c.from_residual-in_err-made.result c.from_residual-in_err-made.ensures.1) (inl c.in_err-made.ensures)

pub returns-in_err-check_items : goal.returns-in_err-check_items
returns-in_err-check_items g c =
    let tells =
    tells_tables g.K.MontyParameters.positive _ c.args.asked c.args.airs.now c.args.traces.now c.args.limit c.in_ok-sets.sets.items c.in_ok-all.all.items (map traced_of c.deref-3.result.now) c.in_ok-made.made.items c.in_ok-sets.ensures c.in_ok-all.ensures c.if-traces-airs.false
    (ap (map traced_of) c.deref-3.ensures.value ∙ (c.in_ok-instances.ensures.0 ∙ (λ k. all_debug_traced (c.deref.ensures.value k) (c.deref-2.ensures.value k)))) c.in_ok-made.ensures in
    rw (refused_is c.from_residual-in_err-check_items.result c.from_residual-in_err-check_items.ensures.1)
    (inr (inr (inr (inr (inr (long_told c.in_ok-made.made.items c.len.result c.args.room _ (omega (arith, c.len.ensures, c.in_ok-made.made.ok.0)) tells c.in_err-check_items.ensures))))))

pub returns : goal.returns
returns g c = (
  tells_tables g.K.MontyParameters.positive _ c.args.asked c.args.airs.now c.args.traces.now c.args.limit c.in_ok-sets.sets.items c.in_ok-all.all.items (map traced_of c.deref-3.result.now) c.in_ok-made.made.items c.in_ok-sets.ensures c.in_ok-all.ensures c.if-traces-airs.false
      (ap (map traced_of) c.deref-3.ensures.value ∙ (c.in_ok-instances.ensures.0 ∙ (λ k. all_debug_traced (c.deref.ensures.value k) (c.deref-2.ensures.value k)))) c.in_ok-made.ensures,
  omega (arith, c.in_ok-check_items.ensures, c.len.ensures, c.in_ok-made.made.ok.0),
)
