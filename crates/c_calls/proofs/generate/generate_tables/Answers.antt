use Rattle.std.proofs.Common.{◌∙◌, List, inl, inr, subst, sym}
use Rattle.field.specs.Residue.{Residue}
use Rattle.lookup_model.specs.declared.types.Lookup.{Lookup}
use Rattle.c_tables.specs.Tables.{TablesEncode}
use Rattle.c_calls.proofs.GenerateLaws.{generates_tables}
use Rattle.c_calls.proofs.AnswerLaws.{refused_is}
use Rattle.c_calls.proofs.generate.generate_tables.Goals as goal

pub returns-in_err-lookups : goal.returns-in_err-lookups
returns-in_err-lookups g c = rw (refused_is c.from_residual.result c.from_residual.ensures.1) (inl c.in_err-lookups.ensures)

pub returns-in_err-traces : goal.returns-in_err-traces
returns-in_err-traces g c = rw (refused_is c.from_residual-in_err-traces.result c.from_residual-in_err-traces.ensures.1) (inr (inl c.in_err-traces.ensures))

pub returns : goal.returns
returns g c =
    generates_tables g.K.MontyParameters.positive _ c.args.tables.now c.args.traces.now c.generate_lookups.result c.deref.result.now c.in_ok-traces.traces c.deref-2.result.now
    (subst (λ (ls : List (Lookup (Residue g.row.P))). TablesEncode c.args.tables.now ls) (sym c.deref.ensures.value) c.in_ok-lookups.ensures) c.in_ok-traces.ensures
    c.args.challenges.now (c.deref-2.ensures.value ∙ c.in_ok-challenges.ensures.0, c.in_ok-challenges.ensures.1) c.generate_lookups.ensures
