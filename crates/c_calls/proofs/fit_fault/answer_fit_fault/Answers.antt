use Rattle.std.proofs.Common.{◌∙◌, List, MatchOption, inl, inr, subst, sym}
use Rattle.field.specs.Residue.{Residue}
use Rattle.air.specs.Traces.{AirTraces}
use Rattle.lookup_debug.specs.Fits.{FitTraces, IsFitFault}
use Rattle.lookup_model.specs.declared.types.Lookup.{Lookup}
use Rattle.c_tables.specs.Tables.{TablesEncode}
use Rattle.c_calls.proofs.AnswerLaws.{refused_is}
use Rattle.c_calls.proofs.BatchLaws.{decoded}
use Rattle.c_calls.proofs.fit_fault.answer_fit_fault.Goals as goal

pub returns-in_err-lookups : goal.returns-in_err-lookups
returns-in_err-lookups g c = rw (refused_is c.from_residual.result c.from_residual.ensures.1) (inl c.in_err-lookups.ensures)

pub returns-in_err-read : goal.returns-in_err-read
returns-in_err-read g c = rw (refused_is c.from_residual-in_err-read.result c.from_residual-in_err-read.ensures.1) (inr c.in_err-read.ensures)

pub returns : goal.returns
returns g c = record {
  lookups = c.deref.result.now;
  encoded = subst (λ (ls : List (Lookup (Residue g.row.P))). TablesEncode c.args.tables.now ls) (sym c.deref.ensures.value) c.in_ok-lookups.ensures;
  traces_below = c.in_ok-read.ensures.canonical;
  found = c.fault_of-found.result;
  found_is = subst (λ (t : AirTraces (Residue g.row.P)). MatchOption c.fault_of-found.result (FitTraces t c.deref.result.now) (IsFitFault t c.deref.result.now)) (decoded g.K.MontyParameters.positive c.args.traces.now c.in_ok-read.read c.in_ok-read.ensures) c.fault_of-found.ensures;
  fit_is = c.fit_numbers.ensures;
}
