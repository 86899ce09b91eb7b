use Rattle.std.proofs.Common.{◌∙◌, List, inl, inr, subst, sym}
use Rattle.field.specs.Residue.{Residue}
use Rattle.lookup_model.specs.declared.types.Lookup.{Lookup}
use Rattle.c_tables.specs.Tables.{TablesEncode}
use Rattle.c_calls.proofs.AnswerLaws.{refused_is}
use Rattle.c_calls.proofs.ColumnChecks.{verifies_tables}
use Rattle.c_calls.proofs.verify_air.answer_verify_air.Goals as goal

pub returns-in_err-lookups : goal.returns-in_err-lookups
returns-in_err-lookups g c = rw (refused_is c.from_residual.result c.from_residual.ensures.1) (inl c.in_err-lookups.ensures)

pub returns-in_err-read : goal.returns-in_err-read
returns-in_err-read g c = rw (refused_is c.from_residual-in_err-read.result c.from_residual-in_err-read.ensures.1) (inr (inl c.in_err-read.ensures))

pub returns-in_err-elements : goal.returns-in_err-elements
returns-in_err-elements g c = rw (refused_is c.from_residual-in_err-elements.result c.from_residual-in_err-elements.ensures.1) (inr (inr (inl c.in_err-elements.ensures)))

pub returns-in_err-auxiliary : goal.returns-in_err-auxiliary
returns-in_err-auxiliary g c = rw (refused_is c.from_residual-in_err-auxiliary.result c.from_residual-in_err-auxiliary.ensures.1) (inr (inr (inr (inl c.in_err-auxiliary.ensures))))

pub returns-in_err-terminal : goal.returns-in_err-terminal
returns-in_err-terminal g c = rw (refused_is c.from_residual-in_err-terminal.result c.from_residual-in_err-terminal.ensures.1) (inr (inr (inr (inr (inl c.in_err-terminal.ensures)))))

pub returns : goal.returns
returns g c =
    verifies_tables g.K.MontyParameters.positive _ c.args.tables.now c.args.traces.now c.verify_read.result c.deref.result.now c.in_ok-read.read c.deref-2.result.now
    (c.in_ok-auxiliary.auxiliary, c.in_ok-terminal.terminal)
    (subst (λ (ls : List (Lookup (Residue g.row.P))). TablesEncode c.args.tables.now ls) (sym c.deref.ensures.value) c.in_ok-lookups.ensures) c.in_ok-read.ensures
    c.args.challenges.now (c.deref-2.ensures.value ∙ c.in_ok-elements.ensures.0, c.in_ok-elements.ensures.1) c.args.witness.now
    (record { whole = c.in_ok-auxiliary.ensures.1; cells = c.in_ok-auxiliary.ensures.2; terminal = c.in_ok-terminal.ensures.1 })
    (λ i. (c.in_ok-auxiliary.ensures.0 i, c.in_ok-terminal.ensures.0 i))
    c.verify_read.ensures
