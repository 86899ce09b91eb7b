use Rattle.std.proofs.Common.{subst, sym}
use Rattle.clap.specs.Words.{subcommand_rows_of}
use Rattle.check_words.proofs.LineLaws.{no_request}
use Rattle.check_words.specs.internal.Readings.{ReadsMet}
use Rattle.check_words.proofs.reading.asked_of.Goals as goal

pub returns-in_err-batch_of : goal.returns-in_err-batch_of
returns-in_err-batch_of c = subst (ReadsMet (subcommand_rows_of c.args.matches.now)) (sym c.from_residual-in_err-batch_of.ensures)
    (no_request _ _ _ c.in_ok-name.name.now _ c.eq.result c.in_ok-name.ensures.name c.in_ok-name.ensures.rows c.eq.ensures c.if-eq.false c.in_err-batch_of.ensures)
