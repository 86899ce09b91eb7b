use Rattle.std.proofs.Common.{ap, length, ◌∙◌}
use Rattle.std.proofs.lemmas.List.{length-map}
use Rattle.field.specs.Residue.{residue_of}
use Rattle.c_tables.proofs.TraceLaws.{shaped}
use Rattle.c_tables.proofs.traces.trace.Goals as goal

pub new-requires : goal.new-requires
new-requires g c =
    shaped c.in_ok-values.values.items (length c.args.numbers.now) c.args.width c.makes_rows.result (ap length c.in_ok-values.ensures.0 ∙ length-map c.args.numbers.now (residue_of g.row.P g.K.MontyParameters.positive)) c.makes_rows.ensures c.if-not-makes_rows.false
