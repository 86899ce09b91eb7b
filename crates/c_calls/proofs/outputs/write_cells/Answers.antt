use Rattle.std.proofs.Common.{◌∙◌, ap, arith, length, map}
use Rattle.c_tables.specs.Numbers.{numbers_of}
use Rattle.c_calls.specs.declared.codes.Part.TheVariants.{Auxiliary}
use Rattle.c_calls.specs.declared.fault.Fault.TheVariants.{Length}
use Rattle.c_calls.proofs.WrittenLaws.{all_over}
use Rattle.c_calls.proofs.outputs.write_cells.Goals as goal

pub returns-then-values-cells-clause-answers : goal.returns-then-values-cells-clause-answers
returns-then-values-cells-clause-answers g c = (
  λ same. c.if-values-cells.true (ap length c.values-values.ensures.values ∙ same),
  ap (λ vs. Length Auxiliary (length vs) (length c.args.cells.now)) c.values-values.ensures.values,
)

pub returns-clause-answers : goal.returns-clause-answers
returns-clause-answers g c =
    all_over numbers_of _ c.args.cells.now c.write_elements.new.cells c.write_elements.ensures (omega (arith, c.if-values-cells.false)) c.write_elements.auto.cells ∙ ap (map numbers_of) c.values-values.ensures.values
