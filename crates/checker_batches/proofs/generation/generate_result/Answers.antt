use Rattle.std.proofs.Common.{List, subst, ◌∙◌}
use Rattle.field.specs.laws.Extension.{of_laws}
use Rattle.lookup_model.specs.Batches.Instances.{instance_of}
use Rattle.lookup_model.specs.Challenges.{table_of}
use Rattle.lookup_model.proofs.Batches.TableResults.{ByColumns, by_table}
use Rattle.checker_batches.proofs.generation.generate_result.Goals as goal

pub returns : goal.returns
returns g c =
    let laws = g.met.EF.ExtensionField.lawful_fields in
    let E = of_laws laws in
    let table = table_of c.args.challenges.now in
    let instance = instance_of c.args.instance.now in
    by_table laws table instance c.requires.fit c.generate_permutation.result
    (subst (λ (challenges : List _). ByColumns laws table instance c.requires.fit challenges c.generate_permutation.result) (c.as_slice.ensures.value ∙ c.in_ok-columns.ensures.challenges) c.generate_permutation.ensures)
