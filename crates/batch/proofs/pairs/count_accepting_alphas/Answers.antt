use Rattle.std.proofs.Common.{◌+◌, ◌≤◌, List, length, take, sym, subst, arith}
use Rattle.std.proofs.lemmas.List.{length-take}
use Rattle.list_laws.proofs.Items.{take_item}
use Rattle.field.specs.laws.Extension.{of_laws}
use Rattle.lookup_model.specs.Batches.Counts.{IsAccepting}
use Rattle.lookup_model.specs.Batches.Instances.{instances_of}
use Rattle.lookup_model.specs.Batches.Grid.{IsNumberOf}
use Rattle.lookup_model.proofs.Counting.Numbers.{number_having, number_lacking, number_within}
use Rattle.batch.proofs.pairs.count_accepting_alphas.Goals.{then-branch, else-branch}
use Rattle.batch.proofs.pairs.count_accepting_alphas.Goals as goal

pub overflow_add-accepting : goal.overflow_add-accepting
overflow_add-accepting g c =
    let E = of_laws g.met.EF.ExtensionField.lawful_fields in
    let within : c.loop-index.accepting ≤ length (take c.loop-index.index c.args.alphas.now) = number_within (IsAccepting E (instances_of c.args.instances.now) c.args.max_message_width c.args.beta) (take c.loop-index.index c.args.alphas.now) c.loop-index.accepting c.loop-index.invariant in
    omega (arith, within, length-take c.loop-index.index c.args.alphas.now, c.loop-index-test.true)

pub loop-index-preserved : goal.loop-index-preserved
loop-index-preserved g c =
    let P = IsAccepting (of_laws g.met.EF.ExtensionField.lawful_fields) (instances_of c.args.instances.now) c.args.max_message_width c.args.beta in
    let alphas = c.args.alphas.now in
    let index = c.loop-index.index in
    let alpha = c.index-alphas-index.result in
    let longer = take_item alphas index alpha c.loop-index-test.true c.index-alphas-index.is in
    let says = c.in_ok-accepts_pair.ensures in
    elim c.if-branch.branch [
      | then-branch w ↦ subst (IsNumberOf P (take (index + 1) alphas)) (sym w.accepting-is)
          (subst (λ (xs : List _). IsNumberOf P xs (c.loop-index.accepting + 1)) (sym longer) (number_having P (take index alphas) alpha c.loop-index.accepting (says.0 w.if-branch.true) c.loop-index.invariant))
      | else-branch w ↦ subst (IsNumberOf P (take (index + 1) alphas)) (sym w.accepting-is)
          (subst (λ (xs : List _). IsNumberOf P xs c.loop-index.accepting) (sym longer) (number_lacking P (take index alphas) alpha c.loop-index.accepting (λ has. cc (w.if-branch.false, says.1 has)) c.loop-index.invariant))
    ]
