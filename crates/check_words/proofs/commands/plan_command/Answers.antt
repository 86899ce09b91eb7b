use Rattle.std.proofs.lemmas.Result.{IfOk-weaker}
use Rattle.check_words.proofs.LineLaws.{with_argument}
use Rattle.check_words.proofs.commands.plan_command.Goals as goal

pub returns : goal.returns
returns c =
    let with_degree = with_argument _ _ _ _ _ c.in_ok-arg.ensures c.in_ok-file_command.ensures c.degree_arg.ensures in
    let with_json = with_argument _ _ _ _ _ c.in_ok-arg-2.ensures with_degree c.json_arg.ensures in
    let with_enforced = with_argument _ _ _ _ _ c.in_ok-arg-3.ensures with_json c.enforced_arg.ensures in
    IfOk-weaker c.arg-4.result _ _ (λ m h. with_argument _ _ _ _ _ h with_enforced c.target_arg.ensures) c.arg-4.ensures
