use Rattle.std.proofs.lemmas.Result.{IfOk-weaker}
use Rattle.check_words.proofs.LineLaws.{with_command}
use Rattle.check_words.proofs.commands.up_to_show.Goals as goal

pub returns : goal.returns
returns c =
    let to_check = with_command _ _ _ _ _ c.in_ok-subcommand.ensures c.in_ok-bare_command.ensures c.in_ok-check_command.ensures in
    let to_plan = with_command _ _ _ _ _ c.in_ok-subcommand-2.ensures to_check c.in_ok-plan_command.ensures in
    let to_pack = with_command _ _ _ _ _ c.in_ok-subcommand-3.ensures to_plan c.in_ok-pack_command.ensures in
    IfOk-weaker c.subcommand-4.result _ _ (λ m h. with_command _ _ _ _ _ h to_pack c.in_ok-show_command.ensures) c.subcommand-4.ensures
