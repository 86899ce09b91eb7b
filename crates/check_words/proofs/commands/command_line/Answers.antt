use Rattle.std.proofs.lemmas.Result.{IfOk-weaker}
use Rattle.check_words.proofs.LineLaws.{with_command}
use Rattle.check_words.proofs.commands.command_line.Goals as goal

pub returns : goal.returns
returns c =
    let to_witness = with_command _ _ _ _ _ c.in_ok-subcommand.ensures c.in_ok-up_to_show.ensures c.in_ok-witness_command.ensures in
    let to_accept = with_command _ _ _ _ _ c.in_ok-subcommand-2.ensures to_witness c.in_ok-accept_command.ensures in
    let to_any = with_command _ _ _ _ _ c.in_ok-subcommand-3.ensures to_accept c.in_ok-any_command.ensures in
    IfOk-weaker c.subcommand-4.result _ _ (λ m h. with_command _ _ _ _ _ h to_any c.in_ok-bits_command.ensures) c.subcommand-4.ensures
