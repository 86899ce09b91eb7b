use Rattle.std.proofs.Common.{codes}
use Rattle.std.proofs.lemmas.Result.{IfOk-weaker}
use Rattle.clap.specs.Words.{new_app}
use Rattle.check_words.specs.internal.Commands.{IsCommand}
use Rattle.check_words.proofs.LineLaws.{with_argument}
use Rattle.check_words.proofs.commands.message_bits.Goals as goal

pub returns : goal.returns
returns c =
    let named : IsCommand (new_app (codes "bits")) c.named_command.result = c.named_command.ensures in
    let with_messages = with_argument _ _ _ _ _ c.in_ok-arg.ensures named c.messages_arg.ensures in
    let with_unbalanced = with_argument _ _ _ _ _ c.in_ok-arg-2.ensures with_messages c.unbalanced_arg.ensures in
    IfOk-weaker c.arg-3.result _ _ (λ m h. with_argument _ _ _ _ _ h with_unbalanced c.width_arg.ensures) c.arg-3.ensures
