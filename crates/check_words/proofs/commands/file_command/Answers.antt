use Rattle.std.proofs.lemmas.Result.{IfOk-weaker}
use Rattle.check_words.proofs.LineLaws.{with_argument}
use Rattle.check_words.proofs.commands.file_command.Goals as goal

pub returns : goal.returns
returns c =
    let with_file = with_argument _ _ _ _ _ c.in_ok-arg.ensures c.named_command.ensures c.file_arg.ensures in
    let with_field = with_argument _ _ _ _ _ c.in_ok-arg-2.ensures with_file c.field_arg.ensures in
    IfOk-weaker c.arg-3.result _ _ (λ m h. with_argument _ _ _ _ _ h with_field c.progress_arg.ensures) c.arg-3.ensures
