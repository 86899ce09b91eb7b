use Rattle.std.proofs.lemmas.Result.{IfOk-weaker}
use Rattle.check_words.proofs.LineLaws.{with_argument}
use Rattle.check_words.proofs.commands.challenge_command.Goals as goal

pub returns : goal.returns
returns c =
    let with_alpha = with_argument _ _ _ _ _ c.in_ok-arg.ensures c.in_ok-file_command.ensures c.alpha_arg.ensures in
    IfOk-weaker c.arg-2.result _ _ (λ m h. with_argument _ _ _ _ _ h with_alpha c.beta_arg.ensures) c.arg-2.ensures
