use Rattle.std.proofs.Common.{map, sym, subst}
use Rattle.std.specs.String.{string_bytes}
use Rattle.check_words.specs.Line.{line_app}
use Rattle.check_words.specs.Words.{Asks}
use Rattle.check_words.proofs.LineLaws.{no_fault, no_request_refuses, parse_refuses, same_subcommand}
use Rattle.check_words.proofs.line.asked.Goals as goal

pub returns-in-Err : goal.returns-in-Err
returns-in-Err c = parse_refuses _ _ _ c.in-Err.error _ c.in_ok-command.ensures.shape c.in-Err.ensures.kinds c.refusal_of.ensures

pub returns-in-Some : goal.returns-in-Some
returns-in-Some c = (
  no_fault _ _ _ c.in_ok-command.ensures.shape c.in-Ok.ensures.kinds,
  subst (λ met. Asks met c.in-Some.asked)
      (same_subcommand _ _ _ c.in-Ok.matches c.in_ok-command.ensures.shape c.in-Ok.ensures.matches) c.in-Some.ensures,
)

pub returns : goal.returns
returns c =
    let same = same_subcommand _ _ _ c.in-Ok.matches c.in_ok-command.ensures.shape c.in-Ok.ensures.matches in
    no_request_refuses (line_app c.args.fields) (map string_bytes c.args.words.now) _ c.too_many_unbalanced.ensures (
      no_fault _ _ _ c.in_ok-command.ensures.shape c.in-Ok.ensures.kinds,
      λ x asks. c.in-None.ensures x (subst (λ met. Asks met x) (sym same) asks),
    )
