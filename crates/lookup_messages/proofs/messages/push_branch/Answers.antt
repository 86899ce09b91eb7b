use Rattle.std.proofs.Common.{refl, ◌∷◌, ◌++◌, [], ap, ◌∙◌}
use Rattle.std.proofs.lemmas.List.{map_push}
use Rattle.lookup_messages.specs.SentMessages.{message_of, messages_of}
use Rattle.lookup_messages.proofs.SentMessageLaws.{in_front}
use Rattle.lookup_messages.proofs.messages.push_branch.Goals as goal

pub returns-clause-pushes : goal.returns-clause-pushes
returns-clause-pushes g c =
    ap messages_of c.in_ok-push.ensures.items
    ∙ map_push message_of c.args.messages.now.items _
    ∙ (λ i. messages_of c.args.messages.now.items ++ record { key = record { id = c.args.id; tuple = c.in_ok-tuple.ensures i }; multiplicity = c.value_of-multiplicity.ensures i } ∷ [])

pub returns-clause-front : goal.returns-clause-front
returns-clause-front g c = (_, c.in_ok-push.ensures.items)

pub returns-in_err-tuple-clause-front : goal.returns-in_err-tuple-clause-front
returns-in_err-tuple-clause-front g c = in_front _ _ refl

pub returns-in_err-push-clause-front : goal.returns-in_err-push-clause-front
returns-in_err-push-clause-front g c = in_front _ _ c.in_err-push.ensures.items
