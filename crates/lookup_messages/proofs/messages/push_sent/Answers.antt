use Rattle.std.proofs.Common.{◌≡◌, ◌++◌, inl, inr, List, Option, IfSome, None, Some, length, ap, sym, subst, ◌∙◌}
use Rattle.std.proofs.lemmas.Result.{MatchResult-weaker}
use Rattle.std.specs.Option.{option_map}
use Rattle.air_expressions.specs.declared.base_expression.SymbolicExpression.{SymbolicExpression}
use Rattle.lookup_model.specs.Fault.{flag_fault_of}
use Rattle.lookup_model.specs.Records.{AllFit, IsWithin}
use Rattle.lookup_model.specs.Sent.{Sent, branches_at, sent, sent_at, values}
use Rattle.lookup_messages.specs.SentMessages.{messages_of}
use Rattle.lookup_messages.specs.TraceBuilder.{builder_layout, builder_window}
use Rattle.lookup_messages.proofs.messages.push_sent.Goals as goal

pub returns-in-None-clause-pushes : goal.returns-in-None-clause-pushes
returns-in-None-clause-pushes g c =
    let R = g.F.PrimeCharacteristicRing.ring in
    let eq = g.F.PartialEq.eq in
    let row = c.args.builder.now.row in
    let lookup = c.args.lookup.now in
    let w = builder_window c.args.builder.now in
    let branches = branches_at R w c.args.id lookup in
    let sent_is : sent R eq None branches ≡ sent_at R eq w c.args.id lookup =
    ap (λ o. sent R eq (option_map (λ flags. values R w flags.items) o) branches) (sym c.in-None.is) in
    MatchResult-weaker c.push_branches.result c.push_branches.ensures.pushes
    (λ _ h. (
      h ∙ ap (λ (s : Sent _). messages_of c.args.messages.now.items ++ s.messages) sent_is,
      ap (λ (s : Sent _). flag_fault_of R eq row lookup.column s.flags) (sym sent_is),
    ))
    (λ e memory. inl memory)

pub returns-in-Some-clause-pushes : goal.returns-in-Some-clause-pushes
returns-in-Some-clause-pushes g c =
    let R = g.F.PrimeCharacteristicRing.ring in
    let eq = g.F.PartialEq.eq in
    let row = c.args.builder.now.row in
    let lookup = c.args.lookup.now in
    let w = builder_window c.args.builder.now in
    let branches = branches_at R w c.args.id lookup in
    let sent_is : sent R eq (Some (values R w c.deref.result.now)) branches ≡ sent_at R eq w c.args.id lookup =
    ap (λ t. sent R eq (Some (values R w t)) branches) c.deref.ensures.value
    ∙ ap (λ o. sent R eq (option_map (λ flags. values R w flags.items) o) branches) (sym c.in-Some.is) in
    let fault_is = ap (λ (s : Sent _). flag_fault_of R eq row lookup.column s.flags) (sym sent_is) in
    MatchResult-weaker c.push_selected.result c.push_selected.ensures.pushes
    (λ _ h. (h.0 ∙ ap (λ (s : Sent _). messages_of c.args.messages.now.items ++ s.messages) sent_is, fault_is ∙ h.1))
    (λ e refused. elim refused [
      | inl memory ↦ inl memory
      | inr fault ↦ inr (fault_is ∙ fault)
    ])

pub push_selected-requires-clause-flag_number :
    goal.push_selected-requires-clause-flag_number
push_selected-requires-clause-flag_number g c = ap length c.deref.ensures.value ∙ c.requires.lengths.flags _ c.in-Some.is

pub push_selected-requires-clause-flags_fit :
    goal.push_selected-requires-clause-flags_fit
unfolding IsWithin
push_selected-requires-clause-flags_fit g c =
    let layout = builder_layout c.args.builder.now in
    subst (λ (es : List (SymbolicExpression _)). AllFit layout es) (sym c.deref.ensures.value) (subst (λ (o : Option _). IfSome o (λ flags. AllFit layout flags.items)) c.in-Some.is c.requires.within.2)
