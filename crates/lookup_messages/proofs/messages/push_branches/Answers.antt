use Rattle.std.proofs.Common.{◌∷◌, ◌++◌, [], append_assoc, refl, take, ap, sym, ◌∙◌, arith}
use Rattle.std.proofs.lemmas.List.{append-nil, take_all}
use Rattle.lookup_model.proofs.Branches.{branches_more, length-branches_at}
use Rattle.lookup_model.proofs.RecordLaws.{multiplicity_fits, tuple_fits}
use Rattle.lookup_model.specs.Sent.{branch_at, branches_at}
use Rattle.lookup_messages.specs.SentMessages.{messages_of}
use Rattle.lookup_messages.specs.TraceBuilder.{builder_layout, builder_window}
use Rattle.lookup_messages.proofs.SentMessageLaws.{further_back, in_front}
use Rattle.lookup_messages.proofs.messages.push_branches.Goals as goal

pub push_branch-requires-clause-tuple_fits : goal.push_branch-requires-clause-tuple_fits
push_branch-requires-clause-tuple_fits g c =
    tuple_fits (builder_layout c.args.builder.now) c.args.lookup.now c.requires.within c.loop-branch.branch c.index-tuple.result.now _ (omega arith) c.index-tuple.ensures c.deref.ensures.value

pub push_branch-requires-clause-multiplicity_fits : goal.push_branch-requires-clause-multiplicity_fits
push_branch-requires-clause-multiplicity_fits g c =
    multiplicity_fits (builder_layout c.args.builder.now) c.args.lookup.now c.requires.within c.requires.lengths c.loop-branch.branch _ (omega arith) c.index-multiplicity.ensures

pub loop-branch-init : goal.loop-branch-init
loop-branch-init g c = (sym (append-nil (messages_of c.args.messages.now.items)), in_front _ _ refl)

pub loop-branch-preserved : goal.loop-branch-preserved
loop-branch-preserved g c =
    let R = g.F.PrimeCharacteristicRing.ring in
    let w = builder_window c.args.builder.now in
    let lookup = c.args.lookup.now in
    let i = c.loop-branch.branch in
    let before = messages_of c.args.messages.now.items in
    let branches = branches_at R w c.args.id lookup in
    let m = branch_at R w c.args.id c.index-tuple.result.now.items c.index-multiplicity.result.now in
    let more = branches_more R w c.args.id lookup c.requires.lengths i c.index-tuple.result.now c.index-multiplicity.result.now (omega arith) c.index-tuple.ensures c.index-multiplicity.ensures in (
      c.in_ok-push_branch.ensures.pushes
          ∙ (λ k. c.loop-branch.invariant.0 k ++ branch_at R w c.args.id (c.deref.ensures.value k) c.index-multiplicity.result.now ∷ [])
          ∙ append_assoc before (take i branches) (m ∷ [])
          ∙ ap (λ t. before ++ t) (sym more),
      further_back _ _ _ c.loop-branch.invariant.1 c.in_ok-push_branch.ensures.front,
    )

pub returns-clause-pushes : goal.returns-clause-pushes
returns-clause-pushes g c =
    let R = g.F.PrimeCharacteristicRing.ring in
    let w = builder_window c.args.builder.now in
    let lookup = c.args.lookup.now in
    let branches = branches_at R w c.args.id lookup in
    c.loop-branch.invariant.0
    ∙ ap (λ t. messages_of c.args.messages.now.items ++ t) (take_all c.loop-branch.branch branches (omega (arith, length-branches_at R w c.args.id lookup c.requires.lengths)))

pub returns-in_err-push_branch-clause-front : goal.returns-in_err-push_branch-clause-front
returns-in_err-push_branch-clause-front g c = further_back _ _ _ c.loop-branch.invariant.1 c.in_err-push_branch.ensures.front
