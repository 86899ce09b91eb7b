use Rattle.std.proofs.Common.{◌∷◌, ◌++◌, [], ap, subst, ◌∙◌}
use Rattle.lookup_model.specs.Outline.{fields_of}
use Rattle.lookup.specs.internal.Trials.{IsTried}
use Rattle.lookup.proofs.StepLaws.{joined_step, next_step}
use Rattle.lookup.proofs.packing.filling.push_next.Goals.{in-None, in-Some+in_ok-push-in-Some}
use Rattle.lookup.proofs.packing.filling.push_next.Goals as goal

pub try_together-requires-clause-kept : goal.try_together-requires-clause-kept
try_together-requires-clause-kept g c = c.keep_trial-kept_both.ensures (fields_of c.args.bus.now.last) (fields_of c.args.next) c.requires.open.kept c.keep-kept.ensures

pub returns : goal.returns
returns g c =
    elim c.match-branch-2.branch [
      | in-None w ↦ (
          let joins = subst (λ t. IsTried (g.T.TrialDegrees.answers c.args.degrees.now) c.args.max_degree c.args.bus.now.last c.args.next c.try_together.new.column t) w.in-None.is c.in_ok-try_together.ensures in
          rw w.bus-is (joined_step (g.T.TrialDegrees.keeps c.args.degrees.now) (g.T.TrialDegrees.answers c.args.degrees.now) c.args.max_degree c.args.bus.now c.requires.open c.args.next _ c.keep_trial-kept_both.result joins (g.T.TrialDegrees.keeps_weight c.args.degrees.now c.keep_trial-kept_both.result)
          (c.keep_trial-kept_both.ensures (fields_of c.args.bus.now.last) (fields_of c.args.next) c.requires.open.kept c.keep-kept.ensures))
          )
      | in-Some+in_ok-push-in-Some w ↦ (
          let apart = subst (λ t. IsTried (g.T.TrialDegrees.answers c.args.degrees.now) c.args.max_degree c.args.bus.now.last c.args.next c.try_together.new.column t) w.in-Some.is c.in_ok-try_together.ensures in
          rw (w.bus-is, w.replace-full.ensures.after) (next_step (g.T.TrialDegrees.keeps c.args.degrees.now) (g.T.TrialDegrees.answers c.args.degrees.now) c.args.max_degree c.args.bus.now c.requires.open _ c.args.next _ _ c.keep-kept.result apart (w.in_ok-push-in-Some.ensures.items ∙ ap (λ t. c.args.bus.now.closed.items ++ t ∷ []) w.replace-full.ensures.value) c.keep-kept.ensures)
          )
    ]
