use Rattle.std.proofs.Common.{◌≡◌, None, Option, Some, is_some, false, refl, sym, ◌∙◌, true≢false}
use Rattle.lookup_model.specs.Outline.{fields_of}
use Rattle.lookup.proofs.StepLaws.{pushed_on, refused_on, stuck_on, tried_on}
use Rattle.lookup.proofs.packing.filling.push_on.Goals as goal

none_of : {A : Type 0} (o : Option A) → is_some o ≡ false → o ≡ None
none_of None e = refl
none_of (Some x) e = absurd (true≢false e)

pub push_next-requires-clause-callable : goal.push_next-requires-clause-callable
push_next-requires-clause-callable g c = λ lookup is.
    c.requires.members.2 lookup (tried_on (g.T.TrialDegrees.keeps c.args.degrees.now) (g.T.TrialDegrees.answers c.args.degrees.now) c.args.max_degree c.requires.members.0 c.args.bus.now c.requires.members.1 (none_of c.args.bus.now.refusal (sym c.is_some.ensures ∙ c.if-is_some.false)) (fields_of c.args.next) lookup is)

pub returns-then-is_some-clause-filled : goal.returns-then-is_some-clause-filled
returns-then-is_some-clause-filled g c = λ members filled. stuck_on (g.T.TrialDegrees.keeps c.args.degrees.now) (g.T.TrialDegrees.answers c.args.degrees.now) c.args.max_degree members c.args.bus.now (fields_of c.args.next) filled (sym c.is_some.ensures ∙ c.if-is_some.true)

pub returns-in-Ok-clause-filled : goal.returns-in-Ok-clause-filled
returns-in-Ok-clause-filled g c = λ members filled.
    pushed_on (g.T.TrialDegrees.keeps c.args.degrees.now) (g.T.TrialDegrees.answers c.args.degrees.now) c.args.max_degree members c.args.bus.now filled (none_of c.args.bus.now.refusal (sym c.is_some.ensures ∙ c.if-is_some.false)) (fields_of c.args.next) _ c.in-Ok.ensures.0 c.in-Ok.ensures.1 c.in-Ok.ensures.2

pub returns-in-Err-clause-filled : goal.returns-in-Err-clause-filled
returns-in-Err-clause-filled g c = λ members filled.
    refused_on (g.T.TrialDegrees.keeps c.args.degrees.now) (g.T.TrialDegrees.answers c.args.degrees.now) c.args.max_degree members c.args.bus.now filled (none_of c.args.bus.now.refusal (sym c.is_some.ensures ∙ c.if-is_some.false)) (fields_of c.args.next) (record c.push_next.new.bus { refusal = Some c.in-Err.refusal }) c.in-Err.refusal refl c.in-Err.ensures
