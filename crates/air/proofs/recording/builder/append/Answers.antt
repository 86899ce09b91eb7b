use Rattle.air.proofs.recording.builder.append.Goals as goal

pub returns-clause-appended : goal.returns-clause-appended
returns-clause-appended g c = (c.in_default.ensures.items, c.in_ok-push.ensures.items)
