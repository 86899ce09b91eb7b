use Rattle.check_run.proofs.commands.answer_over.Goals as goal

pub returns-in-Check : goal.returns-in-Check
returns-in-Check g c = rw c.in-Check.is c.check.ensures

pub returns-in-Witness : goal.returns-in-Witness
returns-in-Witness g c = rw c.in-Witness.is c.witness.ensures
