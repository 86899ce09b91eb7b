use Rattle.field.specs.laws.Extension.{of_laws}
use Rattle.checker_batches.proofs.TablesAlike.{accepted_made, accepting}
use Rattle.checker_batches.proofs.theorems.accepted_is_accepting.Goals as goal

pub returns-clause-values : goal.returns-clause-values
returns-clause-values g c = λ W m alpha beta challenges instances made have.
    accepting (of_laws g.met.EF.ExtensionField.lawful_fields) W m alpha beta challenges instances made.0 made.1 have

pub returns-clause-below : goal.returns-clause-below
returns-clause-below g c = λ W m alpha beta challenges instances made below.
    accepted_made (of_laws g.met.EF.ExtensionField.lawful_fields) W m alpha beta challenges instances made.0 made.1 below
