use Rattle.language.proofs.RowLaws.{rows_found, rows_read}
use Rattle.language.proofs.theorems.rows_are_read.Goals as goal

pub returns-clause-found : goal.returns-clause-found
returns-clause-found c = λ modulus width at lines numbers e. rows_found modulus width at lines numbers e

pub returns-clause-only : goal.returns-clause-only
returns-clause-only c = λ modulus width at lines numbers are. rows_read modulus width at lines numbers are
