use Rattle.language.proofs.GrammarLaws.{formula_found}
use Rattle.language.proofs.ReadingLaws.{sum_read}
use Rattle.language.proofs.theorems.formulas_are_said.Goals as goal

pub returns-clause-found : goal.returns-clause-found
returns-clause-found c = λ ts rest f e. formula_found 1024 ts rest f e

pub returns-clause-only : goal.returns-clause-only
returns-clause-only c = λ ts rest f said over. sum_read 1024 ts rest f said over
