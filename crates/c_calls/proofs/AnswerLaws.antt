-- What calls answer that pass on a fault.
use Rattle.std.proofs.Common.{◌≡◌, ◌∙◌, Result, Err, ap}
use Rattle.std.proofs.lemmas.Result.{err_from_is_err_and}
use Rattle.std.specs.Result.{IsErrAnd}
use Rattle.c_calls.specs.declared.fault.Fault.{Fault}

-- what a call answers that passes on a fault
pub refused_is : {T : Type 0} {fault : Fault} (answer : Result T Fault) → IsErrAnd answer (λ e. e ≡ fault) → answer ≡ Err fault
refused_is answer is =
    let p = err_from_is_err_and answer is in
    p.1 ∙ ap Err p.2
