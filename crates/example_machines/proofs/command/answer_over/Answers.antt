use Rattle.std.proofs.Common.{◌≡◌, ◌⊎◌, ℕ, List, IfSome, inl, inr, subst, sym}
use Rattle.std.proofs.lemmas.Result.{err_from_is_err_and}
use Rattle.example_machines.specs.Program.{IsBadChallenge}
use Rattle.example_machines.specs.declared.error.RunError.TheVariants.{CannotReadInput, Memory}
use Rattle.example_machines.proofs.AnswerLaws.{alpha_refused, beta_refused, given, input_refused, read_whole, report_answers}
use Rattle.example_machines.proofs.command.answer_over.Goals.{in-OutOfMemory, in_default-kind}
use Rattle.example_machines.proofs.command.answer_over.Goals as goal

pub returns-in_err-challenge : goal.returns-in_err-challenge
returns-in_err-challenge g c =
    let p = err_from_is_err_and c.from_residual.result c.from_residual.ensures.1 in
    let bytes = given (g.R.Read.remaining c.args.input.now) in
    let e = c.in_err-challenge.field-0.0 in
    let refusal = subst (λ (word : List ℕ). (e ≡ Memory) ⊎ IsBadChallenge g.EF.Challenge.written word e) c.as_str.ensures.value c.in_err-challenge.ensures in
    (bytes.0, bytes.1, rw (p.1, p.2) (alpha_refused _ c.args.machine _ _ bytes.0 e refusal))

pub returns-in_err-challenge-2 : goal.returns-in_err-challenge-2
returns-in_err-challenge-2 g c =
    let p = err_from_is_err_and c.from_residual-in_err-challenge-2.result c.from_residual-in_err-challenge-2.ensures.1 in
    let bytes = given (g.R.Read.remaining c.args.input.now) in
    let e = c.in_err-challenge-2.field-0.0 in
    let alpha = subst (λ (word : List ℕ). g.EF.Challenge.written word c.in_ok-challenge.field-0) c.as_str.ensures.value c.in_ok-challenge.ensures in
    let refusal = subst (λ (word : List ℕ). (e ≡ Memory) ⊎ IsBadChallenge g.EF.Challenge.written word e) c.as_str-2.ensures.value c.in_err-challenge-2.ensures in
    (bytes.0, bytes.1, rw (p.1, p.2) (beta_refused _ c.args.machine _ _ bytes.0 _ alpha e refusal))

pub returns-in-Err : goal.returns-in-Err
returns-in-Err g c =
    let bytes = given (g.R.Read.remaining c.args.input.now) in
    let alpha = subst (λ (word : List ℕ). g.EF.Challenge.written word c.in_ok-challenge.field-0) c.as_str.ensures.value c.in_ok-challenge.ensures in
    let beta = subst (λ (word : List ℕ). g.EF.Challenge.written word c.in_ok-challenge-2.field-0) c.as_str-2.ensures.value c.in_ok-challenge-2.ensures in
    let kind : (c.match-kind.result ≡ Memory) ⊎ (c.match-kind.result ≡ CannotReadInput) =
    elim c.match-kind.branch [ in-OutOfMemory w ↦ inl w.result-is | in_default-kind w ↦ inr w.result-is ] in
    (bytes.0, bytes.1, input_refused _ c.args.machine _ _ bytes.0 _ alpha _ beta c.match-kind.result kind)

pub returns : goal.returns
returns g c =
    let alpha = subst (λ (word : List ℕ). g.EF.Challenge.written word c.in_ok-challenge.field-0) c.as_str.ensures.value c.in_ok-challenge.ensures in
    let beta = subst (λ (word : List ℕ). g.EF.Challenge.written word c.in_ok-challenge-2.field-0) c.as_str-2.ensures.value c.in_ok-challenge-2.ensures in
    let whole = read_whole (g.R.Read.remaining c.args.input.now) c.read_to_end.new.buf.items c.new-text.result.items c.new-text.ensures.items c.in_default.ensures.bytes in
    let known = subst (λ (bytes : List ℕ). IfSome (g.R.Read.remaining c.args.input.now) (λ known. bytes ≡ known)) (sym c.as_slice.ensures.value) whole in
    (c.as_slice.result.now, known, report_answers _ c.args.machine _ _ c.as_slice.result.now _ alpha _ beta c.report_of.result c.report_of.ensures)
