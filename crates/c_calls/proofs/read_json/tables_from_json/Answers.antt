use Rattle.std.proofs.Common.{inr}
use Rattle.std.proofs.lemmas.Result.{MatchResult-weaker}
use Rattle.c_calls.proofs.read_json.tables_from_json.Goals as goal

pub returns : goal.returns
returns g c = MatchResult-weaker c.tables_for.result c.tables_for.ensures
    (λ w made. (record { utf8 = c.in_ok-set.ensures; set = c.in_ok-set.set; written = made.0 }, made.1))
    (λ fault refusal. inr (c.in_ok-set.ensures, c.in_ok-set.set, refusal))
