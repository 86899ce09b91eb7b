use Rattle.std.proofs.Common.{◌≡◌, ap, ◌∙◌}
use native.Mathlib.Nat.{mod-eq_of_lt}
use Rattle.field.specs.Residue.{Residue}
use Rattle.field.proofs.small_prime.SmallPrimeDeserializeOwned.deserialize_owned.Goals as goal

pub returns : goal.returns
returns g c =
    let same : c.new.result.value ≡ c.in_ok-number.number =
    ap (λ (x : Residue g.row.P). x.value) c.new.ensures ∙ mod-eq_of_lt c.in_ok-number.ensures.below in
    rw same c.in_ok-number.ensures.read
