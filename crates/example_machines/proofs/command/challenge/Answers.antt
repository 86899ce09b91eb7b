use Rattle.std.proofs.Common.{ℕ, List, inr, refl, subst, sym}
use Rattle.example_machines.proofs.command.challenge.Goals as goal

pub returns-in_ok-from_str-in-None : goal.returns-in_ok-from_str-in-None
returns-in_ok-from_str-in-None g c =
    inr ((λ x written. c.in-None.ensures x (subst (λ (word : List ℕ). g.EF.Challenge.written word x) (sym c.as_bytes.ensures.value) written)), (c.in_ok-from_str-in-None.field-0, c.in_ok-from_str-in-None.ensures.ok, refl))
