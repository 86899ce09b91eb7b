use Rattle.std.proofs.Common.{◌≡◌, List, length, sym, subst, ◌∙◌}
use Rattle.std.specs.Borrow.{Bor}
use Rattle.list_laws.proofs.Items.{some_is}
use Rattle.lookup_debug.specs.Mismatch.{IsFirst, net_amount}
use Rattle.lookup_debug.specs.internal.Nets.{IsFirstIndex}
use Rattle.lookup_debug.proofs.AmountNets.{nets_without_location}
use Rattle.lookup_debug.proofs.FirstMismatch.{all_zero, first_of_least}
use Rattle.lookup_debug.proofs.first.first_mismatch.Goals as goal

pub returns-in_default : goal.returns-in_default
returns-in_default g c cs same =
    let R = g.F.PrimeCharacteristicRing.ring in
    let eq = g.F.PartialEq.eq in
    let es = c.in_ok-nets.nets.entries in
    all_zero g.F.PrimeCharacteristicRing.lawful eq g.met.F.PrimeCharacteristicRing.eq_is g.F.Field.text es cs (c.in_ok-nets.ensures ∙ same ∙ nets_without_location g.F.PrimeCharacteristicRing.lawful eq g.met.F.PrimeCharacteristicRing.eq_is cs)
    (subst (IsFirstIndex R eq g.F.Field.text es (length es)) c.in_default.is c.in_ok-index.ensures)

pub returns : goal.returns
returns g c cs same =
    let R = g.F.PrimeCharacteristicRing.ring in
    let eq = g.F.PartialEq.eq in
    let es = c.in_ok-nets.nets.entries in
    let least = subst (IsFirstIndex R eq g.F.Field.text es (length es)) c.in-Some.is c.in_ok-index.ensures in
    subst (λ (e : Bor (List _) × _). IsFirst R eq g.F.Field.text cs e.0.now × (e.1 ≡ net_amount R eq cs e.0.now)) (some_is least.entry c.entry_at.result (sym least.there ∙ c.entry_at.ensures))
    (first_of_least g.F.PrimeCharacteristicRing.lawful eq g.met.F.PrimeCharacteristicRing.eq_is g.F.Field.text es cs c.in-Some.index (c.in_ok-nets.ensures ∙ same ∙ nets_without_location g.F.PrimeCharacteristicRing.lawful eq g.met.F.PrimeCharacteristicRing.eq_is cs) least)
