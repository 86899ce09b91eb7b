use Rattle.std.proofs.Common.{arith, refl, subst}
use Rattle.std.proofs.lemmas.List.Elements.{All-nil}
use Rattle.std.proofs.lemmas.Option.{none-some}
use Rattle.air.specs.Traces.{HaveOneHeight, layout_of}
use Rattle.field.specs.declared.integers_modulo_7.F7Parameters.{F7Parameters}
use Rattle.field.specs.declared.small_prime.SmallPrime.{SmallPrime}
use Rattle.lookup_debug.specs.Contributions.{traced_of}
use Rattle.lookup_debug.specs.declared.instance.LookupDebugInstance.{LookupDebugInstance}
use Rattle.lookup_model.specs.Records.{IsWithin, LookupsFit}
use Rattle.gate_memory.proofs.Pairs.{both}
use Rattle.gate_memory.proofs.batches.fault_of.Goals as goal

pub check_lookups-requires-clause-fit : goal.check_lookups-requires-clause-fit
check_lookups-requires-clause-fit c =
    both (λ (i : LookupDebugInstance (SmallPrime 7 F7Parameters)). LookupsFit (layout_of (traced_of i).traces) i.lookups.now) _ _
    (subst (λ l. LookupsFit l c.args.lookups.now) c.of_traces-layout.ensures (c.if-not-fits.ensures.0 refl))
    (record { records = λ i lookup lt is. absurd (omega (arith, lt)); within = All-nil (IsWithin _) })

pub check_lookups-requires-clause-heights : goal.check_lookups-requires-clause-heights
check_lookups-requires-clause-heights c =
    both (λ (i : LookupDebugInstance (SmallPrime 7 F7Parameters)). HaveOneHeight (traced_of i).traces) _ _ (λ x is. absurd (none-some x is)) (λ x is. absurd (none-some x is))
