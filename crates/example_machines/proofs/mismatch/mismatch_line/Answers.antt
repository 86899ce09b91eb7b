use Rattle.std.proofs.Common.{List, inl, inr, map, subst, ap, ◌∙◌}
use Rattle.lookup_debug.specs.Contributions.{Traced, traced_of}
use Rattle.lookup_debug.specs.Mismatch.{AllBalance, IsMismatch}
use Rattle.example_machines.specs.Machines.{airs_of}
use Rattle.example_machines.proofs.MismatchLaws.{debug_fits, debug_heights, mismatched, none_mismatched}
use Rattle.example_machines.proofs.mismatch.mismatch_line.Goals as goal

pub check_lookups-requires-clause-fit : goal.check_lookups-requires-clause-fit
check_lookups-requires-clause-fit g c =
    debug_fits g.F.PrimeCharacteristicRing.ring g.F.PartialEq.eq c.requires.1 (airs_of c.requires.0) c.args.traces.now c.as_slice.result.now c.requires.2 (ap (map traced_of) c.as_slice.ensures.value ∙ c.in_ok-instances.ensures)

pub check_lookups-requires-clause-heights : goal.check_lookups-requires-clause-heights
check_lookups-requires-clause-heights g c =
    debug_heights g.F.PrimeCharacteristicRing.ring g.F.PartialEq.eq c.requires.1 c.args.traces.now c.as_slice.result.now (ap (map traced_of) c.as_slice.ensures.value ∙ c.in_ok-instances.ensures)

pub returns-in-Ok : goal.returns-in-Ok
returns-in-Ok g c = λ machine input all boolean.
    none_mismatched g.F.PrimeCharacteristicRing.lawful g.F.PartialEq.eq g.met.F.PrimeCharacteristicRing.eq_is input machine c.args.traces.now all boolean
    (subst (AllBalance g.F.PrimeCharacteristicRing.ring g.F.PartialEq.eq) (ap (map traced_of) c.as_slice.ensures.value ∙ c.in_ok-instances.ensures) c.in-Ok.ensures)

pub returns : goal.returns
returns g c = λ machine input all boolean.
    let R = g.F.PrimeCharacteristicRing.ring in
    let eq = g.F.PartialEq.eq in
    let text = g.F.Field.text in
    let are = ap (map traced_of) c.as_slice.ensures.value ∙ c.in_ok-instances.ensures in
    elim c.in-Err.ensures [
      | inl memory ↦ absurd (c.in_ok-line_of-in-Err.ensures.0 memory)
      | inr found ↦
          let m = mismatched g.F.PrimeCharacteristicRing.lawful eq g.met.F.PrimeCharacteristicRing.eq_is input machine c.args.traces.now all boolean text c.in-Err.fault
          (subst (λ (ts : List (Traced _)). IsMismatch R eq text ts c.in-Err.fault) are found) in
          (m.0, m.1, c.in_ok-line_of-in-Err.ensures.1 ∙ m.2)
    ]
