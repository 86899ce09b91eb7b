use Rattle.std.proofs.Common.{inl, inr, map}
use Rattle.std.proofs.lemmas.Result.{err_from_is_err_and}
use Rattle.lookup_debug.specs.Contributions.{traced_of}
use Rattle.lookup_debug.specs.Groups.{bus_group, local_groups, traced_bus_names}
use Rattle.lookup_debug.proofs.GroupLaws.{answers-after, mismatch-sooner}
use Rattle.lookup_debug.proofs.check.check_lookups.Goals as goal

pub check_locals-requires : goal.check_locals-requires
check_locals-requires g c = λ n d lt. record { fit = c.requires.fit n d lt; heights = c.requires.heights n d lt }

pub check_buses-requires : goal.check_buses-requires
check_buses-requires g c = λ n d lt. record { fit = c.requires.fit n d lt; heights = c.requires.heights n d lt }

pub returns-in_err-check_locals : goal.returns-in_err-check_locals
returns-in_err-check_locals g c =
    let R = g.F.PrimeCharacteristicRing.ring in
    let eq = g.F.PartialEq.eq in
    let all = map traced_of c.args.instances.now in
    let p = err_from_is_err_and c.from_residual.result c.from_residual.ensures.1 in
    rw (p.1, p.2) (elim c.in_err-check_locals.ensures [
      | inl memory ↦ inl memory
      | inr is ↦ inr (mismatch-sooner R eq g.F.Field.text (local_groups R eq all) (map (bus_group R eq all) (traced_bus_names all)) c.in_err-check_locals.field-0.0 is)
    ])

pub returns : goal.returns
returns g c =
    let R = g.F.PrimeCharacteristicRing.ring in
    let eq = g.F.PartialEq.eq in
    let all = map traced_of c.args.instances.now in
    answers-after R eq g.F.Field.text (local_groups R eq all) (map (bus_group R eq all) (traced_bus_names all)) c.in_ok-check_locals.ensures c.check_buses.result c.check_buses.ensures
