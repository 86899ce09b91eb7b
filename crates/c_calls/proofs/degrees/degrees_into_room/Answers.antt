use Rattle.std.proofs.Common.{◌≡◌, ◌∙◌, ap, arith, inl, inr, length}
use Rattle.std.proofs.lemmas.List.{length-map}
use Rattle.lookup.specs.Lookups.{lookups_of}
use Rattle.lookup_model.specs.LookupDegree.{lookup_degree}
use Rattle.c_calls.specs.declared.fault.Fault.TheVariants.{Length}
use Rattle.c_calls.specs.declared.codes.Part.TheVariants.{Degrees}
use Rattle.c_calls.proofs.AnswerLaws.{refused_is}
use Rattle.c_calls.proofs.degrees.degrees_into_room.Goals as goal

pub returns-in_err-set : goal.returns-in_err-set
returns-in_err-set g c = rw (refused_is c.from_residual.result c.from_residual.ensures.1) (inl c.in_err-set.ensures)

pub returns-in_err-degrees : goal.returns-in_err-degrees
returns-in_err-degrees g c = rw (refused_is c.from_residual-in_err-degrees.result c.from_residual-in_err-degrees.ensures.1) (inr (lookups_of c.in_ok-set.set, c.in_ok-set.ensures, inl c.in_err-degrees.ensures))

pub returns-then-len-room : goal.returns-then-len-room
returns-then-len-room g c =
    let lookups = lookups_of c.in_ok-set.set in
    let long : length c.in_ok-degrees.degrees.items ≡ length lookups = ap length c.in_ok-degrees.ensures ∙ length-map lookups (lookup_degree c.args.transition_degree) in
    let also : c.len-then-len-room.result ≡ length lookups = omega (arith, long, c.len-then-len-room.ensures) in
    inr (
      lookups,
      c.in_ok-set.ensures,
      inr (
        λ same. c.if-len-room.true (omega (arith, same, long, c.len.ensures)),
        ap (λ n. Length Degrees n c.args.room) also,
      ),
    )
