use Rattle.std.proofs.Common.{arith, inl, inr, refl, subst}
use Rattle.lookup.specs.Lookups.{lookups_of}
use Rattle.c_calls.specs.WrittenTables.{HasTableRoom, IsTableWritingRefusal, sizes_of_written}
use Rattle.c_calls.specs.declared.written_tables.TableSizes.{TableSizes}
use Rattle.c_calls.proofs.AnswerLaws.{refused_is}
use Rattle.c_calls.proofs.pack.answer_pack.Goals as goal

pub returns-in_err-made-clause-answers : goal.returns-in_err-made-clause-answers
returns-in_err-made-clause-answers g c =
    let fault = c.in_err-made.field-0.0 in
    rw (refused_is c.from_residual.result c.from_residual.ensures.1)
    (elim c.in_err-made.ensures [
      | inl tables ↦ inl tables
      | inr packing ↦ inr (
        packing.0,
        packing.1,
        elim packing.2 [
          | inl refused ↦ inl refused
          | inr full ↦ inr (full.0, full.1, subst (λ (room : TableSizes). IsTableWritingRefusal (lookups_of full.0) room fault) c.room_of-room.ensures full.2)
        ],
      )
    ])

pub returns-in_err-made-clause-kept : goal.returns-in_err-made-clause-kept
returns-in_err-made-clause-kept g c = rw (refused_is c.from_residual.result c.from_residual.ensures.1) (refl, refl, refl, refl)

pub write_tables-requires : goal.write_tables-requires
write_tables-requires g c = subst (HasTableRoom (sizes_of_written c.in_ok-made.made)) c.room_of-room.ensures c.in_ok-made.ensures.1

pub returns-clause-answers : goal.returns-clause-answers
returns-clause-answers g c = (c.in_ok-made.made, c.in_ok-made.ensures.0, c.write_tables.ensures)
