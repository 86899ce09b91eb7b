use Rattle.std.proofs.Common.{arith, refl, subst}
use Rattle.c_calls.specs.ReadJson.{IsReadJsonRefusal}
use Rattle.c_calls.specs.WrittenTables.{HasTableRoom, sizes_of_written}
use Rattle.c_calls.specs.declared.written_tables.TableSizes.{TableSizes}
use Rattle.c_calls.proofs.AnswerLaws.{refused_is}
use Rattle.c_calls.proofs.read_json.answer_read_json.Goals as goal

pub returns-in_err-made-clause-answers : goal.returns-in_err-made-clause-answers
returns-in_err-made-clause-answers g c = rw (refused_is c.from_residual.result c.from_residual.ensures.1) (subst (λ (room : TableSizes). IsReadJsonRefusal g.row.P c.args.json.now room c.in_err-made.field-0.0) c.room_of-room.ensures c.in_err-made.ensures)

pub returns-in_err-made-clause-kept : goal.returns-in_err-made-clause-kept
returns-in_err-made-clause-kept g c = rw (refused_is c.from_residual.result c.from_residual.ensures.1) (refl, refl, refl, refl)

pub write_tables-requires : goal.write_tables-requires
write_tables-requires g c = subst (HasTableRoom (sizes_of_written c.in_ok-made.made)) c.room_of-room.ensures c.in_ok-made.ensures.1

pub returns-clause-answers : goal.returns-clause-answers
returns-clause-answers g c = (c.in_ok-made.made, c.in_ok-made.ensures.0, c.write_tables.ensures)
