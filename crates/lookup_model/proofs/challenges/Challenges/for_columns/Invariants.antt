use Rattle.std.proofs.Common.{◌≡◌, take}
use Rattle.lookup_model.specs.Challenges.{column_challenges, table_of}
use Rattle.lookup_model.proofs.challenges.Challenges.for_columns.Given as goal

abbrev pub invariant-loop-id : goal.invariant-loop-id
invariant-loop-id g l = l.challenges.items ≡ column_challenges (table_of l.self) (take l.id-index l.ids)
