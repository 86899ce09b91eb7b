use Rattle.std.proofs.Common.{◌≡◌, take}
use Rattle.lookup_model.specs.Challenges.{bus_table, column_challenges}
use Rattle.lookup_model.proofs.challenges.Challenges.for_ids.Given as goal

abbrev pub invariant-loop-id : goal.invariant-loop-id
invariant-loop-id g l = l.challenges.items ≡ column_challenges (bus_table g.EF.PrimeCharacteristicRing.ring l.max_message_width l.beta l.alpha) (take l.id-index l.ids)
