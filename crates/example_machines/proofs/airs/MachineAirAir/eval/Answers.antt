use Rattle.std.proofs.Common.{ℕ, List, inl, subst, ◌∙◌}
use Rattle.air_expressions.proofs.Assertions.{on_ok}
use Rattle.lookup_record.specs.Interaction.{global}
use Rattle.lookup_record.specs.Messages.{IsExclusiveQuery}
use Rattle.lookup_record.specs.Pushed.{pushed_global, pushed_local}
use Rattle.example_machines.proofs.AirLaws.{entries_do_send, group_does_send, keys_do_send, on_ok_weaker, pushes_this, pushes_weaker}
use Rattle.field.specs.laws.RingFacts.{of_nat-one}
use Rattle.example_machines.proofs.airs.MachineAirAir.eval.Goals as goal

pub returns-in_ok-tuples-in-RangeCheck : goal.returns-in_ok-tuples-in-RangeCheck
returns-in_ok-tuples-in-RangeCheck g c =
    let tuples = c.in_ok-tuples-in-RangeCheck in
    rw c.in-RangeCheck.is (
      inl (pushes_this g.AB.InteractionBuilder.pushes g.AB.InteractionBuilder.refuses_push _ _ _ (pushed_local tuples.tuples.items) c.push_local_interaction.result tuples.ensures.sends c.push_local_interaction.ensures),
      on_ok c.push_local_interaction.result _ _ _ c.push_local_interaction.ensures
          (λ pushed old. g.met.AB.InteractionBuilder.push_within _ _ _ pushed tuples.ensures.within old),
    )

pub returns-in_ok-key-in-Keys : goal.returns-in_ok-key-in-Keys
returns-in_ok-key-in-Keys g c =
    let key = c.in_ok-key-in-Keys in
    let sends = keys_do_send g.AB.F.PrimeCharacteristicRing.ring g.AB.F.PartialEq.eq g.AB.Expr.Expression.value g.AB.AirBuilder.seen (g.AB.AirBuilder.stands_for c.args.builder.now) (λ w. w.main)
    key.key.items c.from.result.expression (pushed_global c.new.result key.key.items c.from.result)
    (λ i. global (record { bus_name = c.new.ensures i; fields = key.key.items; count = c.from.result.expression; weight = c.from.ensures.1 i }))
    key.ensures.tuple (λ s. g.met.AB.Expr.Expression.whole_value _ _ s c.from.ensures.0 ∙ of_nat-one g.AB.F.PrimeCharacteristicRing.lawful) in
    rw c.in-Keys.is (
      inl (pushes_this g.AB.InteractionBuilder.pushes g.AB.InteractionBuilder.refuses_push _ _ _ (pushed_global c.new.result key.key.items c.from.result) c.lookup_key.result sends c.lookup_key.ensures.pushed),
      on_ok_weaker c.lookup_key.result _ _ c.lookup_key.ensures.within (λ within old. within key.ensures.within (g.met.AB.Expr.Expression.whole_within _ _ _ c.from.ensures.0) old),
    )

pub returns-in_ok-uses-in-Entries : goal.returns-in_ok-uses-in-Entries
returns-in_ok-uses-in-Entries g c =
    let entry = c.in_ok-entry-in-Entries in
    let uses = c.in_ok-uses-in-Entries in
    rw c.in-Entries.is (
      inl (pushes_weaker g.AB.InteractionBuilder.pushes g.AB.InteractionBuilder.refuses_push _ _ _ _ c.table_entry.result
          (λ m negated. entries_do_send g.AB.F.PrimeCharacteristicRing.ring g.AB.F.PartialEq.eq g.AB.Expr.Expression.value g.AB.AirBuilder.seen (g.AB.AirBuilder.stands_for c.args.builder.now) (λ w. w.main)
          entry.entry.items uses.uses negated.negated m
          (negated.message ∙ (λ i. global (record { bus_name = c.new-in-Entries.ensures i; fields = entry.entry.items; count = negated.negated; weight = 0 })))
          entry.ensures.tuple uses.ensures.cell negated.negation.means)
          c.table_entry.ensures.pushed),
      on_ok_weaker c.table_entry.result _ _ c.table_entry.ensures.within (λ within old. within entry.ensures.within uses.ensures.within old),
    )

pub returns-in_ok-branches-in-Group : goal.returns-in_ok-branches-in-Group
returns-in_ok-branches-in-Group g c =
    let branches = c.in_ok-branches-in-Group in
    let one = g.AB.F.PrimeCharacteristicRing.ring.one in
    rw c.in-Group.is (
      inl (pushes_weaker g.AB.InteractionBuilder.pushes g.AB.InteractionBuilder.refuses_push _ _ _ _ c.lookup_key_exclusive.result
          (λ m query. group_does_send g.AB.F.PrimeCharacteristicRing.ring g.AB.F.PartialEq.eq g.AB.Expr.Expression.value g.AB.AirBuilder.seen (g.AB.AirBuilder.stands_for c.args.builder.now) (λ w. w.main)
          g.AB.Expr.Expression.degree branches.branches.items m branches.ensures.keys
          (subst (λ (name : List ℕ). IsExclusiveQuery one g.AB.Expr.Expression.value g.AB.Expr.Expression.degree name branches.branches.items m) c.new-in-Group.ensures query))
          c.lookup_key_exclusive.ensures.pushed),
      on_ok_weaker c.lookup_key_exclusive.result _ _ c.lookup_key_exclusive.ensures.within (λ within old. within branches.ensures.within old),
    )
