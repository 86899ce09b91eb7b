use Rattle.std.proofs.Common.{◌≡◌, ◌++◌, OnOk, map, ap, sym, subst, ◌∙◌}
use Rattle.std.proofs.lemmas.Result.{on_ok_weaker}
use Rattle.std.specs.List.{zip}
use Rattle.field.specs.Ring.{sub_in}
use Rattle.lookup_columns.specs.Slots.{filled_slots}
use Rattle.lookup_columns.specs.internal.Slots.{slots_after_step}
use Rattle.air.specs.Traces.{traces_of, window_of}
use Rattle.lookup_columns.proofs.SlotLaws.{joined_slots}
use Rattle.lookup_columns.proofs.column.work_out.Goals as goal

pub returns-in_ok-push_sums-in-Add : goal.returns-in_ok-push_sums-in-Add
returns-in_ok-push_sums-in-Add g c =
    let R = g.F.PrimeCharacteristicRing.ring in
    let ws = window_of (traces_of c.args.traces.now) in
    let slots = filled_slots c.args.slots.now in
    let is = joined_slots R.add c.take.ensures.others (c.deref.ensures.value ∙ c.pop_two-left.ensures.first) (c.deref-in-Add.ensures.value ∙ c.pop_two-left.ensures.last) c.pop_two-left.ensures.others (c.in_ok-push_sums-in-Add.ensures ∙ ap (λ v. v ++ map (λ p. R.add p.0 p.1) (zip c.deref.result.now c.deref-in-Add.result.now)) c.in_ok-values.ensures.empty) in
    subst (λ s. OnOk c.push_made.result (filled_slots c.push_made.new.slots ≡ slots_after_step R ws c.args.rows.now s slots)) (sym c.in-Add.is) (on_ok_weaker c.push_made.result (λ pushed. pushed ∙ is) c.push_made.ensures)

pub returns-in_ok-push_differences-in-Sub : goal.returns-in_ok-push_differences-in-Sub
returns-in_ok-push_differences-in-Sub g c =
    let R = g.F.PrimeCharacteristicRing.ring in
    let ws = window_of (traces_of c.args.traces.now) in
    let slots = filled_slots c.args.slots.now in
    let is = joined_slots (sub_in R) c.take.ensures.others (c.deref-in-Sub.ensures.value ∙ c.pop_two-left-in-Sub.ensures.first) (c.deref-in-Sub-2.ensures.value ∙ c.pop_two-left-in-Sub.ensures.last) c.pop_two-left-in-Sub.ensures.others (c.in_ok-push_differences-in-Sub.ensures ∙ ap (λ v. v ++ map (λ p. sub_in R p.0 p.1) (zip c.deref-in-Sub.result.now c.deref-in-Sub-2.result.now)) c.in_ok-values.ensures.empty) in
    subst (λ s. OnOk c.push_made-in-Sub.result (filled_slots c.push_made-in-Sub.new.slots ≡ slots_after_step R ws c.args.rows.now s slots)) (sym c.in-Sub.is) (on_ok_weaker c.push_made-in-Sub.result (λ pushed. pushed ∙ is) c.push_made-in-Sub.ensures)

pub returns-in_ok-push_products-in-Mul : goal.returns-in_ok-push_products-in-Mul
returns-in_ok-push_products-in-Mul g c =
    let R = g.F.PrimeCharacteristicRing.ring in
    let ws = window_of (traces_of c.args.traces.now) in
    let slots = filled_slots c.args.slots.now in
    let is = joined_slots R.mul c.take.ensures.others (c.deref-in-Mul.ensures.value ∙ c.pop_two-left-in-Mul.ensures.first) (c.deref-in-Mul-2.ensures.value ∙ c.pop_two-left-in-Mul.ensures.last) c.pop_two-left-in-Mul.ensures.others (c.in_ok-push_products-in-Mul.ensures ∙ ap (λ v. v ++ map (λ p. R.mul p.0 p.1) (zip c.deref-in-Mul.result.now c.deref-in-Mul-2.result.now)) c.in_ok-values.ensures.empty) in
    subst (λ s. OnOk c.push_made-in-Mul.result (filled_slots c.push_made-in-Mul.new.slots ≡ slots_after_step R ws c.args.rows.now s slots)) (sym c.in-Mul.is) (on_ok_weaker c.push_made-in-Mul.result (λ pushed. pushed ∙ is) c.push_made-in-Mul.ensures)
