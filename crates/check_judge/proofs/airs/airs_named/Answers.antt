use Rattle.std.proofs.Common.{◌≡◌, ◌∙◌, ◌<◌, ap, arith, inl, inr, length, map, sym}
use Rattle.std.proofs.lemmas.List.{length-map, map_push}
use Rattle.std.proofs.lemmas.Result.{err_from_is_err_and}
use Rattle.language_meaning.specs.Shapes.{shape_of}
use Rattle.language_meaning.specs.Lookups.{said_by_items, said_of}
use Rattle.language.specs.Batches.{air_of, section_of}
use Rattle.check_judge.specs.Said.{airs_of, names_over}
use Rattle.check_judge.proofs.AirLaws.{all_say, go_on_saying, image_next, next_air}
use Rattle.check_judge.proofs.CauseLaws.{name_fault, name_refused, refuses_names}
use Rattle.check_judge.proofs.airs.airs_named.Goals as goal

pub loop-index-preserved : goal.loop-index-preserved
loop-index-preserved c =
    let text = c.args.text.now in
    let sections = map section_of c.args.batch.now.sections.items in
    let shapes = c.args.shapes.now in
    let i = c.loop-index.index in
    let said = c.in_ok-airs.airs.items in
    let shape = c.index-shapes-index.result in
    let air = c.in_ok-air.air in
    let columns = ap (map (λ name. name.items)) c.deref.ensures.value in
    let fixed = ap (map (λ name. name.items)) c.deref-in-loop-index.ensures.value in
    let long : length said ≡ length shapes = omega (arith, c.in_ok-check_count.ensures, c.len.ensures, c.in_ok-airs.airs.ok.0) in
    let within : i < length said = omega (arith, c.loop-index-test.true, long) in
    let first = next_air (λ a. air_of a.now) said (airs_of sections) i c.index.result.now within (sym c.index.ensures) c.in_ok-airs.ensures in
    let second = image_next shape_of shapes i shape c.loop-index-test.true (sym c.index-shapes-index.is) in
    let says = (λ k. said_by_items sections (names_over text (sym columns k) (sym fixed k)) 0 (air_of c.index.result.now.now).items c.loop-index.room) ∙ c.in_ok-air.ensures in
    record {
      said = go_on_saying text sections 1048576 (airs_of sections) (map shape_of shapes) i c.loop-index.room (air_of c.index.result.now.now) (shape_of shape) (map said_of c.loop-index.named.items) _ (said_of air)
          first second (ap (map said_of) c.in_ok-push.ensures.items ∙ map_push said_of c.loop-index.named.items air) says c.loop-index.invariant.said;
      refuses = refuses_names text sections 1048576 (airs_of sections) (map shape_of shapes) i c.loop-index.room (air_of c.index.result.now.now) (shape_of shape) (said_of air) first second says c.loop-index.invariant.refuses;
    }

pub returns : goal.returns
returns c =
    let sections = map section_of c.args.batch.now.sections.items in
    let said = c.in_ok-airs.airs.items in
    let shapes = c.args.shapes.now in
    let i = c.loop-index.index in
    all_say c.args.text.now sections 1048576 (airs_of sections) (map shape_of shapes) i c.loop-index.room (map said_of c.loop-index.named.items)
    (omega (arith, c.loop-index-test.false, c.in_ok-check_count.ensures, c.len.ensures, c.in_ok-airs.airs.ok.0, ap length c.in_ok-airs.ensures, length-map said (λ a. air_of a.now)))
    (omega (arith, c.loop-index-test.false, length-map shapes shape_of)) c.loop-index.invariant.said

pub returns-in_err-air : goal.returns-in_err-air
returns-in_err-air c =
    let text = c.args.text.now in
    let sections = map section_of c.args.batch.now.sections.items in
    let shapes = c.args.shapes.now in
    let i = c.loop-index.index in
    let said = c.in_ok-airs.airs.items in
    let shape = c.index-shapes-index.result in
    let a = air_of c.index.result.now.now in
    let columns = ap (map (λ name. name.items)) c.deref.ensures.value in
    let fixed = ap (map (λ name. name.items)) c.deref-in-loop-index.ensures.value in
    let long : length said ≡ length shapes = omega (arith, c.in_ok-check_count.ensures, c.len.ensures, c.in_ok-airs.airs.ok.0) in
    let within : i < length said = omega (arith, c.loop-index-test.true, long) in
    let as_many : length (airs_of sections) ≡ length (map shape_of shapes) = omega (arith, long, ap length c.in_ok-airs.ensures, length-map said (λ a. air_of a.now), length-map shapes shape_of) in
    let first = next_air (λ a. air_of a.now) said (airs_of sections) i c.index.result.now within (sym c.index.ensures) c.in_ok-airs.ensures in
    let second = image_next shape_of shapes i shape c.loop-index-test.true (sym c.index-shapes-index.is) in
    let p = err_from_is_err_and c.from_residual-in_err-air.result c.from_residual-in_err-air.ensures.1 in
    rw (p.1, p.2) (elim (name_fault c.in_err-air.field-0.0 _ c.in_err-air.ensures) [
      | inl memory ↦ inl memory
      | inr r ↦ inr (inr (as_many, name_refused text sections 1048576 (airs_of sections) (map shape_of shapes) i c.loop-index.room a (shape_of shape) _ first second (r.0, (λ k. said_by_items sections (names_over text (sym columns k) (sym fixed k)) 0 a.items c.loop-index.room) ∙ r.1, r.2) c.loop-index.invariant.refuses))
    ])
