use Rattle.std.proofs.Common.{◌≡◌, length, map, ap, ◌∙◌, arith}
use Rattle.std.proofs.lemmas.List.{nil_from_length}
use Rattle.std.specs.Vec.Iter.{into_iter_items}
use Rattle.lookup_record.specs.Records.{global_of}
use Rattle.lookup_model.specs.Outline.{fields_of}
use Rattle.lookup.specs.Extraction.{global_at}
use Rattle.lookup.proofs.ExtractionLaws.{all_seen, next_seen}
use Rattle.lookup.proofs.RecordLaws.{next_records}
use Rattle.lookup.proofs.extraction.with_globals.Goals as goal

pub loop-interaction-preserved : goal.loop-interaction-preserved
loop-interaction-preserved g c =
    let made = c.in_ok-global_lookup.ensures in
    let pushed = c.in_ok-push.ensures.items in
    let column : c.len-column.result ≡ length c.loop-interaction.lookups.items = omega (arith, c.len-column.ensures, c.loop-interaction.lookups.ok.0) in
    (next_seen fields_of global_at global_of _ _ _ _ _ _ _ pushed c.in-Some.ensures.steps.0 column made.0 ∙ c.loop-interaction.invariant.0, next_records _ _ _ _ pushed column c.loop-interaction.invariant.1 made.1)

pub returns : goal.returns
returns g c =
    let none = ap (map global_of) (nil_from_length (into_iter_items c.loop-interaction.interaction-iterator) (omega (arith, c.in-None.ensures.steps.0, c.loop-interaction.interaction-iterator.rest.ok.0))) in
    (all_seen fields_of global_at _ _ _ none c.loop-interaction.invariant.0, c.loop-interaction.invariant.1)
