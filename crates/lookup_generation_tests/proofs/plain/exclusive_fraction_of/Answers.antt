use Rattle.std.proofs.Common.{◌≡◌, ◌≢◌, ◌+◌, ◌*◌, ◌<◌, [], length, inr, Some, ap, sym, ◌∙◌, arith}
use Rattle.std.proofs.lemmas.Bool.{eqb-true, eqb-false}
use Rattle.std.proofs.lemmas.List.{length-map, nil_from_length}
use Rattle.std.proofs.lemmas.Result.{MatchResult-weaker}
use Rattle.list_laws.proofs.Images.{mapped_at}
use Rattle.list_laws.proofs.Each.{All-at}
use Rattle.lookup_model.specs.Denominators.{key_denominator}
use Rattle.field.specs.laws.Extension.{of_laws}
use Rattle.lookup_generation_tests.specs.PlainProgram.{as_message, as_messages}
use Rattle.lookup_generation_tests.proofs.PlainProgramLaws.{one_item}
use Rattle.lookup_generation.proofs.SelectedFractions.{none_selected, one_selected, one_vanishing}
use Rattle.lookup_model.proofs.Lookups.Selections.{index_within}
use Rattle.lookup_generation_tests.proofs.plain.exclusive_fraction_of.Goals as goal

pub returns-then-is_empty : goal.returns-then-is_empty
returns-then-is_empty g c =
    let laws = g.met.EF.ExtensionField.lawful_fields in
    let E = of_laws laws in
    let lawful = sym c.are_boolean.ensures ∙ c.if-not-are_boolean.false in
    let items = c.in_ok-indices.indices.items in
    let none : items ≡ [] = nil_from_length items (sym c.in_ok-indices.indices.ok.0 ∙ eqb-true c.in_ok-indices.indices.len 0 (sym c.is_empty.ensures ∙ c.if-is_empty.true)) in
    let is = none_selected laws (key_denominator E c.args.challenges.now) c.args.row c.args.lookup c.args.flags.now (as_messages c.args.messages.now) lawful (sym c.in_ok-indices.ensures ∙ none) in
    (c.ZERO.ensures ∙ g.met.EF.PrimeCharacteristicRing.zero_is ∙ is.0, is.1)

pub bounds-messages-index : goal.bounds-messages-index
bounds-messages-index g c =
    let items = c.in_ok-indices.indices.items in
    let filled : length items ≢ 0 = λ e. eqb-false c.in_ok-indices.indices.len 0 (sym c.is_empty.ensures ∙ c.if-is_empty.false) (c.in_ok-indices.indices.ok.0 ∙ e) in
    let one = one_item items c.index.result.now (omega (arith, c.if-len-gt1.false, c.len.ensures, c.in_ok-indices.indices.ok.0)) filled c.index.ensures in
    omega (arith, index_within g.F.PrimeCharacteristicRing.ring g.F.PartialEq.eq 0 c.args.flags.now c.index.result.now [] (sym c.in_ok-indices.ensures ∙ one), c.requires.lengths)

pub offset_bounds-messages-index : goal.offset_bounds-messages-index
offset_bounds-messages-index g c =
    let items = c.in_ok-indices.indices.items in
    let filled : length items ≢ 0 = λ e. eqb-false c.in_ok-indices.indices.len 0 (sym c.is_empty.ensures ∙ c.if-is_empty.false) (c.in_ok-indices.indices.ok.0 ∙ e) in
    let one = one_item items c.index.result.now (omega (arith, c.if-len-gt1.false, c.len.ensures, c.in_ok-indices.indices.ok.0)) filled c.index.ensures in
    omega (arith, index_within g.F.PrimeCharacteristicRing.ring g.F.PartialEq.eq 0 c.args.flags.now c.index.result.now [] (sym c.in_ok-indices.ensures ∙ one), c.requires.lengths)

pub single_quotient-requires : goal.single_quotient-requires
single_quotient-requires g c =
    let items = c.in_ok-indices.indices.items in
    let filled : length items ≢ 0 = λ e. eqb-false c.in_ok-indices.indices.len 0 (sym c.is_empty.ensures ∙ c.if-is_empty.false) (c.in_ok-indices.indices.ok.0 ∙ e) in
    let one = one_item items c.index.result.now (omega (arith, c.if-len-gt1.false, c.len.ensures, c.in_ok-indices.indices.ok.0)) filled c.index.ensures in
    let lt : c.index.result.now < length c.args.messages.now = omega (arith, index_within g.F.PrimeCharacteristicRing.ring g.F.PartialEq.eq 0 c.args.flags.now c.index.result.now [] (sym c.in_ok-indices.ensures ∙ one), c.requires.lengths) in
    All-at (λ m. 2 * m.id + 1 < length c.args.challenges.now) c.args.messages.now c.index.result.now c.index-messages-index.result c.requires.ids lt c.index-messages-index.is

pub returns : goal.returns
returns g c =
    let laws = g.met.EF.ExtensionField.lawful_fields in
    let E = of_laws laws in
    let lawful = sym c.are_boolean.ensures ∙ c.if-not-are_boolean.false in
    let denominator = key_denominator E c.args.challenges.now in
    let ms = c.args.messages.now in
    let k = c.index.result.now in
    let message = c.index-messages-index.result in
    let items = c.in_ok-indices.indices.items in
    let filled : length items ≢ 0 = λ e. eqb-false c.in_ok-indices.indices.len 0 (sym c.is_empty.ensures ∙ c.if-is_empty.false) (c.in_ok-indices.indices.ok.0 ∙ e) in
    let one = sym c.in_ok-indices.ensures ∙ one_item items k (omega (arith, c.if-len-gt1.false, c.len.ensures, c.in_ok-indices.indices.ok.0)) filled c.index.ensures in
    let lt : k < length ms = omega (arith, index_within E.base E.base_eq 0 c.args.flags.now k [] one, c.requires.lengths) in
    let within : k < length (as_messages ms) = omega (arith, lt, length-map ms as_message) in
    let is = mapped_at as_message ms k message lt c.index-messages-index.is in
    MatchResult-weaker c.single_quotient.result c.single_quotient.ensures
    (λ q h. let right = one_selected laws denominator c.args.row c.args.lookup c.args.flags.now (as_messages ms) lawful k (as_message message) one within is h.0 in (h.1 ∙ right.0, right.1))
    (λ e h. inr (one_vanishing laws denominator c.args.row c.args.lookup c.args.flags.now (as_messages ms) lawful k (as_message message) one within is h.1 ∙ ap Some (sym h.0)))
