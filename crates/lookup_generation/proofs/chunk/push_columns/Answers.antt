use Rattle.std.proofs.Common.{◌≡◌, [], ◌<◌, ◌≤◌, ◌+◌, ◌-◌, ◌*◌, Option, IfSome, List, take, sym, ap, subst, ◌∙◌, arith}
use Rattle.std.proofs.lemmas.List.{take_all}
use Rattle.std.specs.Option.{option_map_or}
use Rattle.list_laws.proofs.Each.{All-at}
use Rattle.lookup_model.specs.Denominators.{key_denominator}
use Rattle.field.specs.Extension.{extension}
use Rattle.lookup_model.specs.declared.types.Lookup.{Lookup}
use Rattle.lookup_model.proofs.Lookups.SentRows.{column_is}
use Rattle.lookup_generation.specs.declared.chunk.RowFault.{RowFault}
use Rattle.lookup_generation.specs.internal.Fraction.{AreDefined, ratios_in}
use Rattle.lookup_generation.specs.internal.Progress.{AnswersPushColumn, AnswersPushColumns, sent_on}
use Rattle.lookup_generation.proofs.ColumnLaws.{AnswersPushColumns-more, HasColumns-none, fault_there, neither_found, until_there}
use Rattle.lookup_columns.proofs.StoredRows.{as_many, one_stores_until}
use Rattle.lookup_generation.proofs.ProgressLaws.{product_more, sound_none, units_none}
use Rattle.lookup_generation.proofs.chunk.push_columns.Goals as goal

pub offset_bounds-columns-lookup : goal.offset_bounds-columns-lookup
offset_bounds-columns-lookup g c =
    let wide = as_many g.F.PrimeCharacteristicRing.ring g.EF.PrimeCharacteristicRing.ring g.EF.ExtensionDomain.embed c.requires.columns.0 c.requires.columns.1 c.args.first c.args.end c.args.lookups.now c.args.columns.now c.requires.columns.2 in
    omega (arith, column_is c.args.lookups.now c.loop-lookup.lookup-index c.lookup-item.result c.requires.records c.loop-lookup-test.true c.lookup-item.is, wide, c.loop-lookup-test.true)

pub bounds-columns-lookup : goal.bounds-columns-lookup
bounds-columns-lookup g c =
    let wide = as_many g.F.PrimeCharacteristicRing.ring g.EF.PrimeCharacteristicRing.ring g.EF.ExtensionDomain.embed c.requires.columns.0 c.requires.columns.1 c.args.first c.args.end c.args.lookups.now c.args.columns.now c.requires.columns.2 in
    omega (arith, column_is c.args.lookups.now c.loop-lookup.lookup-index c.lookup-item.result c.requires.records c.loop-lookup-test.true c.lookup-item.is, wide, c.loop-lookup-test.true)

pub push_column-requires-clause-columns : goal.push_column-requires-clause-columns
push_column-requires-clause-columns g c =
    let within = until_there c.args.first c.args.end c.loop-lookup.fault c.rows_before-until.result c.requires.from c.rows_before-until.ensures c.loop-lookup.invariant.3 in (
      c.requires.columns.0,
      c.requires.columns.1,
      one_stores_until g.F.PrimeCharacteristicRing.ring g.EF.PrimeCharacteristicRing.ring g.EF.ExtensionDomain.embed c.requires.columns.0 c.requires.columns.1 c.args.first c.args.end c.args.lookups.now c.args.columns.now c.requires.columns.2 c.requires.records c.loop-lookup.lookup-index c.lookup-item.result c.loop-lookup-test.true c.lookup-item.is c.index-columns-lookup.result c.index-columns-lookup.is c.deref.result.now c.deref.ensures.value c.rows_before-until.result within.1,
    )

pub loop-lookup-init : goal.loop-lookup-init
loop-lookup-init g c = (
  λ inverse is_inverse challenges window held.
      let E = extension g.F.PrimeCharacteristicRing.ring g.F.PartialEq.eq g.EF.PrimeCharacteristicRing.ring g.EF.PartialEq.eq g.EF.ExtensionDomain.embed inverse in
      HasColumns-none E (key_denominator E challenges) window c.args.first c.args.end (ratios_in c.args.ratios.now) c.requires.none_yet,
  λ _. sound_none _ (ratios_in c.args.ratios.now) c.requires.none_yet (omega arith),
  λ _. units_none g.EF.PrimeCharacteristicRing.ring (ratios_in c.args.ratios.now) c.requires.none_yet,
  tt,
  c.requires.alike,
)

pub loop-lookup-preserved : goal.loop-lookup-preserved
loop-lookup-preserved g c =
    let fault = c.loop-lookup.fault in
    let found = c.in_ok-found.found in
    let until_is = c.rows_before-until.ensures in
    let after = ratios_in c.push_column.new.ratios in
    let i = c.loop-lookup.lookup-index in
    let n = c.args.end - c.args.first in
    let there = subst (λ u. IfSome found (λ f. (c.args.first ≤ f.row) × (f.row < u))) until_is c.in_ok-found.ensures.there in (
      λ inverse is_inverse challenges window held.
          let E = extension g.F.PrimeCharacteristicRing.ring g.F.PartialEq.eq g.EF.PrimeCharacteristicRing.ring g.EF.PartialEq.eq g.EF.ExtensionDomain.embed inverse in
          let denominator = key_denominator E challenges in
          let sends = sent_on E.base E.base_eq window c.lookup-item.result in
          let within = until_there c.args.first c.args.end fault c.rows_before-until.result c.requires.from until_is c.loop-lookup.invariant.3 in
          let one = one_stores_until E.base E.ring E.embed challenges window c.args.first c.args.end c.args.lookups.now c.args.columns.now held c.requires.records i c.lookup-item.result c.loop-lookup-test.true c.lookup-item.is c.index-columns-lookup.result c.index-columns-lookup.is c.deref.result.now c.deref.ensures.value c.rows_before-until.result within.1 in
          let column : AnswersPushColumn E denominator sends c.lookup-item.result.column c.args.first (option_map_or (λ f. f.row) fault c.args.end) (ratios_in c.loop-lookup.ratios) after found =
          subst (λ u. AnswersPushColumn E denominator sends c.lookup-item.result.column c.args.first u (ratios_in c.loop-lookup.ratios) after found) until_is (c.in_ok-found.ensures.answers inverse is_inverse challenges window one) in
          subst (AnswersPushColumns E denominator window (take (i + 1) c.args.lookups.now) c.args.first c.args.end after) (sym c.or-fault.ensures)
          (AnswersPushColumns-more E denominator window c.args.lookups.now c.requires.records i c.lookup-item.result c.loop-lookup-test.true c.lookup-item.is c.args.first c.args.end (ratios_in c.loop-lookup.ratios) after fault found there (c.loop-lookup.invariant.0 inverse is_inverse challenges window held) column),
      λ none.
          let both = neither_found fault found (sym c.or-fault.ensures ∙ none) in
          let all : c.rows_before-until.result ≡ c.args.end = until_is ∙ ap (λ (f : Option RowFault). option_map_or (λ x. x.row) f c.args.end) both.0 in
          subst (λ m. AreDefined g.EF.PrimeCharacteristicRing.ring m after) (ap (λ u. i * n + (u - c.args.first)) all ∙ product_more i n) (c.in_ok-found.ensures.defined both.1 (i * n) (c.loop-lookup.invariant.1 both.0)),
      λ no_tuples. c.in_ok-found.ensures.unit_denominators (All-at (λ lookup. lookup.elements.items ≡ []) c.args.lookups.now i c.lookup-item.result no_tuples c.loop-lookup-test.true c.lookup-item.is) (c.loop-lookup.invariant.2 no_tuples),
      subst (λ (f : Option RowFault). IfSome f (λ x. (c.args.first ≤ x.row) × (x.row < c.args.end))) (sym c.or-fault.ensures) (fault_there c.args.first c.args.end fault found c.loop-lookup.invariant.3 there),
      c.in_ok-found.ensures.alike,
    )

pub returns-clause-answers : goal.returns-clause-answers
returns-clause-answers g c = λ inverse is_inverse challenges window held.
    let E = extension g.F.PrimeCharacteristicRing.ring g.F.PartialEq.eq g.EF.PrimeCharacteristicRing.ring g.EF.PartialEq.eq g.EF.ExtensionDomain.embed inverse in
    subst (λ (ls : List (Lookup _)). AnswersPushColumns E (key_denominator E challenges) window ls c.args.first c.args.end (ratios_in c.loop-lookup.ratios) c.loop-lookup.fault)
    (take_all c.loop-lookup.lookup-index c.args.lookups.now (omega (arith, c.loop-lookup-test.false))) (c.loop-lookup.invariant.0 inverse is_inverse challenges window held)
