use Rattle.std.proofs.Common.{◌≡◌, ◌+◌, ◌-◌, None, Some, subst, sym, arith}
use Rattle.lookup_model.specs.Denominators.{key_denominator}
use Rattle.field.specs.Extension.{extension}
use Rattle.lookup_model.specs.Fault.{fault_of}
use Rattle.lookup_model.specs.Plain.{plain_fraction}
use Rattle.lookup_generation.specs.internal.Fraction.{AreDefined, IsRatio, ratios_in}
use Rattle.lookup_generation.specs.internal.Progress.{HasColumn, sent_on}
use Rattle.lookup_generation.proofs.ColumnLaws.{HasColumn-more, HasColumn-none, IsFirstIn-here}
use Rattle.lookup_generation.proofs.ProgressLaws.{sound_more, sound_of, units_more}
use Rattle.lookup_generation.proofs.chunk.push_column.Goals as goal

pub fraction-requires : goal.fraction-requires
fraction-requires g c =
    let r = c.loop-row.row in
    (c.requires.columns.0, c.requires.columns.1 r, c.requires.columns.2 r c.loop-row.auto.row c.loop-row-test.true)

pub loop-row-init : goal.loop-row-init
loop-row-init g c =
    let none : c.args.first - c.args.first ≡ 0 = omega arith in (
      λ inverse is_inverse challenges window held.
          let E = extension g.F.PrimeCharacteristicRing.ring g.F.PartialEq.eq g.EF.PrimeCharacteristicRing.ring g.EF.PartialEq.eq g.EF.ExtensionDomain.embed inverse in
          HasColumn-none E (key_denominator E challenges) (sent_on E.base E.base_eq window c.args.lookup.now) c.args.lookup.now.column c.args.first (ratios_in c.args.ratios.now),
      λ n sound. subst (λ m. AreDefined g.EF.PrimeCharacteristicRing.ring (n + m) (ratios_in c.args.ratios.now)) (sym none) (sound_of n (ratios_in c.args.ratios.now) sound),
      λ no_tuples whole. whole,
      c.requires.alike,
    )

pub loop-row-preserved : goal.loop-row-preserved
loop-row-preserved g c =
    let r = c.loop-row.row in
    let one_more : (r - c.args.first) + 1 ≡ r + 1 - c.args.first = omega (arith, c.loop-row.auto.row) in
    let after = ratios_in c.loop-row.ratios in
    let longer = ratios_in c.push.new.self in
    let ratio = c.in-Ok.ratio in (
      λ inverse is_inverse challenges window held.
          let E = extension g.F.PrimeCharacteristicRing.ring g.F.PartialEq.eq g.EF.PrimeCharacteristicRing.ring g.EF.PartialEq.eq g.EF.ExtensionDomain.embed inverse in
          let lookup = c.args.lookup.now in
          let denominator = key_denominator E challenges in
          let sends = sent_on E.base E.base_eq window lookup in
          let row : IsRatio E.ring ratio (plain_fraction E denominator (sends r))
          × (fault_of E denominator r lookup.column (sends r) ≡ None) = c.in-Ok.ensures.answers inverse is_inverse challenges (window r) (held r c.loop-row.auto.row c.loop-row-test.true) in
          HasColumn-more E denominator sends lookup.column c.args.first r (ratios_in c.args.ratios.now) after longer ratio c.loop-row.auto.row c.in_ok-push-in-Ok.ensures.pushed row.0 row.1 (c.loop-row.invariant.0 inverse is_inverse challenges window held),
      λ n sound.
          subst (λ m. AreDefined g.EF.PrimeCharacteristicRing.ring (n + m) longer) one_more
          (sound_more n (r - c.args.first) after longer ratio c.in_ok-push-in-Ok.ensures.pushed c.in-Ok.ensures.defined (c.loop-row.invariant.1 n sound)),
      λ no_tuples whole. units_more g.EF.PrimeCharacteristicRing.ring after longer ratio c.in_ok-push-in-Ok.ensures.pushed (c.in-Ok.ensures.unit_denominators no_tuples) (c.loop-row.invariant.2 no_tuples whole),
      c.in_ok-push-in-Ok.ensures.alike,
    )

pub returns-in-Err-clause-answers : goal.returns-in-Err-clause-answers
returns-in-Err-clause-answers g c = λ inverse is_inverse challenges window held.
    let E = extension g.F.PrimeCharacteristicRing.ring g.F.PartialEq.eq g.EF.PrimeCharacteristicRing.ring g.EF.PartialEq.eq g.EF.ExtensionDomain.embed inverse in
    let lookup = c.args.lookup.now in
    let r = c.loop-row.row in
    let error = c.in-Err.error in
    let denominator = key_denominator E challenges in
    let sends = sent_on E.base E.base_eq window lookup in
    let row : fault_of E denominator r lookup.column (sends r) ≡ Some error = c.in-Err.ensures.answers inverse is_inverse challenges (window r) (held r c.loop-row.auto.row c.loop-row-test.true) in
    IsFirstIn-here E denominator sends lookup.column c.args.first (ratios_in c.args.ratios.now) (ratios_in c.loop-row.ratios) _ row (c.loop-row.invariant.0 inverse is_inverse challenges window held)

pub returns-clause-answers : goal.returns-clause-answers
returns-clause-answers g c = λ inverse is_inverse challenges window held.
    let E = extension g.F.PrimeCharacteristicRing.ring g.F.PartialEq.eq g.EF.PrimeCharacteristicRing.ring g.EF.PartialEq.eq g.EF.ExtensionDomain.embed inverse in
    let all : c.loop-row.row ≡ c.args.end = omega (arith, c.loop-row-test.false, c.loop-row.auto.row-end c.requires.from) in
    subst (λ n. HasColumn E (key_denominator E challenges) (sent_on E.base E.base_eq window c.args.lookup.now) c.args.lookup.now.column c.args.first n (ratios_in c.args.ratios.now) (ratios_in c.loop-row.ratios)) all (c.loop-row.invariant.0 inverse is_inverse challenges window held)

pub returns-clause-defined : goal.returns-clause-defined
returns-clause-defined g c = λ none n sound.
    let all : c.loop-row.row ≡ c.args.end = omega (arith, c.loop-row-test.false, c.loop-row.auto.row-end c.requires.from) in
    subst (λ r. AreDefined g.EF.PrimeCharacteristicRing.ring (n + (r - c.args.first)) (ratios_in c.loop-row.ratios)) all (c.loop-row.invariant.1 n sound)
