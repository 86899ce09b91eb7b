use Rattle.std.proofs.Common.{◌≡◌, ◌∙◌, List, arith, ap, map, option_map, refl, sym}
use Rattle.language_meaning.specs.Lookups.{SentPart, column_of, sent_part_of}
use Rattle.field.specs.Ring.{of_nat}
use Rattle.language_meaning.specs.declared.named_air.NamedPart.{NamedPart}
use Rattle.language_meaning.specs.Columns.{flag_or_one}
use Rattle.language_meaning.specs.Expressions.{tree_in}
use Rattle.language_meaning.proofs.ColumnLaws.{flags_there, lengths_made, no_flags, outline_made}
use Rattle.language_meaning.proofs.lookups.lookup_over.Goals as goal
use Rattle.language_meaning.proofs.lookups.lookup_over.Goals.{then-named+in_ok-flags_over, else-named}

pub returns-clause-lookup : goal.returns-clause-lookup
returns-clause-lookup g c =
    let element = of_nat g.F.PrimeCharacteristicRing.ring in
    let ps = map sent_part_of c.args.named.now.parts.items in (
      outline_made element c.args.text.now c.args.column c.args.named.now (record { kind = c.in_ok-kind.kind; elements = c.in_ok-elements.elements; multiplicities = c.in_ok-multiplicities.multiplicities; count_weight = c.in-Some.count_weight; column = c.args.column; flags = c.if-named.flags }) c.deref.result.now c.deref-2.result.now c.in_ok-kind.ensures.0 c.deref.ensures.value c.in_ok-elements.ensures c.deref-2.ensures.value c.in_ok-multiplicities.ensures c.in-Some.ensures refl
          (elim c.if-named.branch [
            | then-named+in_ok-flags_over w ↦ flags_there element c.args.text.now c.args.named.now.exclusive ps c.if-named.flags w.in_ok-flags_over.field-0 w.if-named.true w.flags-is (w.in_ok-flags_over.ensures ∙ ap (λ (l : List NamedPart). map (λ (p : SentPart). tree_in element (flag_or_one p.flag)) (map sent_part_of l)) w.deref-then-named.ensures.value)
            | else-named w ↦ no_flags element c.args.text.now c.args.named.now.exclusive ps c.if-named.flags w.if-named.false w.flags-is
          ]),
      record { named = c.in_ok-kind.ensures.1; light = grind (arith, c.weight_of.type_inv, c.in-Some.is, c.in-Some.ensures) },
    )

pub returns-clause-record : goal.returns-clause-record
returns-clause-record g c = (refl, lengths_made (of_nat g.F.PrimeCharacteristicRing.ring) c.args.text.now c.args.column (column_of c.args.named.now) (record { kind = c.in_ok-kind.kind; elements = c.in_ok-elements.elements; multiplicities = c.in_ok-multiplicities.multiplicities; count_weight = c.in-Some.count_weight; column = c.args.column; flags = c.if-named.flags }) (returns-clause-lookup g c).0)
