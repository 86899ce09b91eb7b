use Rattle.std.proofs.Common.{◌≡◌, ◌-◌, ◌+◌, ◌<◌, not, get_or, length, drop, sym, ap, ◌∙◌, arith}
use Rattle.std.proofs.lemmas.Bool.{not-false}
use Rattle.std.proofs.lemmas.List.{get_or_read}
use Rattle.checker_witness.proofs.ProductLaws.{read_front}
use Rattle.checker_witness.proofs.UntilLaws.{holds_on_next}
use Rattle.checker_witness.specs.internal.Products.{HasMultiplicity, fraction_on}
use Rattle.checker_witness.proofs.products.tuple_holds_until.Given.{Over}
use Rattle.checker_witness.proofs.products.tuple_holds_until.Goals.{After-ne}
use Rattle.checker_witness.proofs.products.tuple_holds_until.Goals as goal

-- What the compared numbers are: the product of the row, and its multiplicity.
compared : (g : Over) (c : After-ne g)
    → (c.index.result.now ≡ g.EF.PrimeCharacteristicRing.ring.mul (get_or c.args.branch.now.denominators.items (c.loop-row.row - c.args.first) g.EF.PrimeCharacteristicRing.ring.zero)
    (fraction_on g.EF.PrimeCharacteristicRing.ring c.args.aux.now c.args.column c.loop-row.row))
    × (c.embed.result ≡ g.EF.ExtensionDomain.embed (get_or c.args.branch.now.multiplicities.items (c.loop-row.row - c.args.first) g.F.PrimeCharacteristicRing.ring.zero))
compared g c =
    let R = g.F.PrimeCharacteristicRing.ring in
    let S = g.EF.PrimeCharacteristicRing.ring in
    let row = c.loop-row.row in
    let at = row - c.args.first in
    let products = c.fill_products.new.products in
    let within : at < length products = omega (arith, c.loop-row-test.true, c.loop-row.auto.row, c.fill_products.ensures.many, c.deref_mut.ensures.len, c.in_ok-resize.ensures.len) in
    let there : c.args.first + at ≡ row = omega (arith, c.loop-row.auto.row) in (
      read_front c.resize.new.self.len products (drop (length products) c.resize.new.self.items) at c.index.result.now S.zero within (omega (arith, within, c.fill_products.ensures.many, c.deref_mut.ensures.len, c.in_ok-resize.ensures.len)) c.index.ensures
          ∙ c.fill_products.ensures.products at (omega (arith, within, c.fill_products.ensures.many))
          ∙ (λ j. S.mul (get_or (c.deref.ensures.value j) at S.zero) (fraction_on S c.args.aux.now c.args.column (there j))),
      c.embed.ensures ∙ ap g.EF.ExtensionDomain.embed (get_or_read c.as_slice-multiplicities.result.now at c.index-multiplicities-row.result (omega (arith, c.as_slice-multiplicities.ensures.len, c.requires.multiplicities, c.loop-row-test.true, c.loop-row.auto.row)) c.index-multiplicities-row.is R.zero ∙ ap (λ xs. get_or xs at R.zero) c.as_slice-multiplicities.ensures.value),
    )

pub returns-then-ne : goal.returns-then-ne
returns-then-ne g c =
    let (product_is, multiplicity_is) = compared g c.before in
    record {
      from = c.loop-row.auto.row;
      up_to = omega (arith, c.loop-row-test.true);
      holds = c.loop-row.invariant;
      fails = λ lt has. absurd (cc (sym c.if-ne.true ∙ c.ne.ensures ∙ ap not ((g.met.EF.PrimeCharacteristicRing.eq_is _ _).1 (product_is ∙ has ∙ sym multiplicity_is))));
    }

pub loop-row-preserved : goal.loop-row-preserved
loop-row-preserved g c =
    let (product_is, multiplicity_is) = compared g c.before in
    holds_on_next (HasMultiplicity g.F.PrimeCharacteristicRing.ring g.EF.PrimeCharacteristicRing.ring g.EF.ExtensionDomain.embed c.args.branch.now c.args.aux.now c.args.column c.args.first) c.args.first c.loop-row.row c.loop-row.invariant
    (sym product_is ∙ (g.met.EF.PrimeCharacteristicRing.eq_is _ _).0 (not-false _ (sym c.ne.ensures ∙ c.if-ne.false)) ∙ multiplicity_is)
