use Rattle.std.proofs.Common.{inl, inr, ◌∙◌, ℕ, Vec, Global, ap, map, refl, subst₂}
use Rattle.std.proofs.lemmas.Result.{err_from_is_err_and}
use Rattle.lookup.specs.Lookups.{lookups_of}
use Rattle.lookup.specs.Fewest.{AnswersDegree}
use Rattle.check_judge.specs.internal.Sizes.{sized_lookups_of}
use Rattle.check_judge.specs.internal.Sharing.{AreNumbersOfParts, in_packing_order, tuples_of}
use Rattle.lookup_model.specs.Outline.{fields_of}
use Rattle.check_judge.proofs.SharedLaws.{shared_is}
use Rattle.check_judge.proofs.sizes.report_of.Goals as goal

pub returns-in_err-packed : goal.returns-in_err-packed
returns-in_err-packed g c =
    let p = err_from_is_err_and c.from_residual-in_err-packed.result c.from_residual-in_err-packed.ensures.1 in
    rw (p.1, p.2) (elim c.in_err-packed.ensures.packs [
      | inl memory ↦ inl memory
      | inr (inl width) ↦ inr (lookups_of c.in_ok-copy.copy, c.in_ok-copy.ensures, inl width)
      | inr (inr fill) ↦ inr (lookups_of c.in_ok-copy.copy, c.in_ok-copy.ensures, inr (inl fill))
    ])

pub returns-in_err-degrees_of : goal.returns-in_err-degrees_of
returns-in_err-degrees_of g c =
    let p = err_from_is_err_and c.from_residual-in_err-degrees_of.result c.from_residual-in_err-degrees_of.ensures.1 in
    rw (p.1, p.2) (elim c.in_err-degrees_of.ensures [
      | inl memory ↦ inl memory
      | inr degree ↦ inr (lookups_of c.in_ok-copy.copy, c.in_ok-copy.ensures, inr (inr (lookups_of c.in_ok-packed.packed, c.in_ok-packed.ensures.packs.1, inl degree)))
    ])

pub returns-in_err-degrees_of-2 : goal.returns-in_err-degrees_of-2
returns-in_err-degrees_of-2 g c =
    let p = err_from_is_err_and c.from_residual-in_err-degrees_of-2.result c.from_residual-in_err-degrees_of-2.ensures.1 in
    rw (p.1, p.2) (elim c.in_err-degrees_of-2.ensures [
      | inl memory ↦ inl memory
      | inr degree ↦ inr (lookups_of c.in_ok-copy.copy, c.in_ok-copy.ensures, inr (inr (lookups_of c.in_ok-packed.packed, c.in_ok-packed.ensures.packs.1, inr degree)))
    ])

pub returns : goal.returns
returns g c =
    let copies = lookups_of c.in_ok-copy.copy in
    let packed = lookups_of c.in_ok-packed.packed in
    let order = c.in_ok-order.order.items in
    let shared = map (λ (members : Vec ℕ Global). members.items) c.in_ok-sharing.field-0.items in
    let in_order = c.in_ok-order.ensures ∙ ap (λ ls. map tuples_of (in_packing_order (map fields_of ls))) c.as_slice.ensures.lookups in
    let told = subst₂ (λ ms ls. AreNumbersOfParts ms ls shared) c.deref.ensures.value c.as_slice-2.ensures.lookups c.in_ok-sharing.ensures in record {
      rows = refl;
      columns = refl;
      weight = c.total_count_weight.ensures;
      degrees = c.in_ok-degrees_of.ensures;
      copies = copies;
      copies_are = c.in_ok-copy.ensures;
      packed = packed;
      packing = c.in_ok-packed.ensures.packs.1;
      kept = c.in_ok-packed.ensures.kept;
      fewest = c.in_ok-packed.ensures.fewest;
      packed_degrees = c.in_ok-degrees_of-2.ensures;
      shared = shared_is AnswersDegree c.args.max_degree (sized_lookups_of c.args.air.now).lookups copies packed order shared c.in_ok-packed.ensures.packs.1 c.requires c.in_ok-copy.ensures in_order told;
    }
