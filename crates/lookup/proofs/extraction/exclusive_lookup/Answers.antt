use Rattle.std.proofs.Common.{length, subst, ◌≡◌, map, ap, refl, arith, Some}
use Rattle.std.proofs.lemmas.List.{nil_from_length}
use Rattle.std.specs.declared.alloc.Global.{Global}
use Rattle.std.specs.declared.vec.Vec.{Vec}
use Rattle.std.specs.Vec.Iter.{into_iter_items}
use Rattle.list_laws.proofs.Images.{all_passed}
use Rattle.lookup_model.specs.LookupDegree.{greatest}
use Rattle.lookup_record.specs.Records.{branch_of, exclusive_of}
use Rattle.lookup.proofs.ExtractionLaws.{same_lengths}
use Rattle.lookup.proofs.extraction.exclusive_lookup.Goals as goal

pub returns : goal.returns
returns g c =
    let left = map branch_of (into_iter_items c.loop-branch.branch-iterator) in
    let none = ap (map branch_of) (nil_from_length (into_iter_items c.loop-branch.branch-iterator) (omega (arith, c.in-None.ensures.steps.0, c.loop-branch.branch-iterator.rest.ok.0))) in
    let group = exclusive_of c.args.interaction in
    let invariant = c.loop-branch.invariant in
    let elements = all_passed (λ b. b.fields) _ _ left none invariant.0 in
    let multiplicities = all_passed (λ b. b.count) _ _ left none invariant.1 in
    let flags = all_passed (λ b. b.flag) _ _ left none invariant.2 in
    let weight : c.loop-branch.count_weight ≡ greatest (map (λ b. b.weight) group.branches) =
    omega (arith, invariant.3, ap (λ bs. greatest (map (λ b. b.weight) bs)) none) in (
      λ i. record {
        bus = Some group.bus_name;
        elements = elements i;
        multiplicities = multiplicities i;
        count_weight = weight i;
        column = c.args.column;
        flags = Some (flags i);
      },
      (
        refl,
        record {
          multiplicities = same_lengths (λ tuple. tuple.items) (λ b. b.fields) (λ b. b.count) c.loop-branch.elements.items c.loop-branch.multiplicities.items group.branches elements multiplicities;
          flags = λ x e. let same : c.loop-branch.flags ≡ x = cc e in subst (λ (fs : Vec _ Global). length fs.items ≡ length c.loop-branch.elements.items) same (same_lengths (λ tuple. tuple.items) (λ b. b.fields) (λ b. b.flag) c.loop-branch.elements.items c.loop-branch.flags.items group.branches elements flags);
        },
      ),
    )
