use Rattle.std.proofs.Common.{◌∷◌, [], suc, List, None, take, sym, ap, subst, ◌∙◌, arith}
use Rattle.std.proofs.lemmas.List.{take_all}
use Rattle.std.proofs.lemmas.Option.{slice_get_within}
use Rattle.std.proofs.lemmas.Slice.Zip.{AllZip-long}
use Rattle.std.specs.List.{AllZip}
use Rattle.list_laws.proofs.Items.{take_item, read_is}
use Rattle.lookup_columns.proofs.ZipLaws.{Beside, beside}
use Rattle.lookup_columns.specs.ChunkColumns.{IsStored}
use Rattle.lookup_columns.specs.declared.columns.BranchColumns.{BranchColumns}
use Rattle.lookup_model.proofs.TakenOut.{product_of-push, sum_of-push}
use Rattle.lookup_model.specs.Constraints.{additive_denominator, additive_numerator}
use Rattle.field.specs.laws.Extension.{of_laws}
use Rattle.lookup_model.specs.Message.{Message}
use Rattle.checker_witness.specs.internal.Quotients.{IsQuotientOf, over_tuples}
use Rattle.checker_witness.proofs.fractions.additive_quotient.Goals as goal

-- what holds of each list that goes on from a first item holds of a list beside a longer one
from_first : {A B : Type 0} (R : A → B → Type 0) (P : List B → Type 0) (x : A) (xs : List A) → ((y : B) (ys : List B) → AllZip R (x ∷ xs) (y ∷ ys) → P (y ∷ ys)) → (ys : List B) → AllZip R (x ∷ xs) ys → P ys
from_first R P x xs each [] h = absurd h
from_first R P x xs each (y ∷ ys) h = each y ys h

pub index-requires-in-loop-branch : goal.index-requires-in-loop-branch
index-requires-in-loop-branch g c =
    let held = IsStored c.requires.0 c.args.index in
    let whole = subst (λ (cs : List (BranchColumns _ _)). AllZip held cs c.requires.1) c.in-Some.ensures.cases.0 c.requires.2 in
    let b = beside held (c.in-Some.first.now ∷ c.in-Some.others.now) c.requires.1 (suc c.loop-branch.branch-index) c.branch-item.result whole (omega (arith, c.loop-branch-test.true)) c.branch-item.is in
    omega (arith, slice_get_within _ c.args.index _ b.holds.0)

pub index-requires-in-loop-branch-2 : goal.index-requires-in-loop-branch-2
index-requires-in-loop-branch-2 g c =
    let held = IsStored c.requires.0 c.args.index in
    let whole = subst (λ (cs : List (BranchColumns _ _)). AllZip held cs c.requires.1) c.in-Some.ensures.cases.0 c.requires.2 in
    let b = beside held (c.in-Some.first.now ∷ c.in-Some.others.now) c.requires.1 (suc c.loop-branch.branch-index) c.branch-item.result whole (omega (arith, c.loop-branch-test.true)) c.branch-item.is in
    omega (arith, slice_get_within _ c.args.index _ b.holds.1)

pub loop-branch-init : goal.loop-branch-init
loop-branch-init g c = λ denominator m messages all_held.
    let S = g.EF.PrimeCharacteristicRing.ring in
    let embed = g.EF.ExtensionDomain.embed in
    let laws = g.EF.PrimeCharacteristicRing.lawful in
    let index = c.args.index in
    let first = c.in-Some.first.now in
    let held = IsStored (over_tuples denominator) index in
    let whole : AllZip held (first ∷ c.in-Some.others.now) (m ∷ messages) =
    subst (λ (cs : List (BranchColumns _ _)). AllZip held cs (m ∷ messages)) c.in-Some.ensures.cases.0 all_held in (
      c.embed.ensures ∙ ap embed (sym (read_is first.multiplicities.items index c.index.result.now m.multiplicity whole.0.0 c.index.ensures))
          ∙ sym (laws.add_zero (S.mul (embed m.multiplicity) S.one) ∙ laws.mul_one (embed m.multiplicity)),
      sym (read_is first.denominators.items index c.index-2.result.now (denominator m.key.tuple) whole.0.1 c.index-2.ensures) ∙ sym (laws.mul_one (denominator m.key.tuple)),
    )

pub loop-branch-preserved : goal.loop-branch-preserved
loop-branch-preserved g c = λ denominator m messages all_held.
    let E = of_laws g.met.EF.ExtensionField.lawful_fields in
    let S = E.ring in
    let laws = g.EF.PrimeCharacteristicRing.lawful in
    let index = c.args.index in
    let i = c.loop-branch.branch-index in
    let branch = c.branch-item.result in
    let held = IsStored (over_tuples denominator) index in
    let whole : AllZip held (c.in-Some.first.now ∷ c.in-Some.others.now) (m ∷ messages) =
    subst (λ (cs : List (BranchColumns _ _)). AllZip held cs (m ∷ messages)) c.in-Some.ensures.cases.0 all_held in
    let b : Beside held messages i branch =
    beside held c.in-Some.others.now messages i branch whole.1 c.loop-branch-test.true c.branch-item.is in
    let multiplicity_is = sym (read_is branch.multiplicities.items index c.index-in-loop-branch.result.now b.item.multiplicity b.holds.0 c.index-in-loop-branch.ensures) in
    let denominator_is = sym (read_is branch.denominators.items index c.index-in-loop-branch-2.result.now (denominator b.item.key.tuple) b.holds.1 c.index-in-loop-branch-2.ensures) in
    let so_far = c.loop-branch.invariant denominator m messages all_held in
    let more = take_item messages i b.item b.within b.there in
    let p = λ (n : Message _). E.embed n.multiplicity in
    let d = λ (n : Message _). denominator n.key.tuple in (
      c.with_branch-quotient.ensures.numerator
          ∙ (λ k. S.add (S.mul (so_far.0 k) (denominator_is k)) (S.mul (E.embed (multiplicity_is k)) (so_far.1 k)))
          ∙ sym (sum_of-push laws p d (m ∷ take i messages) b.item)
          ∙ ap (λ (l : List (Message _)). additive_numerator E denominator (m ∷ l)) (sym more),
      c.with_branch-quotient.ensures.denominator
          ∙ (λ k. S.mul (so_far.1 k) (denominator_is k))
          ∙ sym (product_of-push laws p d (m ∷ take i messages) b.item)
          ∙ ap (λ (l : List (Message _)). additive_denominator E denominator (m ∷ l)) (sym more),
    )

pub returns : goal.returns
returns g c = λ denominator messages all_held.
    let first = c.in-Some.first.now in
    let others = c.in-Some.others.now in
    let held = IsStored (over_tuples denominator) c.args.index in
    let split = c.in-Some.ensures.cases.0 in
    let is_of = λ (ms : List (Message _)). IsQuotientOf (of_laws g.met.EF.ExtensionField.lawful_fields) denominator None ms c.loop-branch.quotient in
    from_first held is_of first others
    (λ m ms whole.
    subst (λ (l : List (Message _)). is_of (m ∷ l)) (take_all c.loop-branch.branch-index ms (omega (arith, AllZip-long held (first ∷ others) (m ∷ ms) whole, c.loop-branch-test.false)))
    (c.loop-branch.invariant denominator m ms (subst (λ (cs : List (BranchColumns _ _)). AllZip held cs (m ∷ ms)) (sym split) whole)))
    messages (subst (λ (cs : List (BranchColumns _ _)). AllZip held cs messages) split all_held)
