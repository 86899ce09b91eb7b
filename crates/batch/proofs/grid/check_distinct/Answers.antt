use Rattle.std.proofs.Common.{◌≡◌, ◌+◌, inr, true, false, take, refl, sym, ap, subst, ◌∙◌, ◌≢◌, ◌↔◌, ℕ, zero, suc, Bool, IsTrue, if◌then◌else◌, List, [], ◌∷◌, ◌++◌}
use Rattle.std.proofs.lemmas.Bool.{not-false, not-true}
use Rattle.std.specs.List.{list_any, AllByRecursion}
use Rattle.list_laws.proofs.Items.{take_item}
use Rattle.field.specs.Distinct.{IsDistinct}
use Rattle.indexmap.specs.IndexSet.{insert_key}
use Rattle.std.proofs.lemmas.List.Elements.{All-contains, All-from_recursion}
use Rattle.std.proofs.lemmas.Map.Views.{Contains-from_any}
use Rattle.list_laws.proofs.Each.{all_back, all_both, all_take, all_weaker, none_any}
use Rattle.batch.proofs.grid.check_distinct.Goals as goal

module _ {A : Type 0} where
  -- the first n elements
  distinct_take : (n : ℕ) (xs : List A) → IsDistinct xs → IsDistinct (take n xs)
  distinct_take (suc n) (x ∷ xs) distinct = (all_take (λ y. x ≢ y) n xs distinct.0, distinct_take n xs distinct.1)
  distinct_take zero xs distinct = tt
  distinct_take n [] distinct = tt

  module _ (same : A → A → Bool) (decides : (a b : A) → IsTrue (same a b) ↔ (a ≡ b)) (x : A) where
    pushed : (ys : List A) → AllByRecursion (λ y. y ≢ x) ys → IsDistinct ys → IsDistinct (ys ++ x ∷ [])
    pushed [] none distinct = (tt, tt)
    pushed (y ∷ ys) none distinct = (all_both (λ z. y ≢ z) ys (x ∷ []) distinct.0 (none.0, tt), pushed ys none.1 distinct.1)

    apart : (ys : List A) → IsDistinct (ys ++ x ∷ []) → AllByRecursion (λ y. y ≢ x) ys
    apart [] distinct = tt
    apart (y ∷ ys) distinct = ((all_back (λ z. y ≢ z) ys (x ∷ []) distinct.0).0, apart ys distinct.1)

    -- a new element leaves the list without repeats
    distinct_push : (ys : List A) → list_any (same x) ys ≡ false → IsDistinct ys → IsDistinct (ys ++ x ∷ [])
    distinct_push ys unfound = pushed ys (all_weaker (λ y. same x y ≡ false) (λ y. y ≢ x) (λ y e is. cc (e, (decides x y).1 (sym is))) ys (none_any (same x) ys unfound))

    -- an element that is there is a repeat
    repeated_push : (ys : List A) → list_any (same x) ys ≡ true → ¬ IsDistinct (ys ++ x ∷ [])
    repeated_push ys found distinct =
        All-contains (λ y. y ≢ x) ys x (All-from_recursion (λ y. y ≢ x) ys (apart ys distinct)) (Contains-from_any (λ a b. (decides a b).0) x ys found) refl

-- a new element goes last
new_goes_last : {A : Type 0} (same : A → A → Bool) (x : A) (ys : List A) → list_any (same x) ys ≡ false → insert_key same ys x ≡ ys ++ x ∷ []
new_goes_last same x ys unfound i = if unfound i then ys else ys ++ x ∷ []

pub returns-then-not-branch : goal.returns-then-not-branch
returns-then-not-branch g c =
    let same = g.K.PartialEq.eq in
    let list = c.args.list.now in
    let index = c.loop-index.index in
    let x = c.index-list-index.result in
    let longer = take_item list index x c.loop-index-test.true c.index-list-index.is in
    let found : list_any (same x) (take index list) ≡ true = ap (list_any (same x)) (sym c.loop-index.invariant.seen) ∙ not-false _ (sym c.in_ok-insert.ensures.added ∙ c.if-not-branch.true) in
    inr ((λ distinct. repeated_push same g.met.K.PrimeCharacteristicRing.eq_is x (take index list) found (subst IsDistinct longer (distinct_take (index + 1) list distinct))), refl)

pub loop-index-preserved : goal.loop-index-preserved
loop-index-preserved g c =
    let same = g.K.PartialEq.eq in
    let list = c.args.list.now in
    let index = c.loop-index.index in
    let x = c.index-list-index.result in
    let so_far = c.loop-index.invariant in
    let longer = take_item list index x c.loop-index-test.true c.index-list-index.is in
    let unfound : list_any (same x) (take index list) ≡ false = ap (list_any (same x)) (sym so_far.seen) ∙ not-true _ (sym c.in_ok-insert.ensures.added ∙ c.if-not-branch.false) in
    record {
      seen = c.in_ok-insert.ensures.keys ∙ ap (λ ks. insert_key same ks x) so_far.seen ∙ new_goes_last same x (take index list) unfound ∙ sym longer;
      distinct = subst IsDistinct (sym longer) (distinct_push same g.met.K.PrimeCharacteristicRing.eq_is x (take index list) unfound so_far.distinct);
    }
