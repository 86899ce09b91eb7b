-- The ids that AIRs are given, AIR by AIR.
use Rattle.std.proofs.Common.{◌≡◌, ◌∙◌, ◌∷◌, ◌++◌, ◌+◌, ◌<◌, [], ℕ, List, ap, arith, MatchResult, Result, ◌⊎◌, get_or, inl, inr, length, map, max, refl, subst, subst₂, sym, take}
use Rattle.std.proofs.lemmas.List.{map_push, take_more}
use Rattle.std.proofs.lemmas.Result.{MatchResult-weaker}
use Rattle.std.specs.List.{flat_map}
use Rattle.std.specs.declared.alloc.Global.{Global}
use Rattle.std.specs.declared.vec.Vec.{Vec}
use Rattle.batch.proofs.Greatest.{greatest_append, widest_more}
use Rattle.batch.specs.Lists.{lists_of}
use Rattle.lookup_model.specs.LookupDegree.{greatest}
use Rattle.batch.specs.Checks.{HaveEvenWidths, IsPlanOver, IsRefusalOver}
use Rattle.batch.specs.PlanFacts.{IsPlan}
use Rattle.batch.specs.Plans.{Plan}
use Rattle.batch.specs.declared.error.BatchError.{BatchError}
use Rattle.batch.specs.declared.error.BatchError.TheVariants.{Memory}
use Rattle.field.specs.Residue.{Residue}
use Rattle.lookup.specs.declared.lookups.Lookups.{Lookups}
use Rattle.c_calls.specs.BatchTables.{AreSetsOfTables, IsGivenIdsRefusal, IsPlanFromTables, IsPlanOfTables, IsPlanOverGiven, heights_of_tables}
use Rattle.c_calls.specs.GivenIds.{given_ids, id_bound, next_number}
use Rattle.c_calls.specs.declared.batch_tables.Air.{Air}

-- those of one AIR more
pub ids_next : (airs : List Air) (i : ℕ) (d : Air) (before after : List (Vec ℕ Global)) (ids : Vec ℕ Global) → i < length airs → after ≡ before ++ ids ∷ [] → ids.items ≡ (get_or airs i d).ids.now → lists_of before ≡ map (λ air. air.ids.now) (take i airs)
    → lists_of after ≡ map (λ air. air.ids.now) (take (i + 1) airs)
ids_next airs i d before after ids there pushed ids_are so_far =
    ap lists_of pushed ∙ map_push (λ list. list.items) before ids ∙ (λ k. so_far k ++ ids_are k ∷ [])
    ∙ sym (ap (map (λ (air : Air). air.ids.now)) (take_more airs i d there) ∙ map_push (λ (air : Air). air.ids.now) (take i airs) (get_or airs i d))

-- the bound of one id more
pub bound_more : (ids : List ℕ) (i d start now next : ℕ) → i < length ids → now ≡ max start (greatest (map next_number (take i ids))) → next ≡ max now (next_number (get_or ids i d)) → next ≡ max start (greatest (map next_number (take (i + 1) ids)))
bound_more ids i d start now next there so_far next_is =
    let more = ap (λ xs. greatest (map next_number xs)) (take_more ids i d there) ∙ (ap greatest (map_push next_number (take i ids) (get_or ids i d)) ∙ greatest_append (map next_number (take i ids)) (next_number (get_or ids i d) ∷ [])) in
    omega (arith, next_is, so_far, more)

-- parts of mapped items
parts_of_images : {A B C : Type 0} (f : B → List C) (g : A → B) (xs : List A) → flat_map f (map g xs) ≡ flat_map (λ x. f (g x)) xs
parts_of_images f g [] = refl
parts_of_images f g (x ∷ xs) = ap (λ ys. f (g x) ++ ys) (parts_of_images f g xs)

-- the bound of one list more
pub bound_next : (ids : List (Vec ℕ Global)) (i : ℕ) (list : Vec ℕ Global) (now next : ℕ) → i < length ids → list ≡ get_or ids i list → now ≡ id_bound (lists_of (take i ids)) → next ≡ max now (greatest (map next_number list.items))
    → next ≡ id_bound (lists_of (take (i + 1) ids))
bound_next ids i list now next there is so_far next_is =
    let by_lists = λ (n : ℕ). ap greatest (parts_of_images (map next_number) (λ (l : Vec ℕ Global). l.items) (take n ids)) in
    let more = widest_more (λ (l : Vec ℕ Global). map next_number l.items) ids i list 0 now next there is (omega (arith, so_far ∙ by_lists i)) next_is in
    omega (arith, more, by_lists (i + 1))

-- the plan of the sets that tables encode
pub plan_from_tables : {p : ℕ} (airs : List Air) (sets : List (Lookups (Residue p))) (heights : List ℕ) (plan : Plan (Residue p)) → AreSetsOfTables airs sets → heights ≡ heights_of_tables airs → IsPlan p plan → IsPlanFromTables airs sets heights plan → IsPlanOfTables airs plan
plan_from_tables airs sets heights plan sets_are heights_are facts (inl own) = record {
  sets = subst (AreSetsOfTables airs) (sym own.1.airs_are) sets_are;
  heights = own.1.heights_are ∙ heights_are;
  facts = facts;
  even = subst HaveEvenWidths (sym own.1.airs_are) own.1.widths;
  ids_are = inl (own.0, own.1.numbered);
}
plan_from_tables airs sets heights plan sets_are heights_are facts (inr given) = record {
  sets = subst (AreSetsOfTables airs) (sym (ap (λ p. p.airs) given.1.is)) sets_are;
  heights = ap (λ p. p.heights) given.1.is ∙ heights_are;
  facts = facts;
  even = subst HaveEvenWidths (sym (ap (λ p. p.airs) given.1.is)) given.1.widths;
  ids_are = inr (given.0, ap (λ p. p.ids) given.1.is, ap (λ p. p.num_ids) given.1.is);
}

-- what is answered over lists of ids that are those of the AIRs
pub planned_over : {p : ℕ} {A : Type 0} (airs : List Air) (sets : List (Lookups (Residue p))) (heights : List ℕ) (ids : List (List ℕ)) (m : ℕ) (plan_in : A → Plan (Residue p)) (answer : Result A BatchError) → ids ≡ given_ids airs → m ≡ id_bound (given_ids airs)
    → MatchResult answer (λ a. IsPlanOver sets heights ids m (plan_in a)) (λ e. (e ≡ Memory) ⊎ IsRefusalOver p sets heights ids m e)
    → MatchResult answer (λ a. IsPlanOverGiven airs sets heights (plan_in a)) (λ e. (e ≡ Memory) ⊎ IsGivenIdsRefusal airs sets heights e)
planned_over {p} airs sets heights ids m plan_in answer ids_are m_is over = MatchResult-weaker answer over
    (λ a is. subst₂ (λ is n. IsPlanOver sets heights is n (plan_in a)) ids_are m_is is)
    (λ e refusal. elim refusal [
      | inl memory ↦ inl memory
      | inr other ↦ inr (subst₂ (λ is n. IsRefusalOver p sets heights is n e) ids_are m_is other)
    ])
