-- Trials: lookups with the tuples of another one behind their own.
use Rattle.std.proofs.Common.{◌≡◌, ◌<◌, ◌≤◌, ◌+◌, ℕ, List, ◌++◌, None, Some, Result, Ok, length, map, take, drop, sym, ap, subst, ◌∙◌, arith, length-append}
use Rattle.std.proofs.lemmas.List.{map-append, take_at, drop_at}
use Rattle.std.specs.declared.alloc.Global.{Global}
use Rattle.std.specs.declared.vec.Vec.{Vec}
use Rattle.air_expressions.specs.declared.base_expression.SymbolicExpression.{SymbolicExpression}
use Rattle.lookup_model.specs.Outline.{Outline, fields_of}
use Rattle.lookup_model.specs.Weight.{weight_bound}
use Rattle.lookup_model.specs.declared.error.LookupError.{LookupError}
use Rattle.lookup_model.specs.declared.types.Lookup.{Lookup}
use Rattle.lookup.specs.Packing.{trial}
use Rattle.lookup.specs.Trials.{IsMember}
use Rattle.lookup.specs.internal.Trials.{IsTried}

module _ {A : Type 0} where
  -- two lists one after the other, cut where the second begins
  front_again : (xs ys zs both : List A) (n : ℕ) → both ≡ xs ++ ys → n ≡ length xs → zs ≡ take n both → zs ≡ xs
  front_again xs ys zs both n is at taken = taken ∙ ap (take n) is ∙ take_at xs ys n (sym at)

  back_again : (xs ys zs both : List A) (n : ℕ) → both ≡ xs ++ ys → n ≡ length xs → zs ≡ drop n both → zs ≡ ys
  back_again xs ys zs both n is at dropped = dropped ∙ ap (drop n) is ∙ drop_at xs ys n (sym at)

module _ {F : Type 0} where
  -- a lookup with other tuples
  abbrev pub with_tuples : Lookup F → Vec (Vec (SymbolicExpression F) Global) Global → Vec (SymbolicExpression F) Global → Lookup F
  with_tuples l elements multiplicities = record l { elements = elements; multiplicities = multiplicities }

  member_of : (l : Lookup F) → length l.multiplicities.items ≡ length l.elements.items → l.flags ≡ None → IsMember l
  member_of l lengths none = record {
    lengths = record { multiplicities = lengths; flags = λ x e. absurd (cc (sym none ∙ e)) };
    no_flags = none;
  }

  module _ (answers : Outline (SymbolicExpression F) → Result ℕ LookupError → Type 0) (most : ℕ) (column next : Lookup F) (first : IsMember column) (second : IsMember next)
      (elements : Vec (Vec (SymbolicExpression F) Global) Global) (multiplicities : Vec (SymbolicExpression F) Global)
      (elements_are : elements.items ≡ column.elements.items ++ next.elements.items) (multiplicities_are : multiplicities.items ≡ column.multiplicities.items ++ next.multiplicities.items) where
    pub trial_is : fields_of (with_tuples column elements multiplicities) ≡ trial (fields_of column) (fields_of next)
    trial_is = λ i. record (fields_of column) {
      elements = (ap (map (λ tuple. tuple.items)) elements_are ∙ map-append (λ tuple. tuple.items) column.elements.items next.elements.items) i;
      multiplicities = multiplicities_are i;
    }

    as_long : length multiplicities.items ≡ length elements.items
    as_long = omega (arith, ap length elements_are, ap length multiplicities_are, length-append column.elements.items next.elements.items, length-append column.multiplicities.items next.multiplicities.items, first.lengths.multiplicities, second.lengths.multiplicities)

    pub trial_member : IsMember (with_tuples column elements multiplicities)
    trial_member = member_of (with_tuples column elements multiplicities) as_long first.no_flags

    answer_is : (r : Result ℕ LookupError) → answers (fields_of (with_tuples column elements multiplicities)) r → answers (trial (fields_of column) (fields_of next)) r
    answer_is r answered = subst (λ (o : Outline (SymbolicExpression F)). answers o r) trial_is answered

    -- both in one
    pub joined_both : (n sum : ℕ) → answers (fields_of (with_tuples column elements multiplicities)) (Ok n) → n ≤ most → sum ≡ column.count_weight + next.count_weight → column.count_weight + next.count_weight < weight_bound
        → IsTried answers most column next (record (with_tuples column elements multiplicities) { count_weight = sum }) None
    joined_both n sum answered le sum_is small = (
      member_of (record (with_tuples column elements multiplicities) { count_weight = sum }) as_long first.no_flags,
      (n, answer_is (Ok n) answered, le),
      small,
      λ i. record (trial_is i) { count_weight = sum_is i },
    )

    -- both as they were
    pub set_apart : (n pivot : ℕ) (front : Vec (Vec (SymbolicExpression F) Global) Global) (front_counts : Vec (SymbolicExpression F) Global) (back : Vec (Vec (SymbolicExpression F) Global) Global) (back_counts : Vec (SymbolicExpression F) Global)
        → answers (fields_of (with_tuples column elements multiplicities)) (Ok n) → most < n → pivot ≡ length column.elements.items
        → front.items ≡ take pivot elements.items → back.items ≡ drop pivot elements.items → front_counts.items ≡ take pivot multiplicities.items → back_counts.items ≡ drop pivot multiplicities.items
        → IsTried answers most column next (with_tuples column front front_counts) (Some (with_tuples next back back_counts))
    set_apart n pivot front front_counts back back_counts answered lt at taken dropped taken_counts dropped_counts =
        let e1 = front_again column.elements.items next.elements.items front.items elements.items pivot elements_are at taken in
        let e2 = back_again column.elements.items next.elements.items back.items elements.items pivot elements_are at dropped in
        let at_counts : pivot ≡ length column.multiplicities.items = at ∙ sym first.lengths.multiplicities in
        let m1 = front_again column.multiplicities.items next.multiplicities.items front_counts.items multiplicities.items pivot multiplicities_are at_counts taken_counts in
        let m2 = back_again column.multiplicities.items next.multiplicities.items back_counts.items multiplicities.items pivot multiplicities_are at_counts dropped_counts in (
          member_of (with_tuples column front front_counts) (ap length m1 ∙ first.lengths.multiplicities ∙ sym (ap length e1)) first.no_flags,
          member_of (with_tuples next back back_counts) (ap length m2 ∙ second.lengths.multiplicities ∙ sym (ap length e2)) second.no_flags,
          (n, answer_is (Ok n) answered, lt),
          (λ i. record (fields_of column) { elements = map (λ tuple. tuple.items) (e1 i); multiplicities = m1 i }),
          λ i. record (fields_of next) { elements = map (λ tuple. tuple.items) (e2 i); multiplicities = m2 i },
        )
