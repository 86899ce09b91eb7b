-- The degrees of lookups, branch by branch.
use Rattle.lookup_model.proofs.DegreeBounds.{greatest-push}
use Rattle.std.proofs.Common.{◌≡◌, ℕ, zero, suc, ◌+◌, ◌-◌, ◌<◌, ◌≤◌, max, List, [], ◌∷◌, ◌++◌, length, map, take, get_or, refl, sym, ap, ◌∙◌, arith}
use Rattle.std.proofs.lemmas.List.{length-map}
use Rattle.std.specs.List.{zip}
use Rattle.field.specs.Sums.{taken_out}
use Rattle.std.specs.declared.alloc.Global.{Global}
use Rattle.std.specs.declared.vec.Vec.{Vec}
use Rattle.list_laws.proofs.Zips.{length-zipped, zipped_at, zipped_more}
use Rattle.list_laws.proofs.Images.{map-map, map_same, mapped_at}
use Rattle.air_expressions.specs.declared.base_expression.SymbolicExpression.{SymbolicExpression}
use Rattle.lookup_model.proofs.Branches.{length-degrees}
use Rattle.lookup_model.specs.LookupDegree.{BranchDegrees, additive_denominator_degree, additive_numerator_degree, branch_degrees, expression_degree, greatest, lookup_branch_degrees, total}
use Rattle.lookup_model.specs.Records.{HasEqualLengths}
use Rattle.lookup_model.specs.declared.types.Lookup.{Lookup}

-- the greatest of a beginning that is one item longer
pub greatest_next_is : (ns : List ℕ) (i n : ℕ) → take (i + 1) ns ≡ take i ns ++ n ∷ [] → greatest (take (i + 1) ns) ≡ max (greatest (take i ns)) n
greatest_next_is ns i n longer = ap greatest longer ∙ greatest-push (take i ns) n

pub greatest_longer : (ns : List ℕ) (i n so_far next : ℕ) → take (i + 1) ns ≡ take i ns ++ n ∷ [] → so_far ≡ greatest (take i ns) → next ≡ max so_far n → next ≡ greatest (take (i + 1) ns)
greatest_longer ns i n so_far next longer is next_is = next_is ∙ ap (λ m. max m n) is ∙ sym (greatest_next_is ns i n longer)

-- an item is at most the greatest one, and at most the sum
pub item_within : (ns : List ℕ) (i n : ℕ) → i < length ns → n ≡ get_or ns i n → (n ≤ greatest ns) × (n ≤ total ns)
item_within [] i n lt is = absurd (omega (arith, lt))
item_within (m ∷ ns) zero n lt is = (omega (arith, is), omega (arith, is))
item_within (m ∷ ns) (suc i) n lt is =
    let rest = item_within ns i n (omega (arith, lt)) is in (omega (arith, rest.0), omega (arith, rest.1))

-- what is left of the product of all denominators without one of them
others_are : (c : ℕ) (bs : List BranchDegrees) → map (λ (t : BranchDegrees × List BranchDegrees). t.0.multiplicity + (c + additive_denominator_degree t.1)) (taken_out bs) ≡ map (λ (b : BranchDegrees). b.multiplicity + (c + additive_denominator_degree bs - b.tuple)) bs
others_are c [] = refl
others_are c (b ∷ bs) =
    let item = λ (t : BranchDegrees × List BranchDegrees). t.0.multiplicity + (c + additive_denominator_degree t.1) in
    let with_first : BranchDegrees × List BranchDegrees → BranchDegrees × List BranchDegrees = λ t. (t.0, b ∷ t.1) in
    let here : b.multiplicity + (c + additive_denominator_degree bs) ≡ b.multiplicity + (c + (b.tuple + additive_denominator_degree bs) - b.tuple) = omega arith in
    let there : map item (map with_first (taken_out bs)) ≡ map (λ (a : BranchDegrees). a.multiplicity + (c + (b.tuple + additive_denominator_degree bs) - a.tuple)) bs =
    map-map item with_first (taken_out bs)
    ∙ map_same (λ (t : BranchDegrees × List BranchDegrees). t.0.multiplicity + (c + (b.tuple + additive_denominator_degree t.1))) (λ (t : BranchDegrees × List BranchDegrees). t.0.multiplicity + (c + b.tuple + additive_denominator_degree t.1)) (λ t. omega arith) (taken_out bs)
    ∙ others_are (c + b.tuple) bs
    ∙ ap (λ (n : ℕ). map (λ (a : BranchDegrees). a.multiplicity + (n - a.tuple)) bs) (omega arith) in
    λ i. here i ∷ there i

-- so the degree of the numerator goes by the branches
pub numerator_terms : (bs : List BranchDegrees) → additive_numerator_degree bs ≡ greatest (map (λ (b : BranchDegrees). b.multiplicity + (additive_denominator_degree bs - b.tuple)) bs)
numerator_terms bs =
    ap greatest (map_same (λ (t : BranchDegrees × List BranchDegrees). t.0.multiplicity + additive_denominator_degree t.1) (λ (t : BranchDegrees × List BranchDegrees). t.0.multiplicity + (0 + additive_denominator_degree t.1)) (λ t. omega arith) (taken_out bs)
    ∙ others_are 0 bs ∙ ap (λ (n : ℕ). map (λ (b : BranchDegrees). b.multiplicity + (n - b.tuple)) bs) (omega arith))

module _ {F : Type 0} (t : ℕ) (lookup : Lookup F) (lengths : HasEqualLengths lookup) (i : ℕ) (tuple : Vec (SymbolicExpression F) Global) (multiplicity : SymbolicExpression F) (lt : i < length lookup.elements.items) (tuple_is : tuple ≡ get_or lookup.elements.items i tuple) (multiplicity_is : multiplicity ≡ get_or lookup.multiplicities.items i multiplicity) where
  abbrev pub branches : List BranchDegrees
  branches = lookup_branch_degrees t lookup

  abbrev pub branch : BranchDegrees
  branch = branch_degrees t tuple.items multiplicity

  -- the branch at its index
  branch_is : branch ≡ get_or branches i branch
  branch_is =
      zipped_at (λ b. branch_degrees t b.0.items b.1) lookup.elements.items lookup.multiplicities.items lengths.multiplicities i tuple multiplicity lt tuple_is multiplicity_is

  -- what f gives of the branch is at most the greatest one, and at most the sum
  pub branch_within : (f : BranchDegrees → ℕ) → (f branch ≤ greatest (map f branches)) × (f branch ≤ total (map f branches))
  branch_within f =
      let within : i < length branches = omega (arith, lt, length-degrees lookup lengths t) in
      item_within (map f branches) i (f branch) (omega (arith, within, length-map branches f)) (mapped_at f branches i branch within branch_is)

  module _ (flags : List (SymbolicExpression F)) (flag : SymbolicExpression F) (as_many : length flags ≡ length lookup.elements.items) (flag_is : flag ≡ get_or flags i flag) where
    abbrev flag_degrees : List ℕ
    flag_degrees = map (expression_degree t) flags

    as_many_degrees : length branches ≡ length flag_degrees
    as_many_degrees = omega (arith, length-degrees lookup lengths t, as_many, length-map flags (expression_degree t))

    within_flags : i < length flag_degrees
    within_flags = omega (arith, lt, as_many, length-map flags (expression_degree t))

    flag_degree_is : expression_degree t flag ≡ get_or flag_degrees i (expression_degree t flag)
    flag_degree_is = mapped_at (expression_degree t) flags i flag (omega (arith, lt, as_many)) flag_is

    -- what f gives of the flag and the branch is at most the greatest one
    pub pair_within : (f : ℕ × BranchDegrees → ℕ) → f (expression_degree t flag, branch) ≤ greatest (map f (zip flag_degrees branches))
    pair_within f =
        (item_within (map f (zip flag_degrees branches)) i (f (expression_degree t flag, branch)) (omega (arith, within_flags, length-zipped f flag_degrees branches as_many_degrees))
        (zipped_at f flag_degrees branches as_many_degrees i (expression_degree t flag) branch within_flags flag_degree_is branch_is)).0

    -- and it is the next one
    pub pair_next : (f : ℕ × BranchDegrees → ℕ) → greatest (take (i + 1) (map f (zip flag_degrees branches))) ≡ max (greatest (take i (map f (zip flag_degrees branches)))) (f (expression_degree t flag, branch))
    pair_next f =
        greatest_next_is (map f (zip flag_degrees branches)) i (f (expression_degree t flag, branch))
        (zipped_more f flag_degrees branches as_many_degrees i (expression_degree t flag) branch within_flags flag_degree_is branch_is)
