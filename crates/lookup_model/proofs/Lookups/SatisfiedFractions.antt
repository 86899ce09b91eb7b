-- Where a lookup has no fault on a row, its plain fraction satisfies its constraint: without flags,
-- and with flags.
use Rattle.std.proofs.Common.{◌≡◌, ◌≢◌, ℕ, Bool, true, false, cond, not, ◌||◌, None, List, [], ◌∷◌, map, refl, sym, ap, ◌∙◌, ◌≤◌, Some, length, arith, Option, IfSome}
use Rattle.std.proofs.lemmas.Bool.{true≢false, and_parts}
use Rattle.std.specs.List.{AllByRecursion, filter, zip}
use Rattle.std.specs.declared.alloc.Global.{Global}
use Rattle.std.specs.declared.vec.Vec.{Vec}
use Rattle.std.proofs.lemmas.List.{length-map}
use Rattle.std.specs.Option.{ForSome, option_map}
use Rattle.list_laws.proofs.Images.{map-map}
use Rattle.field.specs.Ring.{Ring, IsCommutativeRing, sub_in}
use Rattle.field.specs.laws.RingFacts.{mul_zero, one_mul, zero_add, zero_mul}
use Rattle.field.specs.laws.RingSolver.{var, con, ◌:*◌, ◌:+◌, ring_given, ◌:-◌, ring_law}
use Rattle.field.specs.Sums.{product_in, sum_in, taken_out}
use Rattle.field.specs.Extension.{Extension, IsLawful}
use Rattle.air_expressions.specs.Window.{Window}
use Rattle.air_expressions.specs.declared.base_expression.SymbolicExpression.{SymbolicExpression}
use Rattle.lookup_model.specs.Constraints.{fraction_left, exclusive_numerator, flagged_denominators}
use Rattle.lookup_model.specs.Denominators.{column_denominator, key_denominator}
use Rattle.lookup_model.specs.Fault.{vanishes, are_boolean, fault_of}
use Rattle.lookup_model.specs.Plain.{quotient_of, counted_messages, plain_fraction, quotient}
use Rattle.lookup_model.specs.Message.{Key, Message}
use Rattle.lookup_model.specs.Sent.{branch_at, chosen_branches, branches_at, flags_at, sent, sent_at, value, values}
use Rattle.lookup_model.specs.Records.{HasEqualLengths}
use Rattle.lookup_model.specs.declared.types.Lookup.{Lookup}
use Rattle.lookup_model.proofs.TakenOut.{item_of, product_of, sum_in-same, sum_in-scaled, sum_of}
use Rattle.lookup_model.proofs.Lookups.Terminals.{plain_fraction-all, quotient-zero}
use Rattle.lookup_model.proofs.Branches.{length-branches_at}
use Rattle.lookup_model.proofs.Lookups.LookupFaults.{additive_none, exclusive_none}
use Rattle.lookup_model.proofs.Lookups.Selections.{chosen_few}

module _ {K : Type 0} {S : Ring K} (laws : IsCommutativeRing S) {X : Type 0} (p d q : X → K) where
  -- one more item in front
  sum_of-cons : (x : X) (xs : List X) → sum_of laws p d (x ∷ xs) ≡ S.add (S.mul (p x) (product_of laws p d xs)) (S.mul (sum_of laws p d xs) (d x))
  sum_of-cons x xs =
      let item = item_of laws p d in
      let with_first : X × List X → X × List X = λ t. (t.0, x ∷ t.1) in
      let raised : (t : X × List X) → item (with_first t) ≡ S.mul (item t) (d x) =
      λ t. ap (S.mul (p t.0)) (laws.mul_comm (d x) (product_of laws p d t.1)) ∙ sym (laws.mul_assoc (p t.0) (product_of laws p d t.1) (d x)) in
      ap (S.add (item (x, xs))) (ap (sum_in S) (map-map item with_first (taken_out xs)) ∙ sum_in-same laws (λ t. item (with_first t)) (λ t. S.mul (item t) (d x)) raised (taken_out xs) ∙ sum_in-scaled laws item (d x) (taken_out xs))

  -- where each quotient times its denominator is its numerator, so is the sum of quotients times
  -- the product of denominators
  pub cleared : (xs : List X) → AllByRecursion (λ x. S.mul (d x) (q x) ≡ p x) xs → S.mul (product_in S (map d xs)) (sum_in S (map q xs)) ≡ sum_of laws p d xs
  cleared [] each = mul_zero laws S.one
  cleared (x ∷ xs) each =
      ring_given laws (d x ∷ product_of laws p d xs ∷ q x ∷ sum_in S (map q xs) ∷ p x ∷ sum_of laws p d xs ∷ [])
      ((var 1, var 0 :* var 2, var 4) ∷ (var 0, var 1 :* var 3, var 5) ∷ [])
      ((var 0 :* var 1) :* (var 2 :+ var 3)) ((var 4 :* var 1) :+ (var 5 :* var 0)) (each.0, (cleared xs each.1, tt)) refl
      ∙ sym (sum_of-cons x xs)

module _ {F K : Type 0} {E : Extension F K} (laws : IsLawful E) (denominator : Key F → K) where
  -- the quotient of a message times its denominator is its multiplicity, also where that is zero
  pub divides_one : (m : Message F) → denominator m.key ≢ E.ring.zero → E.ring.mul (denominator m.key) (quotient_of E denominator m) ≡ E.embed m.multiplicity
  divides_one m ne =
      ring_given laws.ring (denominator m.key ∷ E.embed m.multiplicity ∷ E.inverse (denominator m.key) ∷ [])
      ((var 1, var 0 :* var 2, con 1) ∷ []) (var 0 :* (var 1 :* var 2)) (var 1) (laws.inverse (denominator m.key) ne, tt) refl

  zero_divides : (m : Message F) → m.multiplicity ≡ E.base.zero → E.ring.mul (denominator m.key) (quotient_of E denominator m) ≡ E.embed m.multiplicity
  zero_divides m e =
      ap (λ n. E.ring.mul (denominator m.key) (quotient E denominator n m.key)) e ∙ ap (E.ring.mul (denominator m.key)) (quotient-zero laws denominator m.key)
      ∙ mul_zero laws.ring (denominator m.key) ∙ sym (ap E.embed e ∙ laws.embeds.zero)

  -- so it is of all messages, where no denominator that counts vanishes
  pub divides_each : (ms : List (Message F)) → vanishes E denominator (counted_messages E.base E.base_eq ms) ≡ false → AllByRecursion (λ m. E.ring.mul (denominator m.key) (quotient_of E denominator m) ≡ E.embed m.multiplicity) ms
  divides_each [] none = tt
  divides_each (m ∷ ms) none = by_test (E.base_eq m.multiplicity E.base.zero) refl none (divides_each ms)
    where
      by_denominator : (b : Bool) → E.eq (denominator m.key) E.ring.zero ≡ b → (b || vanishes E denominator (counted_messages E.base E.base_eq ms)) ≡ false → (E.ring.mul (denominator m.key) (quotient_of E denominator m) ≡ E.embed m.multiplicity) × (vanishes E denominator (counted_messages E.base E.base_eq ms) ≡ false)
      by_denominator true e bad = absurd (true≢false bad)
      by_denominator false e rest =
          (divides_one m (λ z. true≢false (sym ((laws.eq (denominator m.key) E.ring.zero).1 z) ∙ e)), rest)

      AllDivide : List (Message F) → Type 0
      AllDivide ns = AllByRecursion (λ n. E.ring.mul (denominator n.key) (quotient_of E denominator n) ≡ E.embed n.multiplicity) ns

      by_test : (b : Bool) → E.base_eq m.multiplicity E.base.zero ≡ b → vanishes E denominator (cond (not b) (m ∷ counted_messages E.base E.base_eq ms) (counted_messages E.base E.base_eq ms)) ≡ false → (vanishes E denominator (counted_messages E.base E.base_eq ms) ≡ false → AllDivide ms) → AllDivide (m ∷ ms)
      by_test true e rest further = (zero_divides m ((laws.base_eq m.multiplicity E.base.zero).0 e), further rest)
      by_test false e rest further =
          let (here, left) = by_denominator (E.eq (denominator m.key) E.ring.zero) refl rest in (here, further left)

module _ {F K : Type 0} {E : Extension F K} (laws : IsLawful E) (challenges : List K) (column : ℕ) (w : Window F) where
  abbrev denominator_of_tuple : List F → K
  denominator_of_tuple = column_denominator E challenges column

  abbrev of_key : Key F → K
  of_key = key_denominator E challenges

  abbrev branches_of : List (Vec (SymbolicExpression F) Global × SymbolicExpression F) → List (Message F)
  branches_of zs = map (λ b. branch_at E.base w column b.0.items b.1) zs

  -- the denominators of a column's messages are those over the challenges of the column
  by_column : (zs : List (Vec (SymbolicExpression F) Global × SymbolicExpression F)) → AllByRecursion (λ m. E.ring.mul (of_key m.key) (quotient_of E of_key m) ≡ E.embed m.multiplicity) (branches_of zs) → AllByRecursion (λ m. E.ring.mul (denominator_of_tuple m.key.tuple) (quotient_of E of_key m) ≡ E.embed m.multiplicity) (branches_of zs)
  by_column [] each = tt
  by_column (z ∷ zs) each = (each.0, by_column zs each.1)

  -- the plain fraction of an additive lookup satisfies its constraint
  pub additive_satisfied : (zs : List (Vec (SymbolicExpression F) Global × SymbolicExpression F)) (f : K) → f ≡ plain_fraction E of_key (record { flags = None; messages = branches_of zs }) → vanishes E of_key (counted_messages E.base E.base_eq (branches_of zs)) ≡ false → fraction_left E denominator_of_tuple None (branches_of zs) f ≡ E.ring.zero
  additive_satisfied zs f f_is none =
      let ms = branches_of zs in
      let p = λ (m : Message F). E.embed m.multiplicity in
      let d = λ (m : Message F). denominator_of_tuple m.key.tuple in
      let whole : E.ring.mul (product_in E.ring (map d ms)) f ≡ sum_of laws.ring p d ms =
      ap (E.ring.mul (product_in E.ring (map d ms))) (f_is ∙ plain_fraction-all laws of_key (record { flags = None; messages = ms }))
      ∙ cleared laws.ring p d (quotient_of E of_key) ms (by_column zs (divides_each laws of_key ms none)) in
      ap (λ t. sub_in E.ring t (sum_of laws.ring p d ms)) whole ∙ laws.ring.add_neg (sum_of laws.ring p d ms)

module _ {F K : Type 0} {E : Extension F K} (laws : IsLawful E) where
  -- a lawful flag that is not set is zero
  unset_is_zero : (f : F) → (E.base_eq f E.base.zero || E.base_eq f E.base.one) ≡ true → E.base_eq f E.base.one ≡ false → f ≡ E.base.zero
  unset_is_zero f lawful unset = (laws.base_eq f E.base.zero).0 (by_test (E.base_eq f E.base.zero) (ap (λ t. E.base_eq f E.base.zero || t) (sym unset) ∙ lawful))
    where
      by_test : (b : Bool) → (b || false) ≡ true → b ≡ true
      by_test true e = refl
      by_test false e = e

  module _ {X : Type 0} (g : X → K) where
    -- Of lawful flags, the sum of flag times value is the sum over the branches that they choose.
    pub selected_sum : (fs : List F) (bs : List X) → are_boolean E.base E.base_eq fs ≡ true → sum_in E.ring (map (λ b. E.ring.mul (E.embed b.0) (g b.1)) (zip fs bs)) ≡ sum_in E.ring (map g (chosen_branches E.base E.base_eq fs bs))
    selected_sum [] bs lawful = refl
    selected_sum (f ∷ fs) [] lawful = refl
    selected_sum (f ∷ fs) (b ∷ bs) lawful = by_test (E.base_eq f E.base.one) refl (selected_sum fs bs parts.1)
      where
        parts : ((E.base_eq f E.base.zero || E.base_eq f E.base.one) ≡ true) × (are_boolean E.base E.base_eq fs ≡ true)
        parts = and_parts (E.base_eq f E.base.zero || E.base_eq f E.base.one) (are_boolean E.base E.base_eq fs) lawful

        total : K
        total = sum_in E.ring (map (λ (q : F × X). E.ring.mul (E.embed q.0) (g q.1)) (zip fs bs))

        by_test : (t : Bool) → E.base_eq f E.base.one ≡ t → total ≡ sum_in E.ring (map g (chosen_branches E.base E.base_eq fs bs))
            → E.ring.add (E.ring.mul (E.embed f) (g b)) total ≡ sum_in E.ring (map g (map (λ (q : F × X). q.1) (cond t ((f, b) ∷ filter (λ q. E.base_eq q.0 E.base.one) (zip fs bs)) (filter (λ q. E.base_eq q.0 E.base.one) (zip fs bs)))))
        by_test true e rest =
            let one = ap E.embed ((laws.base_eq f E.base.one).0 e) ∙ laws.embeds.one in
            (λ i. E.ring.add (E.ring.mul (one i) (g b)) (rest i)) ∙ ap (λ x. E.ring.add x (sum_in E.ring (map g (chosen_branches E.base E.base_eq fs bs)))) (one_mul laws.ring (g b))
        by_test false e rest =
            let zero = ap E.embed (unset_is_zero f parts.0 e) ∙ laws.embeds.zero in
            (λ i. E.ring.add (E.ring.mul (zero i) (g b)) (rest i)) ∙ ap (λ x. E.ring.add x (sum_in E.ring (map g (chosen_branches E.base E.base_eq fs bs)))) (zero_mul laws.ring (g b)) ∙ zero_add laws.ring (sum_in E.ring (map g (chosen_branches E.base E.base_eq fs bs)))

  module _ {X : Type 0} where
    -- The sum of lawful flags counts the branches that they choose.
    pub flags_sum : (fs : List F) (bs : List X) → length fs ≡ length bs → are_boolean E.base E.base_eq fs ≡ true → sum_in E.ring (map E.embed fs) ≡ sum_in E.ring (map (λ b. E.ring.one) (chosen_branches E.base E.base_eq fs bs))
    flags_sum fs bs same lawful = as_products fs bs same ∙ selected_sum (λ b. E.ring.one) fs bs lawful
      where
        as_products : (es : List F) (cs : List X) → length es ≡ length cs → sum_in E.ring (map E.embed es) ≡ sum_in E.ring (map (λ (q : F × X). E.ring.mul (E.embed q.0) E.ring.one) (zip es cs))
        as_products [] cs long = refl
        as_products (e ∷ es) [] long = absurd (omega (arith, long))
        as_products (e ∷ es) (c ∷ cs) long = λ i. E.ring.add (sym (laws.ring.mul_one (E.embed e)) i) (as_products es cs (omega (arith, long)) i)

  module _ (denominator : Key F → K) where
    -- the equation over the messages that are chosen, which are at most one
    by_chosen : (ms : List (Message F)) (D f N : K) → length ms ≤ 1 → vanishes E denominator ms ≡ false
        → D ≡ E.ring.add (sum_in E.ring (map (λ m. denominator m.key) ms)) (sub_in E.ring E.ring.one (sum_in E.ring (map (λ m. E.ring.one) ms)))
        → f ≡ sum_in E.ring (map (quotient_of E denominator) ms) → N ≡ sum_in E.ring (map (λ m. E.embed m.multiplicity) ms)
        → sub_in E.ring (E.ring.mul D f) N ≡ E.ring.zero
    by_chosen [] D f N few divides D_is f_is N_is =
        (λ i. sub_in E.ring (E.ring.mul (D_is i) (f_is i)) (N_is i))
        ∙ ring_law laws.ring [] ((con 0 :+ (con 1 :- con 0)) :* con 0 :- con 0) (con 0) refl
    by_chosen (m ∷ []) D f N few divides D_is f_is N_is =
        let d = denominator m.key in
        let q = quotient_of E denominator m in
        let p = E.embed m.multiplicity in
        (λ i. sub_in E.ring (E.ring.mul (D_is i) (f_is i)) (N_is i))
        ∙ ring_given laws.ring (d ∷ q ∷ p ∷ []) ((con 1, var 0 :* var 1, var 2) ∷ []) (((var 0 :+ con 0) :+ (con 1 :- (con 1 :+ con 0))) :* (var 1 :+ con 0) :- (var 2 :+ con 0)) (con 0) (divides_one laws denominator m not_zero, tt) refl
      where
        not_zero : denominator m.key ≢ E.ring.zero
        not_zero e = true≢false (sym (ap (λ t. t || false) ((laws.eq (denominator m.key) E.ring.zero).1 e)) ∙ divides)
    by_chosen (m ∷ n ∷ ms) D f N few divides D_is f_is N_is = absurd (omega (arith, few))

    -- the plain fraction of an exclusive lookup satisfies its equation
    pub selection_satisfied : (fs : List F) (bs : List (Message F)) (D f : K) → length fs ≡ length bs → are_boolean E.base E.base_eq fs ≡ true → length (chosen_branches E.base E.base_eq fs bs) ≤ 1 → vanishes E denominator (chosen_branches E.base E.base_eq fs bs) ≡ false
        → D ≡ E.ring.add (sum_in E.ring (map (λ b. E.ring.mul (E.embed b.0) (denominator b.1.key)) (zip fs bs))) (sub_in E.ring E.ring.one (sum_in E.ring (map E.embed fs)))
        → f ≡ plain_fraction E denominator (record { flags = Some fs; messages = chosen_branches E.base E.base_eq fs bs })
        → sub_in E.ring (E.ring.mul D f) (exclusive_numerator E fs bs) ≡ E.ring.zero
    selection_satisfied fs bs D f same lawful few divides D_is f_is =
        let ms = chosen_branches E.base E.base_eq fs bs in
        by_chosen ms D f (exclusive_numerator E fs bs) few divides
        (D_is ∙ (λ i. E.ring.add (selected_sum (λ m. denominator m.key) fs bs lawful i) (sub_in E.ring E.ring.one (flags_sum fs bs same lawful i))))
        (f_is ∙ plain_fraction-all laws denominator (record { flags = Some fs; messages = ms }))
        (selected_sum (λ m. E.embed m.multiplicity) fs bs lawful)

module _ {F K : Type 0} {E : Extension F K} (laws : IsLawful E) (challenges : List K) (column row : ℕ) (w : Window F) where
  abbrev tuple_denominators : List F → K
  tuple_denominators = column_denominator E challenges column

  abbrev key_denominators : Key F → K
  key_denominators = key_denominator E challenges

  abbrev branches_in : List (Vec (SymbolicExpression F) Global × SymbolicExpression F) → List (Message F)
  branches_in zs = map (λ b. branch_at E.base w column b.0.items b.1) zs

  -- the denominators of a column's messages are those over the challenges of the column
  flagged_by_column : (fs : List F) (zs : List (Vec (SymbolicExpression F) Global × SymbolicExpression F)) → flagged_denominators E tuple_denominators fs (branches_in zs) ≡ sum_in E.ring (map (λ (b : F × Message F). E.ring.mul (E.embed b.0) (key_denominators b.1.key)) (zip fs (branches_in zs)))
  flagged_by_column [] zs = refl
  flagged_by_column (f ∷ fs) [] = refl
  flagged_by_column (f ∷ fs) (z ∷ zs) =
      ap (E.ring.add (E.ring.mul (E.embed f) (tuple_denominators (branch_at E.base w column z.0.items z.1).key.tuple))) (flagged_by_column fs zs)

  -- with flags or without
  by_flags : (flags : Option (List F)) (zs : List (Vec (SymbolicExpression F) Global × SymbolicExpression F)) (f : K) → IfSome flags (λ fs. length fs ≡ length (branches_in zs))
      → f ≡ plain_fraction E key_denominators (sent E.base E.base_eq flags (branches_in zs)) → fault_of E key_denominators row column (sent E.base E.base_eq flags (branches_in zs)) ≡ None
      → fraction_left E tuple_denominators flags (branches_in zs) f ≡ E.ring.zero
  by_flags None zs f same f_is none =
      additive_satisfied laws challenges column w zs f f_is (additive_none E key_denominators row column (branches_in zs) none)
  by_flags (Some fs) zs f same f_is none =
      let passed = exclusive_none E key_denominators row column fs (chosen_branches E.base E.base_eq fs (branches_in zs)) none in
      selection_satisfied laws key_denominators fs (branches_in zs) _ f same passed.0 (omega (arith, passed.1, chosen_few E.base E.base_eq 0 fs (branches_in zs))) passed.2
      (ap (λ t. E.ring.add t (sub_in E.ring E.ring.one (sum_in E.ring (map E.embed fs)))) (flagged_by_column fs zs)) f_is

  -- there are as many flags as branches
  pub as_many_flags : (flags : Option (Vec (SymbolicExpression F) Global)) (n : ℕ) → ForSome flags (λ fs. length fs.items ≡ n) → IfSome (option_map (λ fs. values E.base w fs.items) flags) (λ fs. length fs ≡ n)
  as_many_flags None n each = tt
  as_many_flags (Some fs) n each = length-map fs.items (value E.base w) ∙ each fs refl

  -- a lookup whose lists have equal lengths
  pub lookup_satisfied : (lookup : Lookup F) (f : K) → HasEqualLengths lookup → f ≡ plain_fraction E key_denominators (sent_at E.base E.base_eq w column lookup) → fault_of E key_denominators row column (sent_at E.base E.base_eq w column lookup) ≡ None
      → fraction_left E tuple_denominators (flags_at E.base w lookup) (branches_at E.base w column lookup) f ≡ E.ring.zero
  lookup_satisfied lookup f lengths f_is none =
      by_flags (flags_at E.base w lookup) (zip lookup.elements.items lookup.multiplicities.items) f
      (as_many_flags lookup.flags (length (branches_at E.base w column lookup)) (λ fs is. lengths.flags fs is ∙ sym (length-branches_at E.base w column lookup lengths))) f_is none
