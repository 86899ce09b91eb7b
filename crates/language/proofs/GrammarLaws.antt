-- What is read is said by its tokens.
use Rattle.std.proofs.Common.{◌≡◌, ◌<◌, ◌≤◌, ◌++◌, ◌==◌, ◌||◌, ℕ, zero, suc, Bool, true, false, cond, List, [], ◌∷◌, Option, Some, None, Result, Ok, Err, nat_lt, arith, refl, sym, ap, subst, ◌∙◌, append_assoc, inl, inr}
use Rattle.std.proofs.lemmas.Bool.Decides.{eqb_tells, nat_tests}
use Rattle.std.proofs.lemmas.List.{append-nil}
use Rattle.language.specs.declared.fault.Fault.{Fault}
use Rattle.language.specs.declared.fault.Why.{Why}
use Rattle.language.specs.declared.fault.Why.TheVariants as whys
use Rattle.language.specs.declared.token.Span.{Span}
use Rattle.language.specs.declared.token.Kind.TheVariants.{Name, Number, Quoted, Sign, Line, End}
use Rattle.language.specs.declared.token.Word.{Word}
use Rattle.language.specs.declared.token.Word.TheVariants as words
use Rattle.language.specs.Faults.{◌>>=◌}
use Rattle.language.specs.Formulas.{Formula, name, next, number, negative, sum, difference, product, power}
use Rattle.language.specs.Fronts.{Read, named_at, rest_after_sign, number_at, value_or_fault, fault_at_front, rest_if_sign}
use Rattle.language.specs.Grammar.{Level, Says, sums, products, factors, atoms, says_name, says_number, says_next, says_inner, says_atom, says_power, says_negative, says_factor, says_product, says_one, says_sum, says_difference}
use Rattle.language.specs.Reading.{Part, a_factor, a_product, a_sum, an_atom, more_product, more_sum, next_at, next_in, power_at, power_in, reads}
use Rattle.language.specs.Tokens.{Token}

-- the value of a step that did not fail
pub bind_ok : {A B : Type 0} (r : Result A Fault) (f : A → Result B Fault) (y : B) → (r >>= f) ≡ Ok y → (x : A) × (r ≡ Ok x) × (f x ≡ Ok y)
bind_ok (Ok x) f y e = (x, refl, e)
bind_ok (Err d) f y e = absurd cc

abbrev result_of : {A : Type 0} → A → Result A Fault
result_of x = Ok x

some_is : {A : Type 0} (x y : A) → Some x ≡ Some y → x ≡ y
some_is x y e = cc

ok_is : {A : Type 0} (x y : A) → result_of x ≡ result_of y → x ≡ y
ok_is x y e = cc

no_some : {A : Type 0} (x : A) → None ≡ Some x → ⊥
no_some x e = cc

-- a value, and the tokens after it
abbrev pub done : {A : Type 0} → A → List Token → Read A
done x ts = Ok (x, ts)

done_is : {A : Type 0} (x y : A) (ts us : List Token) → done x ts ≡ done y us → (x ≡ y) × (ts ≡ us)
done_is {A} x y ts us e =
    let pair = ok_is (x, ts) (y, us) e in
    (ap (λ (p : A × List Token). p.0) pair, ap (λ (p : A × List Token). p.1) pair)

-- a sign that was taken stood at the front
taken_stands : (k : ℕ) (ts us : List Token) → rest_if_sign k ts ≡ Some us → (s : Span) × (ts ≡ (Sign k, s) ∷ us)
taken_stands k [] us e = absurd cc
taken_stands k ((Name w, s) ∷ ts) us e = absurd cc
taken_stands k ((Number n, s) ∷ ts) us e = absurd cc
taken_stands k ((Quoted, s) ∷ ts) us e = absurd cc
taken_stands k ((Line, s) ∷ ts) us e = absurd cc
taken_stands k ((End, s) ∷ ts) us e = absurd cc
taken_stands k ((Sign b, s) ∷ ts) us e =
    elim (eqb_tells b k) [
      | inl w ↦
          let some : cond (b == k) (Some ts) None ≡ Some ts = ap (λ t. cond t (Some ts) None) w.0 in
          let same : ts ≡ us = some_is ts us (sym some ∙ e) in
          (s, ap (λ n. (Sign n, s) ∷ ts) w.1 ∙ ap (λ vs. (Sign k, s) ∷ vs) same)
      | inr w ↦ (let none : cond (b == k) (Some ts) None ≡ None = ap (λ t. cond t (Some ts) None) w.0 in absurd (no_some us (sym none ∙ e)))
    ]

needed_by : (k : ℕ) (ts us : List Token) (o : Option (List Token)) → rest_if_sign k ts ≡ o → value_or_fault (whys.Sign k) ts o ≡ Ok us → (s : Span) × (ts ≡ (Sign k, s) ∷ us)
needed_by k ts us None is e = absurd cc
needed_by k ts us (Some vs) is e = let same : vs ≡ us = cc in taken_stands k ts us (is ∙ ap (λ (ws : List Token). Some ws) same)

-- a sign that has to be there stands there
needed_stands : (k : ℕ) (ts us : List Token) → rest_after_sign k ts ≡ Ok us → (s : Span) × (ts ≡ (Sign k, s) ∷ us)
needed_stands k ts us e = needed_by k ts us (rest_if_sign k ts) refl e

-- the level that a part is of, and what was said before it
abbrev Found : Part → List Token → Formula → List Token → Type 0
Found a_sum ts f rest = (front : List Token) × (ts ≡ front ++ rest) × Says sums front f
Found a_product ts f rest = (front : List Token) × (ts ≡ front ++ rest) × Says products front f
Found a_factor ts f rest = (front : List Token) × (ts ≡ front ++ rest) × Says factors front f
Found an_atom ts f rest = (front : List Token) × (ts ≡ front ++ rest) × Says atoms front f
Found (more_sum g) ts f rest = (before : List Token) → Says sums before g → (front : List Token) × (ts ≡ front ++ rest) × Says sums (before ++ front) f
Found (more_product g) ts f rest = (before : List Token) → Says products before g → (front : List Token) × (ts ≡ front ++ rest) × Says products (before ++ front) f

-- nothing more was read
ended : (level : Level) (ts rest : List Token) (g f : Formula) → done g ts ≡ done f rest → (before : List Token) → Says level before g → (front : List Token) × (ts ≡ front ++ rest) × Says level (before ++ front) f
ended level ts rest g f e before said =
    let pair = done_is g f ts rest e in
    ([], pair.1, subst (λ xs. Says level xs f) (sym (append-nil before)) (subst (Says level before) pair.0 said))

-- the first part of a sum or a product, and what goes on with it
whole : (level below : Level) (lift : (xs : List Token) (f : Formula) → Says below xs f → Says level xs f) (ts mid rest : List Token) (g f : Formula) → (front : List Token) × (ts ≡ front ++ mid) × Says below front g
    → ((before : List Token) → Says level before g → (front : List Token) × (mid ≡ front ++ rest) × Says level (before ++ front) f) → (front : List Token) × (ts ≡ front ++ rest) × Says level front f
whole level below lift ts mid rest g f first more =
    let w = more first.0 (lift first.0 g first.2) in
    (first.0 ++ w.0, first.1 ∙ ap (λ (xs : List Token). first.0 ++ xs) w.1 ∙ sym (append_assoc first.0 w.0 rest), w.2)

-- one more operator of a sum or a product, and what goes on with it
further : (level below : Level) (k : ℕ) (make : Formula → Formula → Formula) (says : (s : Span) (xs ys : List Token) (f g : Formula) → Says level xs f → Says below ys g → Says level (xs ++ (Sign k, s) ∷ ys) (make f g)) (ts us mid rest : List Token) (g h f : Formula)
    → rest_if_sign k ts ≡ Some us → (front : List Token) × (us ≡ front ++ mid) × Says below front h → ((before : List Token) → Says level before (make g h) → (front : List Token) × (mid ≡ front ++ rest) × Says level (before ++ front) f)
    → (before : List Token) → Says level before g → (front : List Token) × (ts ≡ front ++ rest) × Says level (before ++ front) f
further level below k make says ts us mid rest g h f is second more before said =
    let st = taken_stands k ts us is in
    let sign : Token = (Sign k, st.0) in
    let w = more (before ++ sign ∷ second.0) (says st.0 before second.0 g h said second.2) in (
      sign ∷ (second.0 ++ w.0),
      st.1 ∙ ap (λ (xs : List Token). sign ∷ xs) (second.1 ∙ ap (λ (xs : List Token). second.0 ++ xs) w.1 ∙ sym (append_assoc second.0 w.0 rest)),
      subst (λ xs. Says level xs f) (append_assoc before (sign ∷ second.0) w.0) w.2,
    )

-- a name that was read stands at the front
named_stands : (why : Why) (ts rest : List Token) (t : Span) → named_at why ts ≡ Ok (t, rest) → (w : Word) × (ts ≡ (Name w, t) ∷ rest)
named_stands why [] rest t e = absurd cc
named_stands why ((Number n, s) ∷ ts) rest t e = absurd cc
named_stands why ((Quoted, s) ∷ ts) rest t e = absurd cc
named_stands why ((Line, s) ∷ ts) rest t e = absurd cc
named_stands why ((End, s) ∷ ts) rest t e = absurd cc
named_stands why ((Sign b, s) ∷ ts) rest t e = absurd cc
named_stands why ((Name w, s) ∷ ts) rest t e =
    let pair = done_is s t ts rest e in
    (w, ap (λ (x : Span). (Name w, x) ∷ ts) pair.0 ∙ ap (λ (xs : List Token). (Name w, t) ∷ xs) pair.1)

-- a number that was read stands at the front
number_stands : (ts rest : List Token) (n : ℕ) → number_at ts ≡ Ok (n, rest) → (t : Span) × (ts ≡ (Number n, t) ∷ rest)
number_stands [] rest n e = absurd cc
number_stands ((Name w, s) ∷ ts) rest n e = absurd cc
number_stands ((Quoted, s) ∷ ts) rest n e = absurd cc
number_stands ((Line, s) ∷ ts) rest n e = absurd cc
number_stands ((End, s) ∷ ts) rest n e = absurd cc
number_stands ((Sign b, s) ∷ ts) rest n e = absurd cc
number_stands ((Number m, s) ∷ ts) rest n e =
    let pair = done_is m n ts rest e in
    (s, ap (λ (x : ℕ). (Number x, s) ∷ ts) pair.0 ∙ ap (λ (xs : List Token). (Number n, s) ∷ xs) pair.1)

exponent_by : {A : Type 0} (n : ℕ) (d : Fault) (x y : A) (t : Bool) → ((n == 0) || nat_lt 64 n) ≡ t → cond t (Err d) (Ok x) ≡ Ok y → (0 < n) × (n ≤ 64) × (x ≡ y)
exponent_by n d x y true is e = absurd cc
exponent_by n d x y false is e = (grind (arith, nat_tests), grind (arith, nat_tests), cc)

-- an exponent that was read is from 1 to 64
exponent : {A : Type 0} (n : ℕ) (d : Fault) (x y : A) → cond ((n == 0) || nat_lt 64 n) (Err d) (Ok x) ≡ Ok y → (0 < n) × (n ≤ 64) × (x ≡ y)
exponent n d x y e = exponent_by n d x y ((n == 0) || nat_lt 64 n) refl e

power_by : (ts rest : List Token) (g f : Formula) (o : Option (List Token)) → rest_if_sign 94 ts ≡ o → power_in g ts o ≡ Ok (f, rest) → (before : List Token) → Says atoms before g → (front : List Token) × (ts ≡ front ++ rest) × Says factors (before ++ front) f
power_by ts rest g f None is e before said = ended factors ts rest g f e before (says_atom before g said)
power_by ts rest g f (Some us) is e before said =
    let st = taken_stands 94 ts us is in
    let b = bind_ok (number_at us) (λ x. cond ((x.0 == 0) || nat_lt 64 x.0) (fault_at_front whys.Exponent us) (Ok (power g x.0, x.1))) (f, rest) e in
    let n = b.0.0 in
    let num = number_stands us b.0.1 n b.1 in
    let w = exponent n _ (power g n, b.0.1) (f, rest) b.2 in
    let same : power g n ≡ f = ap (λ (x : Formula × List Token). x.0) w.2 in
    let over : b.0.1 ≡ rest = ap (λ (x : Formula × List Token). x.1) w.2 in (
      (Sign 94, st.0) ∷ (Number n, num.0) ∷ [],
      st.1 ∙ ap (λ (xs : List Token). (Sign 94, st.0) ∷ xs) (num.1 ∙ ap (λ (xs : List Token). (Number n, num.0) ∷ xs) over),
      subst (Says factors (before ++ (Sign 94, st.0) ∷ (Number n, num.0) ∷ [])) same (says_power st.0 num.0 n before g w.0 w.1 said),
    )

-- an atom with what stands behind a ^
power_found : (ts rest : List Token) (g f : Formula) → power_at g ts ≡ Ok (f, rest) → (before : List Token) → Says atoms before g → (front : List Token) × (ts ≡ front ++ rest) × Says factors (before ++ front) f
unfolding power_at
power_found ts rest g f e before said = power_by ts rest g f (rest_if_sign 94 ts) refl e before said

plain : (w : Word) (s : Span) (ts rest : List Token) (f : Formula) → done (name s) ts ≡ done f rest → (front : List Token) × ((Name w, s) ∷ ts ≡ front ++ rest) × Says atoms front f
plain w s ts rest f e =
    let pair = done_is (name s) f ts rest e in
    ((Name w, s) ∷ [], ap (λ (xs : List Token). (Name w, s) ∷ xs) pair.1, subst (Says atoms ((Name w, s) ∷ [])) pair.0 (says_name w s))

next_by : (s : Span) (ts rest : List Token) (f : Formula) (o : Option (List Token)) → rest_if_sign 40 ts ≡ o → next_in s ts o ≡ Ok (f, rest) → (front : List Token) × ((Name words.Next, s) ∷ ts ≡ front ++ rest) × Says atoms front f
next_by s ts rest f None is e = plain words.Next s ts rest f e
next_by s ts rest f (Some us) is e =
    let open_at = taken_stands 40 ts us is in
    let b = bind_ok (named_at whys.Column us) (λ x. rest_after_sign 41 x.1 >>= λ r. Ok (next x.0, r)) (f, rest) e in
    let column = named_stands whys.Column us b.0.1 b.0.0 b.1 in
    let d = bind_ok (rest_after_sign 41 b.0.1) (λ r. Ok (next b.0.0, r)) (f, rest) b.2 in
    let close = needed_stands 41 b.0.1 d.0 d.1 in
    let same : next b.0.0 ≡ f = ap (λ (x : Formula × List Token). x.0) (ok_is (next b.0.0, d.0) (f, rest) d.2) in
    let over : d.0 ≡ rest = ap (λ (x : Formula × List Token). x.1) (ok_is (next b.0.0, d.0) (f, rest) d.2) in
    let front : List Token = (Name words.Next, s) ∷ (Sign 40, open_at.0) ∷ (Name column.0, b.0.0) ∷ (Sign 41, close.0) ∷ [] in (
      front,
      ap (λ (xs : List Token). (Name words.Next, s) ∷ xs) (open_at.1 ∙ ap (λ (xs : List Token). (Sign 40, open_at.0) ∷ xs) (column.1 ∙ ap (λ (xs : List Token). (Name column.0, b.0.0) ∷ xs) (close.1 ∙ ap (λ (xs : List Token). (Sign 41, close.0) ∷ xs) over))),
      subst (Says atoms front) same (says_next s open_at.0 b.0.0 close.0 column.0),
    )

-- a name, or that of the next row
name_found : (w : Word) (s : Span) (ts rest : List Token) (f : Formula) → next_at w s ts ≡ Ok (f, rest) → (front : List Token) × ((Name w, s) ∷ ts ≡ front ++ rest) × Says atoms front f
unfolding next_at
name_found words.Next s ts rest f e = next_by s ts rest f (rest_if_sign 40 ts) refl e
name_found w s ts rest f e = plain w s ts rest f e

-- what `reads` gives within so many layers is said by its tokens
abbrev AllFound : ℕ → Type 0
AllFound n = (part : Part) (ts rest : List Token) (f : Formula) → reads n part ts ≡ Ok (f, rest) → Found part ts f rest

-- what goes on with a sum
abbrev sum_in : ℕ → Formula → List Token → Option (List Token) → Option (List Token) → Read Formula
sum_in n g ts plus minus =
    elim plus [
      | Some us ↦ reads n a_product us >>= λ x. reads n (more_sum (sum g x.0)) x.1
      | None ↦
          elim minus [
            | Some us ↦ reads n a_product us >>= λ x. reads n (more_sum (difference g x.0)) x.1
            | None ↦ Ok (g, ts)
          ]
    ]

-- what goes on with a product
abbrev product_in : ℕ → Formula → List Token → Option (List Token) → Read Formula
product_in n g ts o =
    elim o [
      | Some us ↦ reads n a_factor us >>= λ x. reads n (more_product (product g x.0)) x.1
      | None ↦ Ok (g, ts)
    ]

-- a factor, by whether a minus stands before it
abbrev factor_in : ℕ → List Token → Option (List Token) → Read Formula
factor_in n ts o =
    elim o [
      | Some us ↦ reads n a_factor us >>= λ x. Ok (negative x.0, x.1)
      | None ↦ reads n an_atom ts >>= λ x. power_at x.0 x.1
    ]

-- an atom that is no word and no number
abbrev inner_in : ℕ → List Token → Option (List Token) → Read Formula
inner_in n ts o =
    elim o [
      | Some us ↦ reads n a_sum us >>= λ x. rest_after_sign 41 x.1 >>= λ r. Ok (x.0, r)
      | None ↦ fault_at_front whys.Expression ts
    ]

-- one more term, or the end of a sum
sum_by : (n : ℕ) (ih : AllFound n) (g : Formula) (ts rest : List Token) (f : Formula) (plus minus : Option (List Token)) → rest_if_sign 43 ts ≡ plus → rest_if_sign 45 ts ≡ minus → sum_in n g ts plus minus ≡ Ok (f, rest) → Found (more_sum g) ts f rest
sum_by n ih g ts rest f (Some us) minus is is_minus e =
    let b = bind_ok (reads n a_product us) (λ x. reads n (more_sum (sum g x.0)) x.1) (f, rest) e in
    further sums products 43 sum says_sum ts us b.0.1 rest g b.0.0 f is (ih a_product us b.0.1 b.0.0 b.1) (ih (more_sum (sum g b.0.0)) b.0.1 rest f b.2)
sum_by n ih g ts rest f None (Some us) is is_minus e =
    let b = bind_ok (reads n a_product us) (λ x. reads n (more_sum (difference g x.0)) x.1) (f, rest) e in
    further sums products 45 difference says_difference ts us b.0.1 rest g b.0.0 f is_minus (ih a_product us b.0.1 b.0.0 b.1) (ih (more_sum (difference g b.0.0)) b.0.1 rest f b.2)
sum_by n ih g ts rest f None None is is_minus e = ended sums ts rest g f e

-- one more factor, or the end of a product
product_by : (n : ℕ) (ih : AllFound n) (g : Formula) (ts rest : List Token) (f : Formula) (o : Option (List Token)) → rest_if_sign 42 ts ≡ o → product_in n g ts o ≡ Ok (f, rest) → Found (more_product g) ts f rest
product_by n ih g ts rest f (Some us) is e =
    let b = bind_ok (reads n a_factor us) (λ x. reads n (more_product (product g x.0)) x.1) (f, rest) e in
    further products factors 42 product says_product ts us b.0.1 rest g b.0.0 f is (ih a_factor us b.0.1 b.0.0 b.1) (ih (more_product (product g b.0.0)) b.0.1 rest f b.2)
product_by n ih g ts rest f None is e = ended products ts rest g f e

-- a factor behind a minus, or an atom with its exponent
factor_by : (n : ℕ) (ih : AllFound n) (ts rest : List Token) (f : Formula) (o : Option (List Token)) → rest_if_sign 45 ts ≡ o → factor_in n ts o ≡ Ok (f, rest) → Found a_factor ts f rest
factor_by n ih ts rest f (Some us) is e =
    let st = taken_stands 45 ts us is in
    let b = bind_ok (reads n a_factor us) (λ x. Ok (negative x.0, x.1)) (f, rest) e in
    let p = ih a_factor us b.0.1 b.0.0 b.1 in
    let pair = ok_is (negative b.0.0, b.0.1) (f, rest) b.2 in
    let same : negative b.0.0 ≡ f = ap (λ (x : Formula × List Token). x.0) pair in
    let over : b.0.1 ≡ rest = ap (λ (x : Formula × List Token). x.1) pair in (
      (Sign 45, st.0) ∷ p.0,
      st.1 ∙ ap (λ (xs : List Token). (Sign 45, st.0) ∷ xs) (p.1 ∙ ap (λ (xs : List Token). p.0 ++ xs) over),
      subst (Says factors ((Sign 45, st.0) ∷ p.0)) same (says_negative st.0 p.0 b.0.0 p.2),
    )
factor_by n ih ts rest f None is e =
    let b = bind_ok (reads n an_atom ts) (λ x. power_at x.0 x.1) (f, rest) e in
    let p = ih an_atom ts b.0.1 b.0.0 b.1 in
    let w = power_found b.0.1 rest b.0.0 f b.2 p.0 p.2 in
    (p.0 ++ w.0, p.1 ∙ ap (λ (xs : List Token). p.0 ++ xs) w.1 ∙ sym (append_assoc p.0 w.0 rest), w.2)

-- a sum in parentheses
inner_by : (n : ℕ) (ih : AllFound n) (ts rest : List Token) (f : Formula) (o : Option (List Token)) → rest_if_sign 40 ts ≡ o → inner_in n ts o ≡ Ok (f, rest) → Found an_atom ts f rest
inner_by n ih ts rest f None is e = absurd cc
inner_by n ih ts rest f (Some us) is e =
    let st = taken_stands 40 ts us is in
    let b = bind_ok (reads n a_sum us) (λ x. rest_after_sign 41 x.1 >>= λ r. Ok (x.0, r)) (f, rest) e in
    let p = ih a_sum us b.0.1 b.0.0 b.1 in
    let d = bind_ok (rest_after_sign 41 b.0.1) (λ r. Ok (b.0.0, r)) (f, rest) b.2 in
    let close = needed_stands 41 b.0.1 d.0 d.1 in
    let pair = ok_is (b.0.0, d.0) (f, rest) d.2 in
    let same : b.0.0 ≡ f = ap (λ (x : Formula × List Token). x.0) pair in
    let over : d.0 ≡ rest = ap (λ (x : Formula × List Token). x.1) pair in
    let last : List Token = (Sign 41, close.0) ∷ [] in (
      (Sign 40, st.0) ∷ (p.0 ++ last),
      st.1 ∙ ap (λ (xs : List Token). (Sign 40, st.0) ∷ xs) (p.1 ∙ ap (λ (xs : List Token). p.0 ++ xs) (close.1 ∙ ap (λ (xs : List Token). (Sign 41, close.0) ∷ xs) over) ∙ sym (append_assoc p.0 last rest)),
      subst (Says atoms ((Sign 40, st.0) ∷ (p.0 ++ last))) same (says_inner st.0 close.0 p.0 b.0.0 p.2),
    )

found : (n : ℕ) → AllFound n
unfolding reads
found zero part ts rest f e = absurd cc
found (suc n) a_sum ts rest f e =
    let b = bind_ok (reads n a_product ts) (λ x. reads n (more_sum x.0) x.1) (f, rest) e in
    whole sums products says_one ts b.0.1 rest b.0.0 f (found n a_product ts b.0.1 b.0.0 b.1) (found n (more_sum b.0.0) b.0.1 rest f b.2)
found (suc n) a_product ts rest f e =
    let b = bind_ok (reads n a_factor ts) (λ x. reads n (more_product x.0) x.1) (f, rest) e in
    whole products factors says_factor ts b.0.1 rest b.0.0 f (found n a_factor ts b.0.1 b.0.0 b.1) (found n (more_product b.0.0) b.0.1 rest f b.2)
found (suc n) (more_sum g) ts rest f e = sum_by n (found n) g ts rest f (rest_if_sign 43 ts) (rest_if_sign 45 ts) refl refl e
found (suc n) (more_product g) ts rest f e = product_by n (found n) g ts rest f (rest_if_sign 42 ts) refl e
found (suc n) a_factor ts rest f e = factor_by n (found n) ts rest f (rest_if_sign 45 ts) refl e
found (suc n) an_atom ((Name w, s) ∷ ts) rest f e = name_found w s ts rest f e
found (suc n) an_atom ((Number v, s) ∷ ts) rest f e =
    let pair = done_is (number v s) f ts rest e in
    ((Number v, s) ∷ [], ap (λ (xs : List Token). (Number v, s) ∷ xs) pair.1, subst (Says atoms ((Number v, s) ∷ [])) pair.0 (says_number v s))
found (suc n) an_atom ts rest f e = inner_by n (found n) ts rest f (rest_if_sign 40 ts) refl e

-- the formula at the front is said by its tokens
pub formula_found : (n : ℕ) (ts rest : List Token) (f : Formula) → reads n a_sum ts ≡ Ok (f, rest) → (front : List Token) × (ts ≡ front ++ rest) × Says sums front f
formula_found n ts rest f e = found n a_sum ts rest f e
