-- What tokens say is read, unless it has too many layers.
use Rattle.std.proofs.Common.{◌≡◌, ◌<◌, ◌≤◌, ◌++◌, ◌==◌, ◌||◌, ◌⊎◌, ℕ, zero, suc, false, List, [], ◌∷◌, None, Ok, Err, nat_lt, arith, refl, sym, ap, subst, ◌∙◌, append_assoc, inl, inr}
use Rattle.std.proofs.lemmas.Bool.Decides.{nat_tests}
use Rattle.language.specs.declared.fault.Why.TheVariants as whys
use Rattle.language.specs.declared.token.Span.{Span}
use Rattle.language.specs.declared.token.Kind.TheVariants.{Name, Number, Sign}
use Rattle.language.specs.declared.token.Word.{Word}
use Rattle.language.specs.declared.token.Word.TheVariants as words
use Rattle.language.specs.Faults.{◌>>=◌}
use Rattle.language.specs.Formulas.{Formula, name, next, number, negative, sum, difference, product, power}
use Rattle.language.specs.Fronts.{Read, at_front, rest_after_sign, rest_if_sign}
use Rattle.language.specs.Grammar.{IsOver, IsReadAs, Level, Says, sums, products, factors, atoms, says_name, says_number, says_next, says_inner, says_atom, says_power, says_negative, says_factor, says_product, says_one, says_sum, says_difference}
use Rattle.language.specs.Reading.{Part, a_factor, a_product, a_sum, an_atom, more_product, more_sum, next_at, power_at, reads}
use Rattle.language.specs.Tokens.{Token}
use Rattle.language.proofs.GrammarLaws.{done}

-- an expression has too many layers
abbrev IsDeep : Read Formula → Type 0
IsDeep read = (at : ℕ) × (read ≡ Err (record { at = at; why = whys.Deep }))

-- reading gives this, or an expression has too many layers
abbrev Agrees : Read Formula → Read Formula → Type 0
Agrees read other = (read ≡ other) ⊎ IsDeep read

-- what is too deep stays so
deep_bind : (read : Read Formula) (f : Formula × List Token → Read Formula) → IsDeep read → IsDeep (read >>= f)
deep_bind read f deep = (deep.0, ap (λ (r : Read Formula). r >>= f) deep.1)

-- reading on from what agrees
agrees_bind : (read : Read Formula) (x : Formula) (ts : List Token) (f : Formula × List Token → Read Formula) → Agrees read (done x ts) → Agrees (read >>= f) (f (x, ts))
agrees_bind read x ts f (inl is) = inl (ap (λ (r : Read Formula). r >>= f) is)
agrees_bind read x ts f (inr deep) = inr (deep_bind read f deep)

-- one agreement after another
agrees_then : (a b c : Read Formula) → Agrees a b → Agrees b c → Agrees a c
agrees_then a b c (inl is) (inl same) = inl (is ∙ same)
agrees_then a b c (inl is) (inr deep) = inr (deep.0, is ∙ deep.1)
agrees_then a b c (inr deep) _ = inr deep

-- What stands after tokens of a level: nothing with which an atom or a factor goes on, after a product
-- and a sum nothing either with which a product does
abbrev Stops : Level → List Token → Type 0
Stops atoms rest = rest_if_sign 40 rest ≡ None
Stops factors rest = (rest_if_sign 40 rest ≡ None) × (rest_if_sign 94 rest ≡ None)
Stops products rest = (rest_if_sign 40 rest ≡ None) × (rest_if_sign 94 rest ≡ None)
Stops sums rest = (rest_if_sign 40 rest ≡ None) × (rest_if_sign 94 rest ≡ None) × (rest_if_sign 42 rest ≡ None)

-- Tokens of a level are read, before what stops there: those of a sum or a product as what goes on
-- with it, within some layers
abbrev IsRead : Level → List Token → Formula → Type 0
IsRead atoms xs f = (n : ℕ) (rest : List Token) → Stops atoms rest → Agrees (reads n an_atom (xs ++ rest)) (done f rest)
IsRead factors xs f = (n : ℕ) (rest : List Token) → Stops factors rest → Agrees (reads n a_factor (xs ++ rest)) (done f rest)
IsRead products xs f = (n : ℕ) (rest : List Token) → Stops products rest → (m : ℕ) × Agrees (reads n a_product (xs ++ rest)) (reads m (more_product f) rest)
IsRead sums xs f = (n : ℕ) (rest : List Token) → Stops sums rest → (m : ℕ) × Agrees (reads n a_sum (xs ++ rest)) (reads m (more_sum f) rest)

-- no layer is left
none_left : (part : Part) (ts : List Token) (other : Read Formula) → Agrees (reads zero part ts) other
unfolding reads
none_left part ts other = inr (at_front ts, refl)

-- a product ends where no factor follows
product_ends : (m : ℕ) (f : Formula) (rest : List Token) → rest_if_sign 42 rest ≡ None → Agrees (reads m (more_product f) rest) (done f rest)
unfolding reads
product_ends zero f rest none = inr (at_front rest, refl)
product_ends (suc m) f rest none = inl (rw (reads, none) refl)

-- a sum ends where no product follows
sum_ends : (m : ℕ) (f : Formula) (rest : List Token) → rest_if_sign 43 rest ≡ None → rest_if_sign 45 rest ≡ None → Agrees (reads m (more_sum f) rest) (done f rest)
unfolding reads
sum_ends zero f rest none no_minus = inr (at_front rest, refl)
sum_ends (suc m) f rest none no_minus = inl (rw (reads, none, no_minus) refl)

-- a whole product, before what is no factor
product_read : (xs : List Token) (f : Formula) (n : ℕ) (rest : List Token) → IsRead products xs f → Stops sums rest → Agrees (reads n a_product (xs ++ rest)) (done f rest)
product_read xs f n rest is stops =
    let w = is n rest (stops.0, stops.1) in
    agrees_then _ _ _ w.1 (product_ends w.0 f rest stops.2)

-- one more product, behind a sign of a sum
sum_more : (k m : ℕ) (s : Span) (us : List Token) (f g : Formula) (rest : List Token) (make : Formula → Formula → Formula)
    → ((n : ℕ) → reads (suc n) (more_sum f) ((Sign k, s) ∷ (us ++ rest)) ≡ (reads n a_product (us ++ rest) >>= λ x. reads n (more_sum (make f x.0)) x.1))
    → IsRead products us g → Stops sums rest → (j : ℕ) × Agrees (reads m (more_sum f) ((Sign k, s) ∷ (us ++ rest))) (reads j (more_sum (make f g)) rest)
sum_more k zero s us f g rest make step is stops = (zero, none_left (more_sum f) _ _)
sum_more k (suc m) s us f g rest make step is stops =
    (m, subst (λ r. Agrees r (reads m (more_sum (make f g)) rest)) (sym (step m)) (agrees_bind (reads m a_product (us ++ rest)) g rest (λ x. reads m (more_sum (make f x.0)) x.1) (product_read us g m rest is stops)))

-- one more factor, behind the sign of a product
product_more : (m : ℕ) (s : Span) (us : List Token) (f g : Formula) (rest : List Token) → IsRead factors us g → Stops products rest → (j : ℕ) × Agrees (reads m (more_product f) ((Sign 42, s) ∷ (us ++ rest))) (reads j (more_product (product f g)) rest)
unfolding reads
product_more zero s us f g rest is stops = (zero, inr (_, refl))
product_more (suc m) s us f g rest is stops = (m, agrees_bind (reads m a_factor (us ++ rest)) g rest (λ x. reads m (more_product (product f x.0)) x.1) (is m rest stops))

-- an atom begins with no minus
atom_first : (xs : List Token) (f : Formula) (rest : List Token) → Says atoms xs f → rest_if_sign 45 (xs ++ rest) ≡ None
atom_first xs f rest (says_name w s) = refl
atom_first xs f rest (says_number n s) = refl
atom_first xs f rest (says_next s o t c w) = refl
atom_first xs f rest (says_inner o c ts g p) = refl

-- a name before what is no parenthesis
name_read : (w : Word) (s : Span) (rest : List Token) → rest_if_sign 40 rest ≡ None → next_at w s rest ≡ done (name s) rest
unfolding next_at
name_read words.Next s rest none = rw (next_at, none) refl
name_read w s rest none = refl

-- nothing stands behind an atom that is no power
power_none : (f : Formula) (rest : List Token) → rest_if_sign 94 rest ≡ None → power_at f rest ≡ done f rest
unfolding power_at
power_none f rest none = rw (power_at, none) refl

-- an exponent from 1 to 64
power_some : (f : Formula) (s t : Span) (n : ℕ) (rest : List Token) → 0 < n → n ≤ 64 → power_at f ((Sign 94, s) ∷ (Number n, t) ∷ rest) ≡ done (power f n) rest
unfolding power_at
power_some f s t n rest low high =
    let test : ((n == 0) || nat_lt 64 n) ≡ false = grind (arith, nat_tests) in
    rw (power_at, test) refl

-- the name of a column in parentheses behind `next`
next_read : (s o t c : Span) (w : Word) (rest : List Token) → next_at words.Next s ((Sign 40, o) ∷ (Name w, t) ∷ (Sign 41, c) ∷ rest) ≡ done (next t) rest
unfolding next_at
next_read s o t c w rest = refl

-- a sum in parentheses
inner_read : (n : ℕ) (o c : Span) (ts : List Token) (f : Formula) (rest : List Token) → IsRead sums ts f → Agrees (reads (suc n) an_atom ((Sign 40, o) ∷ ((ts ++ (Sign 41, c) ∷ []) ++ rest))) (done f rest)
unfolding reads
inner_read n o c ts f rest is =
    let close : List Token = (Sign 41, c) ∷ rest in
    let w = is n close (refl, refl, refl) in
    let sum : Agrees (reads n a_sum (ts ++ close)) (done f close) = agrees_then _ _ _ w.1 (sum_ends w.0 f close refl refl) in
    subst (λ us. Agrees (reads n a_sum us >>= λ x. rest_after_sign 41 x.1 >>= λ r. Ok (x.0, r)) (done f rest)) (sym (append_assoc ts ((Sign 41, c) ∷ []) rest)) (agrees_bind (reads n a_sum (ts ++ close)) f close (λ x. rest_after_sign 41 x.1 >>= λ r. Ok (x.0, r)) sum)

-- an atom with what stands behind it
factor_read : (n : ℕ) (ts mid : List Token) (g f : Formula) (rest : List Token) → rest_if_sign 45 (ts ++ mid) ≡ None → Agrees (reads n an_atom (ts ++ mid)) (done g mid) → power_at g mid ≡ done f rest → Agrees (reads (suc n) a_factor (ts ++ mid)) (done f rest)
unfolding reads
factor_read n ts mid g f rest none atom is =
    let step : reads (suc n) a_factor (ts ++ mid) ≡ (reads n an_atom (ts ++ mid) >>= λ x. power_at x.0 x.1) = rw (reads, none) refl in
    subst (λ r. Agrees r (done f rest)) (sym step) (agrees_then _ _ _ (agrees_bind (reads n an_atom (ts ++ mid)) g mid (λ x. power_at x.0 x.1) atom) (inl is))

name_layers : (w : Word) (s : Span) (n : ℕ) (rest : List Token) → rest_if_sign 40 rest ≡ None → Agrees (reads n an_atom ((Name w, s) ∷ rest)) (done (name s) rest)
unfolding reads
name_layers w s zero rest none = inr (at_front ((Name w, s) ∷ rest), refl)
name_layers w s (suc n) rest none = inl (name_read w s rest none)

number_layers : (v : ℕ) (s : Span) (n : ℕ) (rest : List Token) → Agrees (reads n an_atom ((Number v, s) ∷ rest)) (done (number v s) rest)
unfolding reads
number_layers v s zero rest = inr (at_front ((Number v, s) ∷ rest), refl)
number_layers v s (suc n) rest = inl refl

next_layers : (s o t c : Span) (w : Word) (n : ℕ) (rest : List Token) → Agrees (reads n an_atom ((Name words.Next, s) ∷ (Sign 40, o) ∷ (Name w, t) ∷ (Sign 41, c) ∷ rest)) (done (next t) rest)
unfolding reads
next_layers s o t c w zero rest = inr (s.start, refl)
next_layers s o t c w (suc n) rest = inl (next_read s o t c w rest)

inner_layers : (o c : Span) (ts : List Token) (f : Formula) (n : ℕ) (rest : List Token) → IsRead sums ts f → Agrees (reads n an_atom ((Sign 40, o) ∷ ((ts ++ (Sign 41, c) ∷ []) ++ rest))) (done f rest)
inner_layers o c ts f zero rest is = none_left an_atom _ _
inner_layers o c ts f (suc n) rest is = inner_read n o c ts f rest is

factor_layers : (ts mid : List Token) (g f : Formula) (n : ℕ) (rest : List Token) → rest_if_sign 45 (ts ++ mid) ≡ None → ((m : ℕ) → Agrees (reads m an_atom (ts ++ mid)) (done g mid)) → power_at g mid ≡ done f rest → Agrees (reads n a_factor (ts ++ mid)) (done f rest)
factor_layers ts mid g f zero rest none atom is = none_left a_factor _ _
factor_layers ts mid g f (suc n) rest none atom is = factor_read n ts mid g f rest none (atom n) is

negative_layers : (s : Span) (ts : List Token) (f : Formula) (n : ℕ) (rest : List Token) → ((m : ℕ) → Agrees (reads m a_factor (ts ++ rest)) (done f rest)) → Agrees (reads n a_factor ((Sign 45, s) ∷ (ts ++ rest))) (done (negative f) rest)
unfolding reads
negative_layers s ts f zero rest factor = inr (s.start, refl)
negative_layers s ts f (suc n) rest factor = agrees_bind (reads n a_factor (ts ++ rest)) f rest (λ x. Ok (negative x.0, x.1)) (factor n)

product_layers : (ts : List Token) (f : Formula) (n : ℕ) (rest : List Token) → ((m : ℕ) → Agrees (reads m a_factor (ts ++ rest)) (done f rest)) → (m : ℕ) × Agrees (reads n a_product (ts ++ rest)) (reads m (more_product f) rest)
unfolding reads
product_layers ts f zero rest factor = (zero, inr (at_front (ts ++ rest), refl))
product_layers ts f (suc n) rest factor = (n, agrees_bind (reads n a_factor (ts ++ rest)) f rest (λ x. reads n (more_product x.0) x.1) (factor n))

sum_layers : (ts : List Token) (f : Formula) (n : ℕ) (rest : List Token) → ((m : ℕ) → Agrees (reads m a_product (ts ++ rest)) (done f rest)) → (m : ℕ) × Agrees (reads n a_sum (ts ++ rest)) (reads m (more_sum f) rest)
unfolding reads
sum_layers ts f zero rest whole = (zero, inr (at_front (ts ++ rest), refl))
sum_layers ts f (suc n) rest whole = (n, agrees_bind (reads n a_product (ts ++ rest)) f rest (λ x. reads n (more_sum x.0) x.1) (whole n))

plus_step : (s : Span) (us : List Token) (f : Formula) (rest : List Token) (n : ℕ) → reads (suc n) (more_sum f) ((Sign 43, s) ∷ (us ++ rest)) ≡ (reads n a_product (us ++ rest) >>= λ x. reads n (more_sum (sum f x.0)) x.1)
unfolding reads
plus_step s us f rest n = refl

minus_step : (s : Span) (us : List Token) (f : Formula) (rest : List Token) (n : ℕ) → reads (suc n) (more_sum f) ((Sign 45, s) ∷ (us ++ rest)) ≡ (reads n a_product (us ++ rest) >>= λ x. reads n (more_sum (difference f x.0)) x.1)
unfolding reads
minus_step s us f rest n = refl

-- tokens that say a formula are read as it
is_read : (level : Level) (xs : List Token) (f : Formula) → Says level xs f → IsRead level xs f
is_read atoms xs f (says_name w s) = λ n rest stops. name_layers w s n rest stops
is_read atoms xs f (says_number v s) = λ n rest stops. number_layers v s n rest
is_read atoms xs f (says_next s o t c w) = λ n rest stops. next_layers s o t c w n rest
is_read atoms xs f (says_inner o c ts g p) = λ n rest stops. inner_layers o c ts g n rest (is_read sums ts g p)
is_read factors xs f (says_atom ts g p) = λ n rest stops. factor_layers ts rest g g n rest (atom_first ts g rest p) (λ m. is_read atoms ts g p m rest stops.0) (power_none g rest stops.1)
is_read factors xs f (says_power s t v ts g low high p) = λ n rest stops.
    let behind : List Token = (Sign 94, s) ∷ (Number v, t) ∷ [] in
    subst (λ us. Agrees (reads n a_factor us) (done (power g v) rest)) (sym (append_assoc ts behind rest))
    (factor_layers ts (behind ++ rest) g (power g v) n rest (atom_first ts g (behind ++ rest) p) (λ m. is_read atoms ts g p m (behind ++ rest) refl) (power_some g s t v rest low high))
is_read factors xs f (says_negative s ts g p) = λ n rest stops. negative_layers s ts g n rest (λ m. is_read factors ts g p m rest stops)
is_read products xs f (says_factor ts g p) = λ n rest stops. product_layers ts g n rest (λ m. is_read factors ts g p m rest stops)
is_read products xs f (says_product s ts us g h p q) = λ n rest stops.
    let w = is_read products ts g p n ((Sign 42, s) ∷ (us ++ rest)) (refl, refl) in
    let v = product_more w.0 s us g h rest (is_read factors us h q) stops in
    (v.0, subst (λ vs. Agrees (reads n a_product vs) (reads v.0 (more_product (product g h)) rest)) (sym (append_assoc ts ((Sign 42, s) ∷ us) rest)) (agrees_then _ _ _ w.1 v.1))
is_read sums xs f (says_one ts g p) = λ n rest stops. sum_layers ts g n rest (λ m. product_read ts g m rest (is_read products ts g p) stops)
is_read sums xs f (says_sum s ts us g h p q) = λ n rest stops.
    let w = is_read sums ts g p n ((Sign 43, s) ∷ (us ++ rest)) (refl, refl, refl) in
    let v = sum_more 43 w.0 s us g h rest sum (plus_step s us g rest) (is_read products us h q) stops in
    (v.0, subst (λ vs. Agrees (reads n a_sum vs) (reads v.0 (more_sum (sum g h)) rest)) (sym (append_assoc ts ((Sign 43, s) ∷ us) rest)) (agrees_then _ _ _ w.1 v.1))
is_read sums xs f (says_difference s ts us g h p q) = λ n rest stops.
    let w = is_read sums ts g p n ((Sign 45, s) ∷ (us ++ rest)) (refl, refl, refl) in
    let v = sum_more 45 w.0 s us g h rest difference (minus_step s us g rest) (is_read products us h q) stops in
    (v.0, subst (λ vs. Agrees (reads n a_sum vs) (reads v.0 (more_sum (difference g h)) rest)) (sym (append_assoc ts ((Sign 45, s) ∷ us) rest)) (agrees_then _ _ _ w.1 v.1))

-- tokens that say a sum are read as it, where no expression goes on
pub sum_read : (n : ℕ) (ts rest : List Token) (f : Formula) → Says sums ts f → IsOver rest → IsReadAs (reads n a_sum (ts ++ rest)) f rest
sum_read n ts rest f said over =
    let w = is_read sums ts f said n rest (over.no_parenthesis, over.no_power, over.no_product) in
    agrees_then (reads n a_sum (ts ++ rest)) (reads w.0 (more_sum f) rest) (done f rest) w.1 (sum_ends w.0 f rest over.no_sum over.no_difference)
