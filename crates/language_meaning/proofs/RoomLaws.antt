-- What formulas mean takes as much room as it has nodes.
use Rattle.std.proofs.Common.{◌≡◌, ◌+◌, ◌-◌, ◌≤◌, ℕ, Bool, true, false, cond, Result, Ok, Err, nat_le, arith, refl, subst, leb-true}
use Rattle.language.specs.Formulas.{Formula, name, next, number, negative, sum, difference, product, power}
use Rattle.language_meaning.specs.declared.name_fault.NameRefusal.{NameRefusal}
use Rattle.language_meaning.specs.Faults.{◌>>=◌}
use Rattle.language_meaning.specs.Room.{InRoom}
use Rattle.language_meaning.specs.Scopes.{NamesInScope, front_of, meaning, meaning_in, meaning_of_name, next_named, value_in_room}
use Rattle.language_meaning.specs.Values.{Meant, layers_of, powers, node_count_of}
use Rattle.language_meaning.specs.Values as values
use Rattle.language_meaning.proofs.ValueLaws.{size_of_positive}

-- a fact of what a step gives, if it gives something
abbrev pub Given : {A : Type 0} → (A → Type 0) → Result A NameRefusal → Type 0
Given P (Ok x) = P x
Given P (Err e) = Unit {0}

-- what a step gives
given : {A : Type 0} (P : A → Type 0) (r : Result A NameRefusal) (x : A) → Given P r → r ≡ Ok x → P x
given P r x holds e = subst (Given P) e holds

-- a fact of what two steps give
given_next : {A B : Type 0} (P : B → Type 0) (r : Result A NameRefusal) (f : A → Result B NameRefusal) → ((x : A) → r ≡ Ok x → Given P (f x)) → Given P (r >>= f)
given_next P (Ok x) f holds = holds x refl
given_next P (Err e) f holds = tt

-- a fact of what is given where a test holds
given_where : {A : Type 0} (P : A → Type 0) (b : Bool) (x : A) (e : NameRefusal) → (b ≡ true → P x) → Given P (cond b (Ok x) (Err e))
given_where P true x e holds = holds refl
given_where P false x e holds = tt

-- a value and what it leaves are all of the room
abbrev Takes : ℕ → InRoom Meant → Type 0
Takes room x = node_count_of x.0 + x.1 ≡ room

-- a value takes the room of its nodes, if they fit
placed_takes : (at room : ℕ) (m : Meant) → Given (Takes room) (value_in_room at room m)
placed_takes at room m = given_where (Takes room) (nat_le (node_count_of m) room) (m, room - node_count_of m) _ (λ fits. let le : node_count_of m ≤ room = leb-true _ _ fits in omega arith)

-- an operator takes a node, and what stands on its sides the rest
both_take : (names : NamesInScope) (f g : Formula) (room : ℕ) (make : Meant → Meant → Meant) → ((m n : Meant) → node_count_of (make m n) ≡ node_count_of m + node_count_of n + 1)
    → Given (Takes (room - 1)) (meaning_in names f (room - 1)) → ((left : ℕ) → Given (Takes left) (meaning_in names g left))
    → Given (Takes room) (meaning_in names f (room - 1) >>= λ x. meaning_in names g x.1 >>= λ y. Ok (make x.0 y.0, y.1))
both_take names f g room make size first second =
    given_next (Takes room) (meaning_in names f (room - 1)) _ (λ x is.
    given_next (Takes room) (meaning_in names g x.1) _ (λ y is2.
    let one : node_count_of x.0 + x.1 ≡ room - 1 = given (Takes (room - 1)) _ x first is in
    let two : node_count_of y.0 + y.1 ≡ x.1 = given (Takes x.1) _ y (second x.1) is2 in
    omega (arith, size x.0 y.0, size_of_positive x.0)))

-- what a formula means takes the room of its nodes
meaning_in_takes : (names : NamesInScope) (f : Formula) (room : ℕ) → Given (Takes room) (meaning_in names f room)
meaning_in_takes names (name s) room = given_next (Takes room) (meaning_of_name names s) _ (λ m is. placed_takes s.start room m)
meaning_in_takes names (next s) room = given_next (Takes room) (next_named names s) _ (λ m is. placed_takes s.start room m)
meaning_in_takes names (number n s) room = placed_takes s.start room (values.number n)
meaning_in_takes names (negative f) room =
    given_next (Takes room) (meaning_in names f (room - 1)) _ (λ x is.
    let one : node_count_of x.0 + x.1 ≡ room - 1 = given (Takes (room - 1)) _ x (meaning_in_takes names f (room - 1)) is in
    omega (arith, size_of_positive x.0))
meaning_in_takes names (sum f g) room = both_take names f g room values.sum (λ m n. refl) (meaning_in_takes names f (room - 1)) (λ left. meaning_in_takes names g left)
meaning_in_takes names (difference f g) room = both_take names f g room values.difference (λ m n. refl) (meaning_in_takes names f (room - 1)) (λ left. meaning_in_takes names g left)
meaning_in_takes names (product f g) room = both_take names f g room values.product (λ m n. refl) (meaning_in_takes names f (room - 1)) (λ left. meaning_in_takes names g left)
meaning_in_takes names (power f n) room = given_next (Takes room) (meaning_in names f room) _ (λ x is. placed_takes (front_of f) room (powers (n - 1) x.0))

-- what an expression means takes the room of its nodes
pub meaning_takes : (names : NamesInScope) (f : Formula) (room rest : ℕ) (m : Meant) → meaning names f room ≡ Ok (m, rest) → node_count_of m + rest ≡ room
meaning_takes names f room rest m e =
    given (Takes room) (meaning names f room) (m, rest) (given_next (Takes room) (meaning_in names f room) _ (λ x is. given_where (Takes room) (nat_le (layers_of x.0) 1024) x _ (λ fits. given (Takes room) _ x (meaning_in_takes names f room) is))) e

-- what an expression means has at most 1,024 layers
pub meaning_layers : (names : NamesInScope) (f : Formula) (room rest : ℕ) (m : Meant) → meaning names f room ≡ Ok (m, rest) → layers_of m ≤ 1024
meaning_layers names f room rest m e =
    let P : InRoom Meant → Type 0 = λ x. layers_of x.0 ≤ 1024 in
    given P (meaning names f room) (m, rest) (given_next P (meaning_in names f room) _ (λ x is. given_where P (nat_le (layers_of x.0) 1024) x _ (λ fits. leb-true _ _ fits))) e
