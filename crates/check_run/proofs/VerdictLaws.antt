-- A verdict of several parts.
use Rattle.std.proofs.Common.{◌≡◌, ◌↔◌, ◌&&◌, ◌||◌, Bool, true, false, IsTrue, not, refl, subst, sym}
use Rattle.std.proofs.lemmas.Bool.{true≢false}

-- both of two answers are yes exactly if what each is about is so
both_true : {P Q : Type 0} (b h : Bool) → IsTrue b ↔ P → IsTrue h ↔ Q → IsTrue (b && h) ↔ (P × Q)
both_true true true p q = (λ t. (p.0 refl, q.0 refl), λ pq. refl)
both_true true false p q = (λ t. absurd (true≢false (sym t)), λ pq. q.1 pq.1)
both_true false h p q = (λ t. absurd (true≢false (sym t)), λ pq. p.1 pq.0)

-- what is looked at only if it is asked
if_asked : {P : Type 0} (asked all : Bool) → IsTrue all ↔ P → IsTrue (not asked || all) ↔ (IsTrue asked → P)
if_asked true all p = (λ t asks. p.0 t, λ given. p.1 (given refl))
if_asked false all p = (λ t asks. absurd (true≢false (sym asks)), λ given. refl)

-- so is an answer that is yes exactly if it is good and all is so that is asked
good_if_asked : {P A : Type 0} (good asked all answer : Bool) → answer ≡ (good && (not asked || all)) → IsTrue good ↔ P → IsTrue all ↔ A → IsTrue answer ↔ (P × (IsTrue asked → A))
good_if_asked {P} {A} good asked all answer is p a =
    let V : Bool → Type 0 = λ x. IsTrue x ↔ (P × (IsTrue asked → A)) in
    subst V (sym is) (both_true {P = P} {Q = IsTrue asked → A} good (not asked || all) p (if_asked asked all a))

-- and one that is good exactly if three are
pub good_verdict : {P Q W A : Type 0} (b h w asked all answer : Bool) → answer ≡ ((b && (h && w)) && (not asked || all)) → IsTrue b ↔ P → IsTrue h ↔ Q → IsTrue w ↔ W → IsTrue all ↔ A
    → IsTrue answer ↔ ((P × (Q × W)) × (IsTrue asked → A))
good_verdict b h w asked all answer is p q r a = good_if_asked (b && (h && w)) asked all answer is (both_true b (h && w) p (both_true h w q r)) a
