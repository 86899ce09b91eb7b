-- Variables within a layout, expression by expression.
use Rattle.std.proofs.Common.{◌≡◌, ◌↔◌, ◌+◌, ◌<◌, ℕ, Some, List, All, get_or, length, take, subst, sym}
use Rattle.std.proofs.lemmas.List.Elements.{All-pop, All-push}
use Rattle.list_laws.proofs.Items.{take_item}

-- what holds of the first items, and of one more
pub all_more : {A : Type 0} (P : A → Type 0) (xs : List A) (i : ℕ) (x : A) → i < length xs → x ≡ get_or xs i x → All P (take (i + 1) xs) ↔ (All P (take i xs) × P x)
all_more P xs i x lt is = (
  λ all. All-pop P (take (i + 1) xs) (take i xs) (Some x) (take_item xs i x lt is) all,
  λ both. subst (All P) (sym (take_item xs i x lt is)) (All-push P (take i xs) x both.0 both.1),
)

-- one more, after what was there before
pub one_more : {Next SoFar Start More Done Added : Type 0} → Next ↔ (SoFar × Added) → More ↔ (Done × Added) → SoFar ↔ (Start × Done) → Next ↔ (Start × More)
one_more next more so_far = (
  λ n. let two = next.0 n in let before = so_far.0 two.0 in (before.0, more.1 (before.1, two.1)),
  λ t. let two = more.0 t.1 in next.1 (so_far.1 (t.0, two.0), two.1),
)

-- and after nothing
pub one_more_alone : {Next SoFar More Done Added : Type 0} → Next ↔ (SoFar × Added) → More ↔ (Done × Added) → SoFar ↔ Done → Next ↔ More
one_more_alone next more so_far = (λ n. let two = next.0 n in more.1 (so_far.0 two.0, two.1), λ m. let two = more.0 m in next.1 (so_far.1 two.0, two.1))

-- three, one after another
pub three_more : {First Second Third Start A B C : Type 0} → First ↔ (Start × A) → Second ↔ (First × B) → Third ↔ (Second × C) → Third ↔ (Start × (A × B × C))
three_more first second third = (
  λ t. let c = third.0 t in let b = second.0 c.0 in let a = first.0 b.0 in (a.0, (a.1, b.1, c.1)),
  λ t. third.1 (second.1 (first.1 (t.0, t.1.0), t.1.1), t.1.2),
)
