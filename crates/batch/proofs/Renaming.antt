-- A renaming of ids from pairs of an old and a new one: it keeps different ids apart, and takes each old one to
-- the new one beside it.
use Rattle.std.proofs.Common.{◌≡◌, ◌↔◌, ◌<◌, ◌+◌, ℕ, true, get_or, nat_eq, Option, None, Some, List, unwrap_or, refl, sym, ap, arith}
use Rattle.std.proofs.lemmas.Bool.Decides.{Decides-eqb}
use Rattle.std.proofs.lemmas.List.Elements.{Contains-get_or, recursion_from_All}
use Rattle.std.proofs.lemmas.Map.Views.{Contains-from_lookup, exact_unsigned_eq}
use Rattle.std.specs.List.{Contains}
use Rattle.std.specs.Map.{lookup}
use Rattle.checker_batches.proofs.Members.{lookup_found}

-- the renaming, to the new number beside the first pair that has the old one: a number that no pair has goes past the first m
abbrev pub rename_by : List (ℕ × ℕ) → ℕ → ℕ → ℕ
rename_by pairs m i = unwrap_or (lookup (nat_eq i) pairs) (i + m)

-- two pairs agree: they have one old number exactly if they have one new one
abbrev pub Agree : ℕ × ℕ → ℕ × ℕ → Type 0
Agree p q = (p.0 ≡ q.0) ↔ (p.1 ≡ q.1)

abbrev pub AllAgree : List (ℕ × ℕ) → Type 0
AllAgree pairs = (p q : ℕ × ℕ) → Contains pairs p → Contains pairs q → Agree p q

module _ (pairs : List (ℕ × ℕ)) (m : ℕ) (agree : AllAgree pairs) where
  found : (i v : ℕ) → lookup (nat_eq i) pairs ≡ Some v → Contains pairs (i, v)
  found i v is = Contains-from_lookup exact_unsigned_eq i v pairs is

  -- each old number goes to the new one beside it
  pub renames : (p : ℕ × ℕ) → Contains pairs p → rename_by pairs m p.0 ≡ p.1
  renames p there = ap (λ o. unwrap_or o (p.0 + m)) (lookup_found (nat_eq p.0) pairs p.0 p.1 there ((Decides-eqb p.0 p.0).1 refl)
      (recursion_from_All (λ e. nat_eq p.0 e.0 ≡ true → e.1 ≡ p.1) pairs (λ i d lt t. (agree (get_or pairs i d) p (Contains-get_or pairs i d lt) there).0 (sym ((Decides-eqb p.0 (get_or pairs i d).0).0 t)))))

  -- different numbers stay apart, if the new ones are among the first m
  pub renames_apart : ((p : ℕ × ℕ) → Contains pairs p → p.1 < m) → (i j : ℕ) → rename_by pairs m i ≡ rename_by pairs m j → i ≡ j
  renames_apart below i j e = by_cases (lookup (nat_eq i) pairs) refl (lookup (nat_eq j) pairs) refl e
    where
      by_cases : (o : Option ℕ) → lookup (nat_eq i) pairs ≡ o → (p : Option ℕ) → lookup (nat_eq j) pairs ≡ p → unwrap_or o (i + m) ≡ unwrap_or p (j + m) → i ≡ j
      by_cases None none None other same = omega (arith, same)
      by_cases None none (Some w) is same = absurd (omega (arith, same, below (j, w) (found j w is)))
      by_cases (Some v) is None none same = absurd (omega (arith, same, below (i, v) (found i v is)))
      by_cases (Some v) is (Some w) other same = (agree (i, v) (j, w) (found i v is) (found j w other)).1 same
