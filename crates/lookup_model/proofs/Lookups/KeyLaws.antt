-- The test of keys decides their equality.
use Rattle.std.proofs.Common.{◌≡◌, Bool, nat_eq, refl, Decides}
use Rattle.std.proofs.lemmas.Bool.{and_parts, and_from}
use Rattle.std.proofs.lemmas.Bool.Decides.{Decides-eqb}
use Rattle.std.proofs.lemmas.Slice.Eq.{slice_eq-Decides}
use Rattle.std.specs.Cmp.Lexicographic.{pointwise}
use Rattle.lookup_model.specs.Message.{Key, same_key}

-- two keys are one where the test of elements decides their equality
pub same_key-Decides : {F : Type 0} (eq : F → F → Bool) → ((a b : F) → Decides (eq a b) (a ≡ b)) → (a b : Key F) → Decides (same_key eq a b) (a ≡ b)
same_key-Decides eq decides a b =
    let ids = Decides-eqb a.id b.id in
    let tuples = slice_eq-Decides decides a.tuple b.tuple (pointwise eq a.tuple b.tuple) refl in (
      λ e. let parts = and_parts (nat_eq a.id b.id) (pointwise eq a.tuple b.tuple) e in λ i. record { id = ids.0 parts.0 i; tuple = tuples.0 parts.1 i },
      λ p. and_from (nat_eq a.id b.id) (pointwise eq a.tuple b.tuple) (ids.1 (λ i. (p i).id)) (tuples.1 (λ i. (p i).tuple)),
    )
