-- What a walk over rows does, one part after another.
use Rattle.std.specs.Prelude.{◌++◌, List, []}
use Rattle.lookup_debug.specs.Contributions.{Contribution}

-- What is done for some contributions leaves a visitor ready for more. A visitor that stays as it is has
-- done all for no contributions. What is done for some, and then for more, is done for both.
pub record IsWalk {F A : Type 0} (Ready : A → Type 0) (Does : A → A → List (Contribution F) → Type 0) : Type 0 where
  pub leaves : (a b : A) (xs : List (Contribution F)) → Does a b xs → Ready b
  pub rests : (a : A) → Ready a → Does a a []
  pub joins : (a b c : A) (xs ys : List (Contribution F)) → Does a b xs → Does b c ys → Does a c (xs ++ ys)
