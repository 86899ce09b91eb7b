-- Messages: what the lookups of a trace send (LogUp, eprint 2022/1530: an entry with its
-- multiplicity).
use Rattle.std.specs.Prelude.{ℕ, Bool, List, ◌&&◌, nat_eq}
use Rattle.std.specs.Cmp.Lexicographic.{pointwise}

-- what a message is about: the id under which it is sent, and the values of its tuple
pub record Key (F : Type 0) : Type 0 where
  pub id : ℕ
  pub tuple : List F

-- a key with a signed multiplicity
pub record Message (F : Type 0) : Type 0 where
  pub key : Key F
  pub multiplicity : F

-- whether two keys have the same id and the same tuple, where eq compares two elements
abbrev pub same_key : {F : Type 0} → (F → F → Bool) → Key F → Key F → Bool
same_key eq a b = nat_eq a.id b.id && pointwise eq a.tuple b.tuple
