-- How much of a text is written.
use Rattle.std.specs.Prelude.{◌≡◌, ◌++◌, ℕ, Bool, true, List, Option, None, Some}
use Rattle.std.specs.Io.KnownBytes.{Appends}

-- known bytes grow by a front of these, which may be empty or all of them
abbrev pub AppendsFront : Option (List ℕ) → Option (List ℕ) → List ℕ → Type 0
AppendsFront old new bytes = (front : List ℕ) × (rest : List ℕ) × (bytes ≡ front ++ rest) × Appends old new front

-- a front of these bytes is written, and all of them if `whole` is true
pub record WritesFront (old new : Option (List ℕ)) (bytes : List ℕ) (whole : Bool) : Type 0 where
  pub front : AppendsFront old new bytes
  pub all : whole ≡ true → Appends old new bytes

module _ {W : Type 0} (contents : W → Option (List ℕ)) (old new : W) where
  -- a text is written, if there is one; else nothing
  abbrev pub WritesIfAny : Option (List ℕ) → Type 0
  WritesIfAny None = new ≡ old
  WritesIfAny (Some text) = Appends (contents old) (contents new) text

  -- a front of a text is written, if there is one; else nothing
  abbrev pub WritesFrontIfAny : Option (List ℕ) → Type 0
  WritesFrontIfAny None = new ≡ old
  WritesFrontIfAny (Some text) = AppendsFront (contents old) (contents new) text
