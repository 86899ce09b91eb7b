-- How a run ends.
use Rattle.std.specs.Prelude.{◌≡◌, ◌⊎◌, ℕ, Bool, List, Option, IsSomeAnd, cond}
use Rattle.std.specs.Io.KnownBytes.{Appends}
use Rattle.program_ending.specs.Written.{AppendsFront, WritesFrontIfAny, WritesIfAny}

-- What an answer is made of: its text, a note for the errors, whether it is yes, and what is told where it cannot be
-- written.
pub record AnswerParts : Type 0 where
  pub text : List ℕ
  pub note : Option (List ℕ)
  pub yes : Bool
  pub unwritten : Option (List ℕ)

module _ {W E : Type 0} (contents : W → Option (List ℕ)) (contents_of_errors : E → Option (List ℕ)) (answer : AnswerParts) (output output_after : W) (errors errors_after : E) where
  -- all is written: the text, and then the note
  abbrev pub IsWritten : Type 0
  IsWritten =
      Appends (contents output) (contents output_after) answer.text
      × WritesIfAny contents_of_errors errors errors_after answer.note

  -- What may be written at status 2: the text, and a front of the note; or a front of the text, and of what is told of
  -- that. That this comes only of a write that fails is tested.
  abbrev pub IsCutOff : Type 0
  IsCutOff =
      (Appends (contents output) (contents output_after) answer.text
      × IsSomeAnd answer.note (AppendsFront (contents_of_errors errors) (contents_of_errors errors_after)))
      ⊎ (AppendsFront (contents output) (contents output_after) answer.text
      × WritesFrontIfAny contents_of_errors errors errors_after answer.unwritten)

  -- The status of a run that answers, and what becomes of its outputs, of those whose bytes are known: 0 if the answer is
  -- yes and 1 if not, and all is written; or 2, and it may be cut off.
  abbrev pub EndsAnswered : ℕ → Type 0
  EndsAnswered status = ((status ≡ cond answer.yes 0 1) × IsWritten) ⊎ ((status ≡ 2) × IsCutOff)
