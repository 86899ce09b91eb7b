-- The denominators of the lookups of one AIR whose challenges are a bare list.
use Rattle.std.specs.Prelude.{◌+◌, ◌*◌, ℕ, List, map, slice_index_or}
use Rattle.field.specs.Polynomial.{combined}
use Rattle.field.specs.Ring.{Ring, sub_in}
use Rattle.field.specs.Extension.{Extension}
use Rattle.lookup_model.specs.Message.{Key}

module _ {F K : Type 0} (S : Ring K) (embed : F → K) where
  -- the denominator of a tuple of these values: `alpha - t`, where t is the tuple combined by beta
  abbrev pub tuple_denominator_over : K → K → List F → K
  tuple_denominator_over alpha beta tuple = sub_in S alpha (combined S (map embed tuple) beta)

  -- The denominator of a tuple over the challenges of a column. Column c takes challenge 2c as its alpha
  -- and challenge 2c + 1 as its beta.
  abbrev pub column_denominator_over : List K → ℕ → List F → K
  column_denominator_over challenges column =
      tuple_denominator_over (slice_index_or challenges (2 * column) S.zero) (slice_index_or challenges (2 * column + 1) S.zero)

module _ {F K : Type 0} (E : Extension F K) where
  -- the denominator of a tuple: the challenge of its bus minus the combined tuple
  abbrev pub tuple_denominator : K → K → List F → K
  tuple_denominator alpha beta = tuple_denominator_over E.ring E.embed alpha beta

  -- the denominator of a tuple over the challenges of a column
  abbrev pub column_denominator : List K → ℕ → List F → K
  column_denominator challenges column = column_denominator_over E.ring E.embed challenges column

  -- the denominator of a key whose id is a column
  abbrev pub key_denominator : List K → Key F → K
  key_denominator challenges key = column_denominator challenges key.id key.tuple
