-- Widths of tuples that are folded into one lookup, or sent on one bus.
use Rattle.std.specs.Prelude.{◌≡◌, ◌≢◌, ◌<◌, ℕ, List, Some, slice_get}
use Rattle.std.specs.String.{string_bytes}
use Rattle.std.specs.declared.alloc.Global.{Global}
use Rattle.std.specs.declared.string.String.{String}
use Rattle.lookup_model.specs.declared.error.LookupError.{LookupError}
use Rattle.lookup_model.specs.declared.error.LookupError.TheVariants.{TupleWidths}

-- the first width, and the first one that differs from it
pub record HasOtherWidth (widths : List ℕ) (width other : ℕ) : Type 0 where
  pub index : ℕ
  pub first : slice_get widths 0 ≡ Some width
  pub differs : other ≢ width
  pub found : slice_get widths index ≡ Some other
  pub before : (i v : ℕ) → i < index → slice_get widths i ≡ Some v → v ≡ width

-- the refusal of two widths, with a context
pub record IsTupleWidths (context : List ℕ) (width other : ℕ) (e : LookupError) : Type 0 where
  pub text : String Global
  pub text_is : string_bytes text ≡ context
  pub error_is : e ≡ TupleWidths text width other

-- these widths are not all the same, and are refused for that
pub record AreUnevenWidths (context widths : List ℕ) (e : LookupError) : Type 0 where
  pub width : ℕ
  pub other : ℕ
  pub differ : HasOtherWidth widths width other
  pub refusal : IsTupleWidths context width other e
