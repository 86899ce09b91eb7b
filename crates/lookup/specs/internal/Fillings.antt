-- The columns of a bus while its lookups come.
use Rattle.std.specs.Prelude.{◌≡◌, ◌⊎◌, ℕ, All, List, [], ◌∷◌, ◌++◌, MatchOption, Result, map}
use Rattle.std.specs.List.{AllZip}
use Rattle.std.specs.String.{string_bytes}
use Rattle.std.specs.declared.alloc.Global.{Global}
use Rattle.std.specs.declared.string.String.{String}
use Rattle.air_expressions.specs.declared.base_expression.SymbolicExpression.{SymbolicExpression}
use Rattle.lookup_model.specs.Outline.{Outline, fields_of}
use Rattle.lookup_model.specs.declared.error.LookupError.{LookupError}
use Rattle.lookup_model.specs.declared.error.LookupError.TheVariants.{Memory}
use Rattle.lookup.specs.Buses.{bus_groups}
use Rattle.lookup.specs.Packing.{IsFilling, IsStuck, joined_lookup}
use Rattle.lookup.specs.Trials.{IsMember}
use Rattle.lookup.specs.declared.packing.filling.Bus.{Bus}

-- columns are those of a greedy cut of the lookups that are seen
pub record AreGreedyColumns {E : Type 0} (answers : Outline E → Result ℕ LookupError → Type 0) (max_degree : ℕ) (seen columns : List (Outline E)) : Type 0 where
  pub cut : List (Outline E × List (Outline E))
  pub filling : IsFilling answers max_degree cut seen
  pub columns_are : columns ≡ map joined_lookup cut

module _ {F K : Type 0} where
  -- the columns of a bus: those that are closed, and then the open one
  abbrev pub columns_of : Bus F K → List (Outline (SymbolicExpression F))
  columns_of bus = map fields_of bus.closed.items ++ fields_of bus.last ∷ []

  module _ (keeps : K → Outline (SymbolicExpression F) → Type 0) where
    -- the columns of a bus hold lookups that may be joined, and something is kept of the open one
    pub record IsOpen (bus : Bus F K) : Type 0 where
      pub closed : All IsMember bus.closed.items
      pub member : IsMember bus.last
      pub kept : keeps bus.kept (fields_of bus.last)

    module _ (answers : Outline (SymbolicExpression F) → Result ℕ LookupError → Type 0) (max_degree : ℕ) where
      -- A bus that has taken these lookups: its columns, or out of memory, or the refusal of its first trial
      -- that is refused.
      abbrev pub IsFilled : List (Outline (SymbolicExpression F)) → Bus F K → Type 0
      IsFilled members bus = MatchOption bus.refusal (IsOpen bus × AreGreedyColumns answers max_degree members (columns_of bus)) (λ e. (e ≡ Memory) ⊎ IsStuck answers max_degree members e)

      -- the buses of these lookups, each under its name
      abbrev pub AreFilledBuses : List (Outline (SymbolicExpression F)) → List (String Global × Bus F K) → Type 0
      AreFilledBuses seen entries = AllZip (λ group entry. (string_bytes entry.0 ≡ group.0) × IsFilled group.1 entry.1) (bus_groups seen) entries
